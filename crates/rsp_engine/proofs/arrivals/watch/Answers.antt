use Rattle.std.proofs.Common.{◌≡◌, ◌∙◌, Some, ap, map, refl, subst, sym}
use Rattle.std.specs.List.{All}
use Rattle.rsp_engine.specs.Inside.{fixed}
use Rattle.rsp_engine.specs.Readers.{IsStill, watchers_of, windows_of}
use Rattle.rsp_engine.specs.declared.readers.Readers.{Readers}
use Rattle.rsp_engine.proofs.Calming.{all_moved, all_still, all_watching}
use Rattle.rsp_engine.proofs.ReadAlike.{fixed_parts, watchers_alike, windows_alike}
use Rattle.rsp_engine.proofs.WatchedWith.{all_due, all_fresh, all_parts, all_tell, all_up_to, all_watch, same_by}
use Rattle.rsp_engine.proofs.arrivals.watch.Goals as goal

pub attend-requires-clause-watching : goal.attend-requires-clause-watching
attend-requires-clause-watching g c =
    all_watching c.args.queries.now c.calm.new.queries c.calm.ensures.long c.calm.ensures.calmed c.requires.watching

pub attend-requires-clause-read : goal.attend-requires-clause-read
attend-requires-clause-read g c =
    let olds = c.args.queries.now in
    let calm = c.calm.new.queries in
    let same : map fixed calm ≡ map fixed olds =
    same_by fixed olds calm c.calm.ensures.long (λ k d within. ap (λ p. p.query) (c.calm.ensures.calmed k d within).parts) in
    watchers_alike c.args.readers.now c.args.readers.now olds calm c.requires.read same (λ s. refl) c.args.stream.now

pub returns : goal.returns
returns g c =
    let olds = c.args.queries.now in
    let news = c.attend.new.queries in
    let stream = c.args.stream.now in
    let changed = c.in_ok-attend.ensures in
    let moved = all_moved stream c.args.time c.args.from olds c.calm.new.queries news c.calm.ensures.long c.calm.ensures.calmed changed c.requires.watching c.requires.sought in
    let still = all_still stream c.args.time c.args.from olds c.calm.new.queries news c.calm.ensures.long c.calm.ensures.calmed changed in
    let parts = all_parts stream c.args.time c.args.from olds news moved in
    let same = fixed_parts olds news parts in
    let newest : c.note.new.self.newest ≡ Some stream = ap (λ (r : Readers). r.newest) c.note.ensures ∙ ap Some c.in_ok-newest.ensures in
    record {
      parts = parts;
      sought = all_due stream c.args.time c.args.from olds news moved c.requires.sought;
      read = record {
        watchers = watchers_alike c.args.readers.now c.note.new.self olds news c.requires.read same (λ s. ap (λ (r : Readers). watchers_of r s) c.note.ensures);
        windows = windows_alike c.args.readers.now c.note.new.self olds news c.requires.read same (λ s. ap (λ (r : Readers). windows_of r s) c.note.ensures);
        still = subst (λ o. All (IsStill o) news) (sym newest) still;
      };
      watching = all_watch stream c.args.time c.args.from olds news moved c.requires.watching;
      up_to = all_up_to stream c.args.time c.args.from olds news moved;
      fresh = all_fresh stream c.args.time c.args.from olds news moved;
      told = λ items graph firsts told.
          all_tell stream c.args.time c.args.from olds news moved items (record { stream = stream; time = c.args.time; graph = graph }) refl refl firsts told;
    }
