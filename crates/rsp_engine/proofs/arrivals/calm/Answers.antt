use Rattle.std.proofs.Common.{◌≡◌, ◌∙◌, None, Some, ap, get_or, refl, subst, sym}
use Rattle.std.specs.List.{All}
use Rattle.std.specs.Option.{option_copied}
use Rattle.rsp_engine.specs.Readers.{IsStill}
use Rattle.rsp_engine.proofs.Calmed.{calm_is}
use Rattle.rsp_engine.proofs.Calming.{calm_all}
use Rattle.rsp_engine.proofs.arrivals.calm.Goals as goal

pub calm_watchers-requires : goal.calm_watchers-requires
calm_watchers-requires g c = c.requires.watchers c.in-Some.stream.now

pub returns-in-Some : goal.returns-in-Some
returns-in-Some g c =
    let newest : c.args.readers.now.newest ≡ Some c.in-Some.stream.now = sym c.newest.ensures ∙ ap option_copied c.in-Some.is in
    record {
      long = c.calm_watchers.ensures.long;
      calmed = calm_all c.in-Some.stream.now c.args.queries.now c.calm_watchers.new.queries
          (subst (λ o. All (IsStill o) c.args.queries.now) newest c.requires.still) c.calm_watchers.ensures;
    }

pub returns-in-None : goal.returns-in-None
returns-in-None g c =
    let newest : c.args.readers.now.newest ≡ None = sym c.newest.ensures ∙ ap option_copied c.in-None.is in
    record {
      long = refl;
      calmed = λ k d within.
          calm_is (get_or c.args.queries.now k d) (subst (λ o. All (IsStill o) c.args.queries.now) newest c.requires.still k d within refl);
    }
