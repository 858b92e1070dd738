use Rattle.std.proofs.Common.{map, ◌∙◌}
use Rattle.std.specs.Map.{keys_of}
use Rattle.std.proofs.lemmas.Result.{IfOk-weaker}
use Rattle.rsp_groups.specs.Carrying.{learnt_groups}
use Rattle.rsp_groups.proofs.Applying.{known-of, touched-all, entries-all, arguments-long, changed-all, rows-made, net-fits, net-leads}
use Rattle.rsp_groups.proofs.Concluding.{rows-valued}
use Rattle.rsp_groups.proofs.Turning.{shown_change, turn-of, rows-weaker, rows-alike}
use Rattle.rsp_groups.proofs.Walking.{alike-twice}
use Rattle.rsp_groups.proofs.operator.apply_change.Goals as goal

pub read_entries-requires : goal.read_entries-requires
read_entries-requires g c =
    known-of c.args.grouping.now.width (g.D.Domain.knows c.args.domain.now) c.args.change.now c.requires.fit

pub touched_rows-requires : goal.touched_rows-requires
touched_rows-requires g c =
    let same = g.met.D.Value.Cell.identical in
    let width = c.args.grouping.now.width in
    let keys = c.args.grouping.now.keys.items in
    let aggregates = c.args.grouping.now.aggregates.items in
    let change = c.args.change.now in
    let knows0 = g.D.Domain.knows c.args.domain.now in
    let shown0 = g.D.Domain.shown c.args.domain.now in
    let knows1 = g.D.Domain.knows c.read_entries.new.domain in
    let shown1 = g.D.Domain.shown c.read_entries.new.domain in
    let learnt = c.read_entries.ensures.known in
    let apart1 = g.met.D.Domain.told_apart c.read_entries.new.domain in
    touched-all same knows0 knows1 shown0 shown1 learnt apart1 width keys
    (λ a. g.C.Computed.of a.argument) aggregates (λ e. e.key) (λ e. e.values.items) (λ e. e.by) change c.in_ok-touched.touched c.in_ok-entries.entries.items c.as_slice.result.now c.as_slice.result.now
    c.requires.fit c.distinct-touched.ensures.changes c.in_ok-touched.ensures c.as_slice.ensures.value c.as_slice.ensures.value
    c.in_ok-entries.ensures.keys c.in_ok-entries.ensures.values c.in_ok-entries.ensures.counts

pub move_all-requires : goal.move_all-requires
move_all-requires g c =
    let same = g.met.D.Value.Cell.identical in
    let width = c.args.grouping.now.width in
    let keys = c.args.grouping.now.keys.items in
    let aggregates = c.args.grouping.now.aggregates.items in
    let change = c.args.change.now in
    let knows0 = g.D.Domain.knows c.args.domain.now in
    let shown0 = g.D.Domain.shown c.args.domain.now in
    let knows1 = g.D.Domain.knows c.read_entries.new.domain in
    let shown1 = g.D.Domain.shown c.read_entries.new.domain in
    let knows2 = g.D.Domain.knows c.touched_rows.new.domain in
    let shown2 = g.D.Domain.shown c.touched_rows.new.domain in
    let learnt = c.read_entries.ensures.known in
    let learnt2 = alike-twice knows0 knows1 knows2 shown0 shown1 shown2 learnt c.touched_rows.ensures.known in
    let apart2 = g.met.D.Domain.told_apart c.touched_rows.new.domain in
    let given = c.requires in
    let stands1 = learnt_groups knows0 shown0 knows1 shown1 width keys _ _ _ c.args.groups.now.entries given.before learnt given.stands in
    let first = c.in_ok-befores.ensures.law (map (λ a. g.C.Computed.of a.argument) aggregates) (map (λ a. g.F.Fold.aggregate a.fold) aggregates) given.before stands1 in (
      c.touched_rows.new.domain,
      (
        map (λ a. g.C.Computed.of a.argument) aggregates,
        (
          arguments-long same knows0 knows2 shown0 shown2 learnt2 apart2 width keys
              (λ a. g.C.Computed.of a.argument) aggregates (λ e. e.key) (λ e. e.values.items) (λ e. e.by) change c.in_ok-touched.touched c.in_ok-entries.entries.items c.as_slice.result.now c.as_slice-2.result.now
              c.requires.fit c.distinct-touched.ensures.changes c.in_ok-touched.ensures c.as_slice.ensures.value c.as_slice-2.ensures.value
              c.in_ok-entries.ensures.keys c.in_ok-entries.ensures.values c.in_ok-entries.ensures.counts,
          record {
            rows = shown_change shown0 change;
            before = given.before;
            after = given.after;
            are = entries-all same knows0 knows2 shown0 shown2 learnt2 apart2 width keys
                (λ a. g.C.Computed.of a.argument) aggregates (λ e. e.key) (λ e. e.values.items) (λ e. e.by) change c.in_ok-touched.touched c.in_ok-entries.entries.items c.as_slice.result.now c.as_slice-2.result.now
                c.requires.fit c.distinct-touched.ensures.changes c.in_ok-touched.ensures c.as_slice.ensures.value c.as_slice-2.ensures.value
                c.in_ok-entries.ensures.keys c.in_ok-entries.ensures.values c.in_ok-entries.ensures.counts;
            turn = turn-of shown0 given.before given.after change given.leads;
            stands = first.0;
          },
        ),
      ),
    )

pub touched_rows-requires-2 : goal.touched_rows-requires-2
touched_rows-requires-2 g c =
    let same = g.met.D.Value.Cell.identical in
    let width = c.args.grouping.now.width in
    let keys = c.args.grouping.now.keys.items in
    let aggregates = c.args.grouping.now.aggregates.items in
    let change = c.args.change.now in
    let knows0 = g.D.Domain.knows c.args.domain.now in
    let shown0 = g.D.Domain.shown c.args.domain.now in
    let knows1 = g.D.Domain.knows c.read_entries.new.domain in
    let shown1 = g.D.Domain.shown c.read_entries.new.domain in
    let knows2 = g.D.Domain.knows c.touched_rows.new.domain in
    let shown2 = g.D.Domain.shown c.touched_rows.new.domain in
    let learnt2 = alike-twice knows0 knows1 knows2 shown0 shown1 shown2 c.read_entries.ensures.known c.touched_rows.ensures.known in
    let apart2 = g.met.D.Domain.told_apart c.touched_rows.new.domain in
    touched-all same knows0 knows2 shown0 shown2 learnt2 apart2 width keys
    (λ a. g.C.Computed.of a.argument) aggregates (λ e. e.key) (λ e. e.values.items) (λ e. e.by) change c.in_ok-touched.touched c.in_ok-entries.entries.items c.as_slice.result.now c.as_slice-2.result.now
    c.requires.fit c.distinct-touched.ensures.changes c.in_ok-touched.ensures c.as_slice.ensures.value c.as_slice-2.ensures.value
    c.in_ok-entries.ensures.keys c.in_ok-entries.ensures.values c.in_ok-entries.ensures.counts

pub returns-clause-rows : goal.returns-clause-rows
returns-clause-rows g c =
    let same = g.met.D.Value.Cell.identical in
    let width = c.args.grouping.now.width in
    let keys = c.args.grouping.now.keys.items in
    let aggregates = c.args.grouping.now.aggregates.items in
    let change = c.args.change.now in
    let knows0 = g.D.Domain.knows c.args.domain.now in
    let shown0 = g.D.Domain.shown c.args.domain.now in
    let knows1 = g.D.Domain.knows c.read_entries.new.domain in
    let shown1 = g.D.Domain.shown c.read_entries.new.domain in
    let knows2 = g.D.Domain.knows c.touched_rows.new.domain in
    let shown2 = g.D.Domain.shown c.touched_rows.new.domain in
    let knows3 = g.D.Domain.knows c.touched_rows-2.new.domain in
    let shown3 = g.D.Domain.shown c.touched_rows-2.new.domain in
    let learnt = c.read_entries.ensures.known in
    let learnt2 = alike-twice knows0 knows1 knows2 shown0 shown1 shown2 learnt c.touched_rows.ensures.known in
    let apart2 = g.met.D.Domain.told_apart c.touched_rows.new.domain in
    let arguments = map (λ a. g.C.Computed.of a.argument) aggregates in
    let kinds = map (λ a. g.F.Fold.aggregate a.fold) aggregates in
    let given = c.requires in
    let stands1 = learnt_groups knows0 shown0 knows1 shown1 width keys _ _ _ c.args.groups.now.entries given.before learnt given.stands in
    let first = c.in_ok-befores.ensures.law arguments kinds given.before stands1 in
    let moved =
    c.in_ok-move_all.ensures c.touched_rows.new.domain arguments (shown_change shown0 change) given.before given.after
    (arguments-long same knows0 knows2 shown0 shown2 learnt2 apart2 width keys
    (λ a. g.C.Computed.of a.argument) aggregates (λ e. e.key) (λ e. e.values.items) (λ e. e.by) change c.in_ok-touched.touched c.in_ok-entries.entries.items c.as_slice.result.now c.as_slice-2.result.now
    c.requires.fit c.distinct-touched.ensures.changes c.in_ok-touched.ensures c.as_slice.ensures.value c.as_slice-2.ensures.value
    c.in_ok-entries.ensures.keys c.in_ok-entries.ensures.values c.in_ok-entries.ensures.counts)
    (entries-all same knows0 knows2 shown0 shown2 learnt2 apart2 width keys
    (λ a. g.C.Computed.of a.argument) aggregates (λ e. e.key) (λ e. e.values.items) (λ e. e.by) change c.in_ok-touched.touched c.in_ok-entries.entries.items c.as_slice.result.now c.as_slice-2.result.now
    c.requires.fit c.distinct-touched.ensures.changes c.in_ok-touched.ensures c.as_slice.ensures.value c.as_slice-2.ensures.value
    c.in_ok-entries.ensures.keys c.in_ok-entries.ensures.values c.in_ok-entries.ensures.counts)
    (turn-of shown0 given.before given.after change given.leads) first.0 in
    let second = c.in_ok-afters.ensures.law arguments kinds given.after moved in
    IfOk-weaker c.difference.result _ _
    (λ net made.
    net-fits same net c.in_ok-befores.befores.items c.in_ok-afters.afters.items made width knows3
    (rows-weaker width knows2 knows3 shown2 shown3 c.touched_rows-2.ensures.known c.in_ok-befores.befores.items first.1.0) second.1.0)
    c.difference.ensures

pub returns-clause-law : goal.returns-clause-law
returns-clause-law g c =
    let same = g.met.D.Value.Cell.identical in
    let width = c.args.grouping.now.width in
    let keys = c.args.grouping.now.keys.items in
    let aggregates = c.args.grouping.now.aggregates.items in
    let change = c.args.change.now in
    let knows0 = g.D.Domain.knows c.args.domain.now in
    let shown0 = g.D.Domain.shown c.args.domain.now in
    let knows1 = g.D.Domain.knows c.read_entries.new.domain in
    let shown1 = g.D.Domain.shown c.read_entries.new.domain in
    let knows2 = g.D.Domain.knows c.touched_rows.new.domain in
    let shown2 = g.D.Domain.shown c.touched_rows.new.domain in
    let knows3 = g.D.Domain.knows c.touched_rows-2.new.domain in
    let shown3 = g.D.Domain.shown c.touched_rows-2.new.domain in
    let learnt = c.read_entries.ensures.known in
    let learnt2 = alike-twice knows0 knows1 knows2 shown0 shown1 shown2 learnt c.touched_rows.ensures.known in
    let apart1 = g.met.D.Domain.told_apart c.read_entries.new.domain in
    let apart2 = g.met.D.Domain.told_apart c.touched_rows.new.domain in
    let arguments = map (λ a. g.C.Computed.of a.argument) aggregates in
    let kinds = map (λ a. g.F.Fold.aggregate a.fold) aggregates in
    let qs = keys_of c.in_ok-touched.touched in
    let touch =
    touched-all same knows0 knows1 shown0 shown1 learnt apart1 width keys
    (λ a. g.C.Computed.of a.argument) aggregates (λ e. e.key) (λ e. e.values.items) (λ e. e.by) change c.in_ok-touched.touched c.in_ok-entries.entries.items c.as_slice.result.now c.as_slice-2.result.now
    c.requires.fit c.distinct-touched.ensures.changes c.in_ok-touched.ensures c.as_slice.ensures.value c.as_slice-2.ensures.value
    c.in_ok-entries.ensures.keys c.in_ok-entries.ensures.values c.in_ok-entries.ensures.counts in
    let long =
    arguments-long same knows0 knows2 shown0 shown2 learnt2 apart2 width keys
    (λ a. g.C.Computed.of a.argument) aggregates (λ e. e.key) (λ e. e.values.items) (λ e. e.by) change c.in_ok-touched.touched c.in_ok-entries.entries.items c.as_slice.result.now c.as_slice-2.result.now
    c.requires.fit c.distinct-touched.ensures.changes c.in_ok-touched.ensures c.as_slice.ensures.value c.as_slice-2.ensures.value
    c.in_ok-entries.ensures.keys c.in_ok-entries.ensures.values c.in_ok-entries.ensures.counts in
    let entries =
    entries-all same knows0 knows2 shown0 shown2 learnt2 apart2 width keys
    (λ a. g.C.Computed.of a.argument) aggregates (λ e. e.key) (λ e. e.values.items) (λ e. e.by) change c.in_ok-touched.touched c.in_ok-entries.entries.items c.as_slice.result.now c.as_slice-2.result.now
    c.requires.fit c.distinct-touched.ensures.changes c.in_ok-touched.ensures c.as_slice.ensures.value c.as_slice-2.ensures.value
    c.in_ok-entries.ensures.keys c.in_ok-entries.ensures.values c.in_ok-entries.ensures.counts in
    IfOk-weaker c.difference.result _ _
    (λ net made before after stands leads.
    let stands1 = learnt_groups knows0 shown0 knows1 shown1 width keys _ _ _ c.args.groups.now.entries before learnt stands in
    let first = c.in_ok-befores.ensures.law arguments kinds before stands1 in
    let moved =
    c.in_ok-move_all.ensures c.touched_rows.new.domain arguments (shown_change shown0 change) before after long entries (turn-of shown0 before after change leads) first.0 in
    let second = c.in_ok-afters.ensures.law arguments kinds after moved in
    let befores =
    rows-alike width knows2 knows3 shown2 shown3 c.touched_rows-2.ensures.known c.in_ok-befores.befores.items first.1.0
    ∙ first.1.1
    ∙ rows-valued shown1 width keys (λ a. a.variable) (λ a. g.C.Computed.of a.argument) (λ a. g.F.Fold.aggregate a.fold) aggregates before qs in
    let afters =
    second.1.1
    ∙ rows-made knows1 knows2 shown1 shown2 c.touched_rows.ensures.known width keys (λ a. a.variable) (λ a. g.C.Computed.of a.argument) (λ a. g.F.Fold.aggregate a.fold) aggregates qs touch after in (
      second.0,
      net-leads same net c.in_ok-befores.befores.items c.in_ok-afters.afters.items made shown3 _ _ _ _ befores afters
          (changed-all same knows0 knows1 shown0 shown1 learnt apart1 width keys
          (λ a. g.C.Computed.of a.argument) aggregates (λ e. e.key) (λ e. e.values.items) (λ e. e.by) change c.in_ok-touched.touched c.in_ok-entries.entries.items c.as_slice.result.now c.as_slice-2.result.now
          c.requires.fit c.distinct-touched.ensures.changes c.in_ok-touched.ensures c.as_slice.ensures.value c.as_slice-2.ensures.value
          c.in_ok-entries.ensures.keys c.in_ok-entries.ensures.values c.in_ok-entries.ensures.counts (λ a. a.variable) (λ a. g.F.Fold.aggregate a.fold)
          (λ a. g.met.F.Fold.aggregates_alike a.fold) before after leads),
    ))
    c.difference.ensures
