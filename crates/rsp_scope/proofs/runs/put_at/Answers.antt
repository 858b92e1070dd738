use Rattle.std.proofs.Common.{rules, ◌<◌, cond, length, set, ap, ◌∙◌}
use Rattle.std.proofs.lemmas.List.{set-get_or}
use Rattle.std.proofs.lemmas.Result.{IfOk-weaker, on_err_weaker}
use Rattle.rsp_scope.specs.Runs.{over}
use Rattle.rsp_scope.proofs.Endings.{put-more}
use Rattle.rsp_scope.proofs.runs.put_at.Goals as goal

pub returns-clause-ok : goal.returns-clause-ok
returns-clause-ok c =
    let below : c.args.at < length c.args.runs.now.items = search rules in
    IfOk-weaker c.put.result _ _
    (λ done more f.
    put-more f c.args.runs.now.items c.args.at c.index_mut.result.now c.put.new.self (cond done (f c.args.ending) 0) below c.index_mut.ensures.value (more f))
    c.put.ensures.ok

pub returns-clause-err : goal.returns-clause-err
returns-clause-err c =
    on_err_weaker c.put.result
    (λ same f.
    ap (λ l. over f l)
    (ap (set c.args.runs.now.items c.args.at) (same ∙ c.index_mut.ensures.value) ∙ set-get_or c.args.runs.now.items c.args.at c.index_mut.result.now))
    c.put.ensures.err
