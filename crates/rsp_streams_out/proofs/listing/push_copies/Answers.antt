use Rattle.std.proofs.Common.{◌∷◌, [], ◌++◌, ap, ◌∙◌}
use Rattle.rsp_multiset.specs.Rows.{row_eq}
use Rattle.rsp_multiset.specs.Weights.{times}
use Rattle.rsp_terms.specs.Same.{term_eq}
use Rattle.rsp_streams_out.proofs.Copies.{copied}
use Rattle.rsp_streams_out.proofs.listing.push_copies.Goals as goal

pub loop-preserved : goal.loop-preserved
loop-preserved c = λ q.
    let pushed = c.in_ok-push.ensures.items ∙ ap (λ row. c.loop.rows.items ++ row ∷ []) c.in_ok-share.ensures in
    ap (λ rows. times (row_eq term_eq) rows q) pushed
    ∙ copied (row_eq term_eq) c.loop.rows.items c.args.row.now q c.loop.counter _ (c.loop.invariant q)
