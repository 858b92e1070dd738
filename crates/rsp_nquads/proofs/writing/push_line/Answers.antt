use Rattle.rsp_terms.specs.Terms.{term_text}
use Rattle.rsp_nquads.specs.Writing.{graph_text}
use Rattle.rsp_nquads.proofs.Lines.{line_in_parts}
use Rattle.rsp_nquads.proofs.writing.push_line.Goals as goal

pub returns-clause-ok : goal.returns-clause-ok
returns-clause-ok c =
    line_in_parts c.args.out.now.items _ _ _ _ _ (term_text c.args.quad.now.triple.subject) (term_text c.args.quad.now.triple.predicate)
    (term_text c.args.quad.now.triple.object) (graph_text c.args.quad.now.graph)
    c.in_ok-push_then.ensures.ok c.in_ok-push_then-2.ensures.ok c.in_ok-print.ensures.ok c.in_ok-push_graph.ensures.ok
    c.in_ok-extend_from_slice.ensures.items
