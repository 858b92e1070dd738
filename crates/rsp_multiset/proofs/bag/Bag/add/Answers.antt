use Rattle.std.proofs.Common.{OnOk, ◌≡◌, ◌+ℤ◌, List, Option, subst}
use Rattle.rsp_multiset.specs.Rows.{row_eq}
use Rattle.rsp_multiset.specs.Weights.{weight, only}
use Rattle.rsp_multiset.proofs.bag.Bag.add.Goals as goal

pub returns-clause-ok : goal.returns-clause-ok
returns-clause-ok g c = subst (λ n. OnOk c.alter.result ((q : List (Option g.row.V.Denot)) → weight (row_eq g.V.PartialEq.eq) c.alter.new.self q ≡ weight (row_eq g.V.PartialEq.eq) c.args.self.now q +ℤ only (row_eq g.V.PartialEq.eq q c.args.row) n)) c.in_ok-of_many.ensures.1 c.alter.ensures.ok
