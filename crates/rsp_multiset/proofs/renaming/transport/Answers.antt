use Rattle.rsp_multiset.specs.Shown.{Passes}
use Rattle.rsp_multiset.proofs.Shown.{compatible-shown, shares-shown, merge-shown, row_eq-shown, weight-known}
use Rattle.rsp_multiset.proofs.renaming.transport.Goals as goal

pub returns-clause-compatible : goal.returns-clause-compatible
returns-clause-compatible g c = λ known shown row other apart. compatible-shown g.met.V.Cell.identical g.met.W.Cell.identical {knows = Passes known} apart row other

pub returns-clause-shares : goal.returns-clause-shares
returns-clause-shares g c = λ shown row other. shares-shown shown row other

pub returns-clause-merged : goal.returns-clause-merged
returns-clause-merged g c = λ shown row other. merge-shown shown row other

pub returns-clause-equal : goal.returns-clause-equal
returns-clause-equal g c = λ known shown row other apart. row_eq-shown g.met.V.Cell.identical g.met.W.Cell.identical {knows = Passes known} apart row other

pub returns-clause-counts : goal.returns-clause-counts
returns-clause-counts g c = λ known shown entries row apart. weight-known g.met.V.Cell.identical g.met.W.Cell.identical {knows = Passes known} apart entries row
