use Rattle.rsp_algebra.specs.Meanings.{node_of}
use Rattle.rsp_algebra.proofs.FactsRead.{eval-read, overfull-read, work-read}
use Rattle.rsp_algebra.proofs.SameWork.{same_work}
use Rattle.rsp_algebra.proofs.tree.Tree.reads.Goals as goal

pub returns-clause-value : goal.returns-clause-value
returns-clause-value c = λ width test facts passes. eval-read width test (node_of c.args.self.now) passes facts

pub returns-clause-overfull : goal.returns-clause-overfull
returns-clause-overfull c = λ width test facts passes. overfull-read width test (node_of c.args.self.now) passes facts

pub returns-clause-work : goal.returns-clause-work
returns-clause-work c = λ width test before after passes. work-read width test (node_of c.args.self.now) passes before after

pub returns-clause-facts : goal.returns-clause-facts
returns-clause-facts c = λ width before after before' after' same same'.
    same_work width before after before' after' same same' (node_of c.args.self.now)
