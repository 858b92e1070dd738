use Rattle.rsp_number.proofs.Widening.{times-fits, plus-size, plus-fits, plus-is}
use Rattle.rsp_number.proofs.wide.Wide.times_plus.Goals as goal

pub overflow_mul-result : goal.overflow_mul-result
overflow_mul-result c = times-fits _ c.args.self c.args.factor c.self.view_is c.requires.size c.requires.factor

pub overflow_add-result : goal.overflow_add-result
overflow_add-result c = plus-fits _ c.args.self c.args.factor c.args.carry c.self.view_is c.requires.size c.requires.factor c.requires.carry

pub returns : goal.returns
returns c = plus-is _ c.args.self c.args.factor c.args.carry c.self.view_is c.requires.size c.requires.factor c.requires.carry

pub invariant_of-result : goal.invariant_of-result
invariant_of-result c = rw (returns c) (plus-size c.args.self c.args.factor c.args.carry c.requires.size c.requires.factor c.requires.carry)
