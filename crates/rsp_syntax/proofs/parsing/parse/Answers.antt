use Rattle.rsp_syntax.proofs.Causes.{never_memory}
use Rattle.rsp_syntax.proofs.Periods.{answer_periods}
use Rattle.rsp_syntax.proofs.Soundness.{answer_sound}
use Rattle.rsp_syntax.proofs.Tied.{tied}
use Rattle.rsp_syntax.proofs.parsing.parse.Goals as goal

pub returns-clause-grammar : goal.returns-clause-grammar
returns-clause-grammar c = λ text r. tied text r

pub returns-clause-causes : goal.returns-clause-causes
returns-clause-causes c = λ text h. never_memory text h

pub returns-clause-sound : goal.returns-clause-sound
returns-clause-sound c = answer_sound c.args.text.now c.parsed.result c.parsed.ensures

pub returns-clause-periods : goal.returns-clause-periods
returns-clause-periods c = answer_periods c.args.text.now c.parsed.result c.parsed.ensures
