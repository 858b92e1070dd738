use Rattle.rsp_engine.proofs.TextCauses.{never_shape, never_syntax}
use Rattle.rsp_engine.proofs.texts.text_fault.Goals as goal

pub returns-in_err-_asked-clause-grammar : goal.returns-in_err-_asked-clause-grammar
returns-in_err-_asked-clause-grammar c = never_syntax

pub returns-in_err-_asked-clause-shape : goal.returns-in_err-_asked-clause-shape
returns-in_err-_asked-clause-shape c = never_shape

pub returns-in-Ok-clause-grammar : goal.returns-in-Ok-clause-grammar
returns-in-Ok-clause-grammar c = never_syntax

pub returns-in-Ok-clause-shape : goal.returns-in-Ok-clause-shape
returns-in-Ok-clause-shape c = never_shape

pub returns-in-Err-clause-grammar : goal.returns-in-Err-clause-grammar
returns-in-Err-clause-grammar c = never_syntax

pub returns-in-Err-clause-shape : goal.returns-in-Err-clause-shape
returns-in-Err-clause-shape c = never_shape
