use Rattle.std.proofs.Common.{arith, refl, sym, []}
use Rattle.std.proofs.lemmas.Str.{IsUtf8-nil}
use Rattle.rsp_lex.proofs.lexing.bare_or_prefixed.Goals as goal

pub returns-then-bare-gt0-clause-len : goal.returns-then-bare-gt0-clause-len
returns-then-bare-gt0-clause-len c = sym (c.requires [] c.args.text.now refl IsUtf8-nil (omega (arith, c.if-bare-gt0.true)))
