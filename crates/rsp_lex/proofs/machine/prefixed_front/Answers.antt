use Rattle.std.proofs.Common.{◌∙◌, ◌≡◌, sym, ap, chars}
use Rattle.rsp_scan.specs.Scans.{scanned_bytes}
use Rattle.rsp_lex.specs.declared.token.TokenKind.TheVariants.{Prefixed}
use Rattle.rsp_lex.specs.Forms.{front_bytes}
use Rattle.rsp_lex.specs.Kinds.{token_machine}
use Rattle.rsp_lex.proofs.KindLaws.{front_is}
use Rattle.rsp_lex.proofs.ReachLaws.{no_prefixed}
use Rattle.rsp_lex.proofs.machine.prefixed_front.Goals as goal

pub returns-clause-len : goal.returns-clause-len
returns-clause-len c = rw (c.scanned.ensures.len, c.start.ensures) (sym (front_is Prefixed c.args.text.now))

pub returns-clause-none : goal.returns-clause-none
returns-clause-none c = λ none.
    let len : front_bytes Prefixed c.args.text.now ≡ 0
    = front_is Prefixed c.args.text.now ∙ (sym (c.scanned.ensures.len ∙ ap (λ s. scanned_bytes token_machine s (chars c.args.text.now)) c.start.ensures) ∙ none) in
    rw (c.scanned.ensures.read, c.start.ensures) (no_prefixed c.args.text.now c.utf8.text len)
