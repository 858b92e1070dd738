use Rattle.std.proofs.Common.{rules, ◌≡◌, ◌-◌, drop}
use Rattle.rsp_lex.proofs.KindLaws.{token_boundary, token_utf8}
use Rattle.rsp_lex.proofs.ReachLaws.{no_prefixed_past}
use Rattle.rsp_lex.proofs.lexing.first_token.Goals as goal

pub range_from-after-requires : goal.range_from-after-requires
range_from-after-requires c = λ some. rw c.longest-front.ensures (token_boundary c.args.text.now c.utf8.text)

pub returns-clause-bare : goal.returns-clause-bare
returns-clause-bare c =
    let left : c.saturating_sub.result ≡ c.bare_or_prefixed-prefixed.result.read - c.longest-front.result.len = search rules in
    let within = (token_boundary c.args.text.now c.utf8.text).0 in
    let after : c.range_from-after.result.now ≡ drop c.longest-front.result.len c.args.text.now = search rules in
    rw (left, after, c.longest-front.ensures)
    (no_prefixed_past c.args.text.now _ _ c.bare_or_prefixed-prefixed.ensures.bare (token_utf8 c.args.text.now c.utf8.text) within)
