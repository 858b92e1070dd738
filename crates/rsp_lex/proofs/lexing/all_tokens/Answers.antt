use Rattle.std.proofs.Common.{rules, ◌≡◌, ◌≢◌, ◌+◌, ◌-◌, ◌∙◌, length, suc, sym, ap, arith, Ok, Err}
use Rattle.rsp_lex.specs.Tokens as words
use Rattle.rsp_lex.proofs.GapLaws.{gap_boundary, gap_utf8}
use Rattle.rsp_lex.proofs.ReachLaws.{no_prefixed_past}
use Rattle.rsp_lex.proofs.TokenLaws.{tokens_end, tokens_stop, tokens_go, tokens_past}
use Rattle.rsp_lex.proofs.lexing.all_tokens.Goals as goal

pub returns-then-is_empty : goal.returns-then-is_empty
returns-then-is_empty c =
    let more : length c.args.text.now + 1 - c.loop.counter ≡ suc (length c.args.text.now + 1 - (c.loop.counter + 1)) = omega (arith, c.loop-test.true) in
    let none : length c.behind_gap-gap.result.1.now ≡ 0 = search rules in
    tokens_end c.loop.tokens.items _ _ c.loop.at c.loop.rest.now _ more c.loop.invariant.1 (rw c.behind_gap-gap.ensures.rest at none)
    ∙ ap (λ ts. Ok ts) (sym c.from_vec.ensures)

pub returns-then-front-eq0 : goal.returns-then-front-eq0
returns-then-front-eq0 c =
    let more : length c.args.text.now + 1 - c.loop.counter ≡ suc (length c.args.text.now + 1 - (c.loop.counter + 1)) = omega (arith, c.loop-test.true) in
    let some : length c.behind_gap-gap.result.1.now ≢ 0 = search rules in
    let rest = c.behind_gap-gap.ensures.rest in
    let none : (words.token_at c.behind_gap-gap.result.1.now).len ≡ 0 = rw c.first_token-further.ensures.token at c.if-front-eq0.true in
    tokens_stop c.loop.tokens.items _ _ c.loop.at c.loop.rest.now _ more c.loop.invariant.1 (rw rest at some) (rw rest at none)
    ∙ ap (λ gap. Err (c.loop.at + gap)) (sym c.behind_gap-gap.ensures.gap)

pub loop-preserved : goal.loop-preserved
loop-preserved c =
    let more : length c.args.text.now + 1 - c.loop.counter ≡ suc (length c.args.text.now + 1 - (c.loop.counter + 1)) = omega (arith, c.loop-test.true) in
    let some : length c.behind_gap-gap.result.1.now ≢ 0 = search rules in
    let rest = c.behind_gap-gap.ensures.rest in
    let there : (words.token_at c.behind_gap-gap.result.1.now).len ≢ 0 = rw c.first_token-further.ensures.token at c.if-front-eq0.false in
    let go = tokens_go c.loop.tokens.items _ _ c.loop.at c.loop.rest.now _ more c.loop.invariant.1 (rw rest at some) (rw rest at there) in (
      search rules,
      rw (c.in_ok-tokens.ensures, c.first_token-further.ensures.rest, c.first_token-further.ensures.token, c.behind_gap-gap.ensures.rest, c.behind_gap-gap.ensures.gap) go,
      omega (arith, c.loop.invariant.2, c.behind_gap-gap.ensures.bound, c.first_token-further.ensures.bound),
      c.first_token-further.ensures.bare,
    )

pub first_token-further-requires : goal.first_token-further-requires
first_token-further-requires c =
    let left : c.saturating_sub.result ≡ c.loop.bare - c.behind_gap-gap.result.0 = search rules in
    rw (left, c.behind_gap-gap.ensures.rest, c.behind_gap-gap.ensures.gap)
    (no_prefixed_past c.loop.rest.now c.loop.bare _ c.loop.invariant.3 (gap_utf8 c.loop.rest.now c.loop.invariant.0) (gap_boundary c.loop.rest.now c.loop.invariant.0).0)

pub returns : goal.returns
returns c =
    let none : length c.args.text.now + 1 - c.loop.counter ≡ 0 = omega (arith, c.loop-test.false) in
    tokens_past c.loop.tokens.items _ c.loop.at c.loop.rest.now _ none c.loop.invariant.1
