use Rattle.std.proofs.Common.{◌≡◌, ◌∙◌, sym, ap, rules, length, take, drop, IsUtf8}
use Rattle.std.specs.List.{take_while}
use Rattle.std.proofs.lemmas.Str.{is_utf8-from_IsUtf8}
use Rattle.rsp_scan.specs.Kinds.{is_plain}
use Rattle.rsp_scan.proofs.Spelling.{not_utf8}
use Rattle.rsp_scan.proofs.enclosed.Kind.run.Goals as goal

pub returns-in-Ok : goal.returns-in-Ok
returns-in-Ok c =
    let front : c.split_at.result.0.now ≡ take_while (is_plain c.args.self) c.args.text.now
    = c.split_at.ensures.front ∙ ap (λ n. take n c.args.text.now) c.run_len.ensures.value in
    let same : c.in-Ok.characters.now ≡ c.split_at.result.0.now = search rules in
    let whole : IsUtf8 c.split_at.result.0.now = search rules in (
      is_utf8-from_IsUtf8 _ (rw front at whole),
      same ∙ front,
      c.split_at.ensures.back ∙ ap (λ n. drop n c.args.text.now) (sym c.split_at.ensures.front_len ∙ ap length front),
    )

pub returns-in-Err : goal.returns-in-Err
returns-in-Err c =
    let front : c.split_at.result.0.now ≡ take_while (is_plain c.args.self) c.args.text.now
    = c.split_at.ensures.front ∙ ap (λ n. take n c.args.text.now) c.run_len.ensures.value in
    not_utf8 _ (rw front at c.in-Err.ensures.cases.0)
