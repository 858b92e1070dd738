use Rattle.std.proofs.Common.{◌≡◌, ◌∙◌, [], ◌∷◌, ◌++◌, ap, append_assoc, rules}
use Rattle.std.specs.Prelude.{false}
use Rattle.std.specs.String.{string_bytes}
use Rattle.rsp_events.specs.Contents.{is_bad_text}
use Rattle.rsp_events.proofs.bodies.take_text.Goals as goal

pub returns : goal.returns
returns c =
    let line : c.in-Some.line.now ≡ c.args.line.now = search rules in
    let good : is_bad_text c.args.line.now ≡ false = search rules in
    let first : string_bytes c.push_str.new.self ≡ string_bytes c.args.text.now ++ c.args.line.now = c.in_ok-push_str.ensures.bytes ∙ ap (λ l. string_bytes c.args.text.now ++ l) line in
    (good, λ taken. c.in_ok-push_str-2.ensures.bytes ∙ (ap (λ b. b ++ (10 ∷ [])) first ∙ append_assoc (string_bytes c.args.text.now) c.args.line.now (10 ∷ [])))
