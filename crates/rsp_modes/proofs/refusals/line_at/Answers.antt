use Rattle.std.proofs.Common.{◌≡◌, ◌++◌, ◌∷◌, [], append_assoc, ap, subst, sym, ◌∙◌, rules, string_bytes}
use Rattle.std.proofs.lemmas.Result.{IfOk-weaker}
use Rattle.std.specs.Fmt.{decimal}
use Rattle.std.specs.Prelude.{IfOk, codes}
use Rattle.rsp_modes.specs.Refusals.{place_text}
use Rattle.rsp_modes.proofs.refusals.line_at.Goals as goal

pub returns-in-Line : goal.returns-in-Line
returns-in-Line c =
    let rest = 32 ∷ (decimal c.args.number ++ 32 ∷ (c.args.name.now ++ (c.args.details.now ++ 10 ∷ []))) in
    let is : IfOk c.format-in-Line.result (λ line. string_bytes line ≡ codes "# refused file " ++ (c.in-Line.file ++ (codes " line " ++ (decimal c.in-Line.line ++ rest)))) = search rules in
    IfOk-weaker c.format-in-Line.result _ _
    (λ text same.
    subst (λ place. string_bytes text ≡ codes "# refused " ++ (place_text place ++ rest)) (sym c.in-Line.is)
    (same ∙ ap (λ t. codes "# refused file " ++ t) (sym (append_assoc c.in-Line.file (codes " line " ++ decimal c.in-Line.line) rest))))
    is
