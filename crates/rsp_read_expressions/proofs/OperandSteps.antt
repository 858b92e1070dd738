-- A sign and the part behind it, put behind those before.
use Rattle.std.proofs.Common.{◌≡◌, ℕ, List, [], ◌∷◌, ◌++◌, ap, ◌∙◌, Ok, Err}
use Rattle.rsp_phrases.specs.Fronts.{with_last}
use Rattle.rsp_phrases.specs.Readers.{Reading, Reader, image, beside, tied_from}
use Rattle.rsp_written.specs.declared.said.Kind.{Kind}
use Rattle.rsp_written.specs.declared.said.Said.{Said}
use Rattle.rsp_written.specs.Building.{signed_part}
use Rattle.rsp_written.specs.Readings.{one_read}
use Rattle.rsp_written.specs.Trees.{Expr}
use Rattle.rsp_read_expressions.specs.Levels.{operand_read, part_read, signs_of}
use Rattle.rsp_read_expressions.specs.declared.level.Parts.{Parts}

module _ (parts : Parts) (ks : List ℕ) (x s : Reader Said Expr) (front : List (Kind × Expr)) (ts : List Said) where
  put : Reading Said (Said × Expr) → Reading Said (List (Kind × Expr))
  put reading = with_last front (image signed_part reading)

  behind_sign : Reading Said Said → Reading Said (List (Kind × Expr))
  behind_sign reading = put (tied_from reading (λ v. part_read parts ks x s))

  module _ (sign : Said) (behind : List Said) (signed : one_read (signs_of parts) ts ≡ Ok (sign, behind)) where
    pub part_wrong : (left : ℕ) → part_read parts ks x s behind ≡ Err left
        → with_last front (operand_read parts ks x s ts) ≡ Err left
    unfolding put behind_sign
    part_wrong left wrong = ap behind_sign signed ∙ ap (λ reading. put (beside sign reading)) wrong

    pub operand_right : (part : Expr) (rest : List Said) → part_read parts ks x s behind ≡ Ok (part, rest)
        → with_last front (operand_read parts ks x s ts) ≡ Ok (front ++ ((sign.kind, part) ∷ []), rest)
    unfolding put behind_sign
    operand_right part rest right = ap behind_sign signed ∙ ap (λ reading. put (beside sign reading)) right
