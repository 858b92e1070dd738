-- An expression and its name in parentheses: what stands behind the expression is read as one.
use Rattle.std.proofs.Common.{◌≡◌, List, refl, ap, Ok, Err}
use Rattle.rsp_phrases.specs.Readers.{Reading, Reader, image, beside, tied_from, both_read, first_read, second_read}
use Rattle.rsp_written.specs.declared.said.Keyword.TheVariants as keyword
use Rattle.rsp_written.specs.declared.said.Said.{Said}
use Rattle.rsp_written.specs.declared.said.Symbol.TheVariants as symbol
use Rattle.rsp_written.specs.GroupReadings.{as_variable_read}
use Rattle.rsp_written.specs.Readings.{sign_read, word_read, variable_read}
use Rattle.rsp_written.specs.Trees.{Expr}
use Rattle.rsp_read_queries.specs.Clauses.{name_end_read}

beside_ended : {A B C : Type 0} (v : A) (read : Reading Said B) (close : Reader Said C)
    → image (λ (w : (A × B) × C). w.0) (tied_from (beside v read) (λ w. close))
    ≡ beside v (image (λ (w : B × C). w.0) (tied_from read (λ w. close)))
beside_ended {A = A} {B = B} {C = C} v (Ok z) close = go (close z.1)
  where
    go : (end : Reading Said C)
        → image (λ (w : (A × B) × C). w.0) (beside (v, z.0) end) ≡ beside v (image (λ (w : B × C). w.0) (beside z.0 end))
    go (Ok y) = refl
    go (Err left) = refl
beside_ended v (Err left) close = refl

both_ended : {A B C : Type 0} (r : Reader Said A) (s : Reader Said B) (close : Reader Said C) (ts : List Said)
    → first_read (both_read r s) close ts ≡ both_read r (first_read s close) ts
both_ended {A = A} {B = B} {C = C} r s close ts = go (r ts)
  where
    go : (x : Reading Said A)
        → image (λ (w : (A × B) × C). w.0) (tied_from (tied_from x (λ v. s)) (λ w. close)) ≡ tied_from x (λ v. first_read s close)
    go (Ok y) = beside_ended y.0 (s y.1) close
    go (Err left) = refl

second_alike : {A B : Type 0} (read : Reading Said A) (s t : Reader Said B) → ((ts : List Said) → s ts ≡ t ts)
    → image (λ (v : A × B). v.1) (tied_from read (λ v. s)) ≡ image (λ (v : A × B). v.1) (tied_from read (λ v. t))
second_alike {A = A} {B = B} (Ok x) s t same = ap (λ (y : Reading Said B). image (λ (v : A × B). v.1) (beside x.0 y)) (same x.1)
second_alike (Err left) s t same = refl

pub named_is : (r : Reader Said Expr) (ts : List Said)
    → as_variable_read r ts ≡ second_read (sign_read symbol.OpenParen) (both_read r name_end_read) ts
unfolding as_variable_read name_end_read
named_is r ts =
    second_alike (sign_read symbol.OpenParen ts)
    (first_read (both_read r (second_read (word_read keyword.As) variable_read)) (sign_read symbol.CloseParen))
    (both_read r (first_read (second_read (word_read keyword.As) variable_read) (sign_read symbol.CloseParen)))
    (both_ended r (second_read (word_read keyword.As) variable_read) (sign_read symbol.CloseParen))
