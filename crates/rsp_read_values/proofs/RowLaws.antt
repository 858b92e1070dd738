-- Rows of VALUES: a loop that reads so many values goes as their reader, and a row is so many values and `)`.
use Rattle.std.proofs.Common.{◌≡◌, ◌<◌, ◌≤◌, ℕ, zero, suc, ◌+◌, ◌-◌, List, [], ◌∷◌, ◌++◌, map, refl, sym, ap, ◌∙◌, append_assoc, append-nil, Option, Ok, Err, arith}
use Rattle.rsp_terms.specs.declared.term.Term.{Term}
use Rattle.rsp_phrases.specs.Readers.{Reading, Reader, image, beside, tied_from, first_read}
use Rattle.rsp_phrases.specs.Gathering.{gathered, single, as_read, Gathers}
use Rattle.rsp_written.specs.declared.reading.Halt.{Halt}
use Rattle.rsp_written.specs.declared.reading.Halt.TheVariants as halt
use Rattle.rsp_written.specs.declared.said.Said.{Said}
use Rattle.rsp_written.specs.declared.said.Symbol.TheVariants as symbol
use Rattle.rsp_written.specs.Gives.{Fails}
use Rattle.rsp_written.specs.Readings.{sign_read}
use Rattle.rsp_written.specs.TripleReadings.{value_read, value_row_read}
use Rattle.rsp_read_values.specs.Rows.{one_value, so_many_read}

-- values as rows of one
pub each_single : {A : Type 0} → Gathers (one_value {A = A}) (map (single {A = A}))
each_single = record { none = refl; first = λ a more. refl }

-- ---- so many of them

cons_read : {A : Type 0} → Reading Said (A × List A) → Reading Said (List A)
cons_read read = image (λ (v : _ × _). v.0 ∷ v.1) read

joined : {A : Type 0} (front : List A) (v : A) (more : Reading Said (List A))
    → gathered as_read front (image (λ (v : A × List A). v.0 ∷ v.1) (beside v more)) ≡ gathered as_read (front ++ (v ∷ [])) more
joined front v (Ok x) = ap (λ vs. Ok (vs, x.1)) (sym (append_assoc front (v ∷ []) x.0))
joined front v (Err left) = refl

one_more : {A : Type 0} (r : Reader Said A) (n : ℕ) (front : List A) (v : A) (ts rest : List Said)
    → r ts ≡ Ok (v, rest)
    → gathered as_read front (so_many_read r (suc n) ts) ≡ gathered as_read (front ++ (v ∷ [])) (so_many_read r n rest)
unfolding so_many_read
one_more {A = A} r n front v ts rest read =
    ap (λ x. gathered as_read front (image (λ (v : A × List A). v.0 ∷ v.1) (tied_from x (λ z. so_many_read r n)))) read
    ∙ joined front v (so_many_read r n rest)

one_wrong : {A : Type 0} (r : Reader Said A) (n : ℕ) (front : List A) (left : ℕ) (ts : List Said)
    → r ts ≡ Err left → gathered as_read front (so_many_read r (suc n) ts) ≡ Err left
unfolding so_many_read
one_wrong {A = A} r n front left ts read =
    ap (λ x. gathered as_read front (image (λ (v : A × List A). v.0 ∷ v.1) (tied_from x (λ z. so_many_read r n)))) read

pub value_more_at : {A : Type 0} (r : Reader Said A) (end counter : ℕ) (front all : List A) (ts rest : List Said) (whole : Reading Said (List A))
    → counter < end → gathered single front (r ts) ≡ Ok (all, rest)
    → gathered as_read front (so_many_read r (end - counter) ts) ≡ whole
    → gathered as_read all (so_many_read r (end - (counter + 1)) rest) ≡ whole
value_more_at {A = A} r end counter front all ts rest whole below read before = go (r ts) refl read
  where
    go : (x : Reading Said A) → r ts ≡ x → gathered single front x ≡ Ok (all, rest)
        → gathered as_read all (so_many_read r (end - (counter + 1)) rest) ≡ whole
    go (Ok x) e same =
        let count : end - counter ≡ suc (end - (counter + 1)) = omega (arith, below) in
        let pair : (front ++ (x.0 ∷ []), x.1) ≡ (all, rest) = cc in
        ap (λ (y : List A × List Said). gathered as_read y.0 (so_many_read r (end - (counter + 1)) y.1)) (sym pair)
        ∙ sym (one_more r (end - (counter + 1)) front x.0 ts x.1 e)
        ∙ ap (λ k. gathered as_read front (so_many_read r k ts)) (sym count)
        ∙ before
    go (Err left) e same = cc

value_wrong_at : {A : Type 0} (r : Reader Said A) (end counter : ℕ) (front : List A) (left : ℕ) (ts : List Said) (whole : Reading Said (List A))
    → counter < end → gathered single front (r ts) ≡ Err left
    → gathered as_read front (so_many_read r (end - counter) ts) ≡ whole
    → whole ≡ Err left
value_wrong_at {A = A} r end counter front left ts whole below read before = go (r ts) refl read
  where
    go : (x : Reading Said A) → r ts ≡ x → gathered single front x ≡ Err left → whole ≡ Err left
    go (Ok x) e same = cc
    go (Err k) e same =
        let count : end - counter ≡ suc (end - (counter + 1)) = omega (arith, below) in
        sym before ∙ ap (λ k. gathered as_read front (so_many_read r k ts)) count
        ∙ one_wrong r (end - (counter + 1)) front k ts e ∙ same

pub value_fails_at : {A : Type 0} (r : Reader Said A) (end counter : ℕ) (front : List A) (ts : List Said) (whole : Reading Said (List A)) (e : Halt)
    → counter < end → Fails e (gathered single front (r ts))
    → gathered as_read front (so_many_read r (end - counter) ts) ≡ whole
    → Fails e whole
value_fails_at r end counter front ts whole halt.OutOfMemory below f before = tt
value_fails_at r end counter front ts whole (halt.Wrong left) below f before = value_wrong_at r end counter front left ts whole below f before

pub value_end_at : {A : Type 0} (r : Reader Said A) (end counter : ℕ) (front : List A) (ts : List Said) (whole : Reading Said (List A))
    → end ≤ counter
    → gathered as_read front (so_many_read r (end - counter) ts) ≡ whole
    → whole ≡ Ok (front, ts)
unfolding so_many_read
value_end_at r end counter front ts whole past before =
    let count : end - counter ≡ 0 = omega (arith, past) in
    sym before ∙ ap (λ k. gathered as_read front (so_many_read r k ts)) count
    ∙ ap (λ vs. Ok (vs, ts)) (append-nil front)

-- ---- a row: so many values, and `)`

abbrev close_read : Reader Said Said
close_read = sign_read symbol.CloseParen

abbrev no_values : List (Option Term)
no_values = []

none_closed : (close : Reading Said Said)
    → image (λ (y : Said). no_values) close ≡ image (λ (y : List (Option Term) × Said). y.0) (beside no_values close)
none_closed (Ok z) = refl
none_closed (Err left) = refl

one_closed : (v : Option Term) (more : Reading Said (List (Option Term)))
    → image (λ (y : Option Term × List (Option Term)). y.0 ∷ y.1) (beside v (image (λ (y : List (Option Term) × Said). y.0) (tied_from more (λ w. close_read))))
    ≡ image (λ (y : List (Option Term) × Said). y.0) (tied_from (image (λ (y : Option Term × List (Option Term)). y.0 ∷ y.1) (beside v more)) (λ w. close_read))
one_closed v (Ok y) = go (close_read y.1)
  where
    go : (close : Reading Said Said)
        → image (λ (y : Option Term × List (Option Term)). y.0 ∷ y.1) (beside v (image (λ (y : List (Option Term) × Said). y.0) (beside y.0 close)))
        ≡ image (λ (y : List (Option Term) × Said). y.0) (beside (v ∷ y.0) close)
    go (Ok z) = refl
    go (Err left) = refl
one_closed v (Err left) = refl

pub row_is : (n : ℕ) (ts : List Said) → value_row_read n ts ≡ first_read (so_many_read value_read n) (sign_read symbol.CloseParen) ts
unfolding value_row_read so_many_read
row_is zero ts = none_closed (close_read ts)
row_is (suc n) ts = go (value_read ts) (row_is n)
  where
    go : (x : Reading Said (Option Term))
        → ((us : List Said) → value_row_read n us ≡ first_read (so_many_read value_read n) (sign_read symbol.CloseParen) us)
        → image (λ (y : Option Term × List (Option Term)). y.0 ∷ y.1) (tied_from x (λ w. value_row_read n))
        ≡ image (λ (y : List (Option Term) × Said). y.0) (tied_from (image (λ (y : Option Term × List (Option Term)). y.0 ∷ y.1) (tied_from x (λ w. so_many_read value_read n))) (λ w. close_read))
    go (Ok x) h =
        ap (λ y. image (λ (z : Option Term × List (Option Term)). z.0 ∷ z.1) (beside x.0 y)) (h x.1)
        ∙ one_closed x.0 (so_many_read value_read n x.1)
    go (Err left) h = refl
