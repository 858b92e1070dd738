-- The lines of bytes, front to back: which lines bytes end behind those of a line that has begun, and which line is
-- then begun.
use Rattle.std.proofs.Common.{◌≡◌, ℕ, suc, ◌+◌, Bool, true, false, cond, List, [], ◌∷◌, ◌++◌, length, refl, ap, sym, ◌∙◌, append_assoc, append-nil, arith}
use Rattle.std.specs.Prelude.{◌==◌, if◌then◌else◌, filter}
use Rattle.std.specs.List.{onto_first}
use Rattle.std.proofs.lemmas.List.Elements.{filter-append}
use Rattle.rsp_events.specs.Lines.{Line, parts, lines_of_parts, log_lines}
use Rattle.rsp_events.specs.Blocks.{ended_lines}
use Rattle.rsp_events.specs.Begun.{last_part, begun_line}

abbrev pub ended_from : ℕ → List ℕ → List ℕ → List Line
ended_from n line [] = []
ended_from n line (b ∷ bs) =
    if b == 10
    then record { number = n; bytes = line; ended = true } ∷ ended_from (n + 1) [] bs
    else ended_from n (line ++ (b ∷ [])) bs

abbrev pub begun_from : List ℕ → List ℕ → List ℕ
begun_from line [] = line
begun_from line (b ∷ bs) = if b == 10 then begun_from [] bs else begun_from (line ++ (b ∷ [])) bs

pub ended_from-append : (n : ℕ) (line xs ys : List ℕ)
    → ended_from n line (xs ++ ys) ≡ ended_from n line xs ++ ended_from (n + length (ended_from n line xs)) (begun_from line xs) ys
ended_from-append n line [] ys = let same : n + 0 ≡ n = omega arith in rw same refl
ended_from-append n line (x ∷ xs) ys =
    let head : Line = record { number = n; bytes = line; ended = true } in
    elim (x == 10) as (λ v.
    cond v (head ∷ ended_from (n + 1) [] (xs ++ ys)) (ended_from n (line ++ (x ∷ [])) (xs ++ ys))
    ≡ cond v (head ∷ ended_from (n + 1) [] xs) (ended_from n (line ++ (x ∷ [])) xs)
    ++ ended_from
    (n + length (cond v (head ∷ ended_from (n + 1) [] xs) (ended_from n (line ++ (x ∷ [])) xs)))
    (cond v (begun_from [] xs) (begun_from (line ++ (x ∷ [])) xs))
    ys) [
      | true ↦ let count : n + suc (length (ended_from (n + 1) [] xs)) ≡ (n + 1) + length (ended_from (n + 1) [] xs) = omega arith in
          rw count (ap (λ more. head ∷ more) (ended_from-append (n + 1) [] xs ys))
      | false ↦ ended_from-append n (line ++ (x ∷ [])) xs ys
    ]

pub begun_from-append : (line xs ys : List ℕ) → begun_from line (xs ++ ys) ≡ begun_from (begun_from line xs) ys
begun_from-append line [] ys = refl
begun_from-append line (x ∷ xs) ys =
    elim (x == 10) as (λ v.
    cond v (begun_from [] (xs ++ ys)) (begun_from (line ++ (x ∷ [])) (xs ++ ys))
    ≡ begun_from (cond v (begun_from [] xs) (begun_from (line ++ (x ∷ [])) xs)) ys) [
      | true ↦ begun_from-append [] xs ys
      | false ↦ begun_from-append (line ++ (x ∷ [])) xs ys
    ]

-- the parts that end with a line feed, as lines
abbrev ended_of_parts : ℕ → List (List ℕ) → List Line
ended_of_parts n [] = []
ended_of_parts n (x ∷ []) = []
ended_of_parts n (x ∷ y ∷ more) = record { number = n; bytes = x; ended = true } ∷ ended_of_parts (n + 1) (y ∷ more)

-- how the parts of bytes give the two
pub record Cut (ps : List (List ℕ)) (ended : ℕ → List ℕ → List Line) (begun : List ℕ → List ℕ) : Type 0 where
  pub first : List ℕ
  pub rest : List (List ℕ)
  pub is : ps ≡ first ∷ rest
  pub ends : (n : ℕ) (line : List ℕ) → ended_of_parts n ((line ++ first) ∷ rest) ≡ ended n line
  pub begins : (line : List ℕ) → last_part ((line ++ first) ∷ rest) ≡ begun line

cut_more : (v : Bool) (c : ℕ) (ps : List (List ℕ)) (ended : ℕ → List ℕ → List Line) (begun : List ℕ → List ℕ)
    → Cut ps ended begun
    → Cut
    (cond v ([] ∷ ps) (onto_first c ps))
    (λ n line. cond v (record { number = n; bytes = line; ended = true } ∷ ended (n + 1) []) (ended n (line ++ (c ∷ []))))
    (λ line. cond v (begun []) (begun (line ++ (c ∷ []))))
cut_more true c ps ended begun h = record {
  first = [];
  rest = ps;
  is = refl;
  ends = λ n line.
      let head : Line = record { number = n; bytes = line; ended = true } in
      rw (h.is, append-nil line) (ap (λ more. head ∷ more) (h.ends (n + 1) []));
  begins = λ line. rw (h.is) (h.begins []);
}
cut_more false c ps ended begun h = record {
  first = c ∷ h.first;
  rest = h.rest;
  is = rw (h.is) refl;
  ends = λ n line.
      ap (λ x. ended_of_parts n (x ∷ h.rest)) (sym (append_assoc line (c ∷ []) (h.first))) ∙ h.ends n (line ++ (c ∷ []));
  begins = λ line.
      ap (λ x. last_part (x ∷ h.rest)) (sym (append_assoc line (c ∷ []) (h.first))) ∙ h.begins (line ++ (c ∷ []));
}

pub cut : (bs : List ℕ) → Cut (parts bs) (λ n line. ended_from n line bs) (λ line. begun_from line bs)
cut [] = record { first = []; rest = []; is = refl; ends = λ _ _. refl; begins = λ line. append-nil line }
cut (b ∷ bs) = cut_more (b == 10) b (parts bs) (λ n line. ended_from n line bs) (λ line. begun_from line bs) (cut bs)

ended_parts_are : (bs : List ℕ) → ended_of_parts 1 (parts bs) ≡ ended_from 1 [] bs
ended_parts_are bs = let h = cut bs in rw (h.is) (h.ends 1 [])

pub begun_line_is : (bs : List ℕ) → begun_line bs ≡ begun_from [] bs
begun_line_is bs = let h = cut bs in rw (h.is) (h.begins [])

-- the line that the end of a text ends, if one has begun
abbrev pub unless_empty : ℕ → List ℕ → List Line
unless_empty n line = if length line == 0 then [] else record { number = n; bytes = line; ended = false } ∷ []

lines_of_parts_are : (n : ℕ) (ps : List (List ℕ))
    → lines_of_parts n ps ≡ ended_of_parts n ps ++ unless_empty (n + length (ended_of_parts n ps)) (last_part ps)
lines_of_parts_are n [] = refl
lines_of_parts_are n (x ∷ []) = let same : n + 0 ≡ n = omega arith in rw same refl
lines_of_parts_are n (x ∷ y ∷ more) =
    let head : Line = record { number = n; bytes = x; ended = true } in
    let count : n + suc (length (ended_of_parts (n + 1) (y ∷ more))) ≡ (n + 1) + length (ended_of_parts (n + 1) (y ∷ more)) = omega arith in
    rw count (ap (λ ls. head ∷ ls) (lines_of_parts_are (n + 1) (y ∷ more)))

all_ended : (n : ℕ) (ps : List (List ℕ)) → filter (λ (l : Line). l.ended) (ended_of_parts n ps) ≡ ended_of_parts n ps
all_ended n [] = refl
all_ended n (x ∷ []) = refl
all_ended n (x ∷ y ∷ more) = ap (λ ls. record { number = n; bytes = x; ended = true } ∷ ls) (all_ended (n + 1) (y ∷ more))

none_ended : (n : ℕ) (line : List ℕ) → filter (λ (l : Line). l.ended) (unless_empty n line) ≡ []
none_ended n line =
    elim (length line == 0) as (λ v. filter (λ (l : Line). l.ended) (cond v [] (record { number = n; bytes = line; ended = false } ∷ [])) ≡ []) [
      | true ↦ refl
      | false ↦ refl
    ]

ended_lines_of_parts : (bs : List ℕ) → ended_lines bs ≡ ended_of_parts 1 (parts bs)
ended_lines_of_parts bs =
    rw (
      lines_of_parts_are 1 (parts bs),
      filter-append (λ (l : Line). l.ended) (ended_of_parts 1 (parts bs)) (unless_empty (1 + length (ended_of_parts 1 (parts bs))) (last_part (parts bs))),
      all_ended 1 (parts bs),
      none_ended (1 + length (ended_of_parts 1 (parts bs))) (last_part (parts bs)),
    )
    (append-nil (ended_of_parts 1 (parts bs)))

pub ended_lines_are : (bs : List ℕ) → ended_lines bs ≡ ended_from 1 [] bs
ended_lines_are bs = ended_lines_of_parts bs ∙ ended_parts_are bs

pub lines_are : (bs : List ℕ) → log_lines bs ≡ ended_lines bs ++ unless_empty (1 + length (ended_lines bs)) (begun_line bs)
lines_are bs = rw (ended_lines_of_parts bs) (lines_of_parts_are 1 (parts bs))
