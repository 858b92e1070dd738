-- Files that are read one after the other.
use Rattle.std.proofs.Common.{◌≡◌, inl, inr, ℕ, zero, suc, ◌+◌, ◌≤◌, List, [], ◌∷◌, ◌++◌, length, length-append, take, drop, Option, None, Some, refl, sym, ◌∙◌, ap, subst, arith}
use Rattle.std.proofs.Math.Seq.{take-suc}
use Rattle.std.proofs.lemmas.List.{drop_more, take-append-drop}
use Rattle.std.proofs.lemmas.Option.{get_or_from_slice_get, slice_get_past, slice_get_read, slice_get_within}
use Rattle.std.specs.Borrow.{Bor}
use Rattle.std.specs.List.{slice_get}
use Rattle.std.specs.Option.{option_copied}
use Rattle.std.specs.Slice.{IsItemAt}
use Rattle.rsp_words.proofs.Places.{behind_place}
use Rattle.rsp_modes.specs.Shelves.{EndsAt, LacksMemory, ReadsAll, ReadsWhole, ShelfSeen}

-- ---- what stands at a place of a list

before_place : {X : Type 0} (xs : List X) (k : ℕ) (x : X) → slice_get xs k ≡ Some x → take (k + 1) xs ≡ take k xs ++ x ∷ []
before_place xs k x is =
    let next : k + 1 ≡ suc k = omega arith in
    ap (λ n. take n xs) next ∙ (take-suc xs k x (slice_get_within xs k x is) ∙ ap (λ y. take k xs ++ y ∷ []) (get_or_from_slice_get xs k x x is))

cut_at : {X : Type 0} (xs : List X) (k : ℕ) (x : X) → slice_get xs k ≡ Some x → xs ≡ take k xs ++ x ∷ drop (k + 1) xs
cut_at xs k x is = sym (take-append-drop k xs) ∙ ap (λ rest. take k xs ++ rest) (behind_place xs k x is)

take_whole : {X : Type 0} (xs : List X) (k : ℕ) → None ≡ slice_get xs k → take k xs ≡ xs
take_whole [] zero none = refl
take_whole [] (suc k) none = refl
take_whole (x ∷ xs) zero none = cc
take_whole (x ∷ xs) (suc k) none = ap (λ rest. x ∷ rest) (take_whole xs k none)

-- ---- one file more

reads_more : (most : ℕ) (names files : List (List ℕ)) (before mid now : ShelfSeen) (name bytes : List ℕ) → ReadsAll most before mid names files → ReadsWhole most mid now name bytes → ReadsAll most before now (names ++ name ∷ []) (files ++ bytes ∷ [])
reads_more most [] [] before mid now name bytes so_far read = (now, rw so_far at read, refl)
reads_more most [] (file ∷ files) before mid now name bytes so_far read = absurd so_far
reads_more most (first ∷ names) [] before mid now name bytes so_far read = absurd so_far
reads_more most (first ∷ names) (file ∷ files) before mid now name bytes so_far read = (
  so_far.0,
  so_far.1,
  reads_more most names files so_far.0 mid now name bytes so_far.2 read,
)

ends_more : (most : ℕ) (Why : ShelfSeen → ShelfSeen → List ℕ → Type 0) (names rest files : List (List ℕ)) (before mid now : ShelfSeen) (name : List ℕ) → ReadsAll most before mid names files → Why mid now name → EndsAt most Why before now (names ++ name ∷ rest)
ends_more most Why [] rest [] before mid now name so_far why = inl (subst (λ (shelf : ShelfSeen). Why shelf now name) so_far why)
ends_more most Why [] rest (file ∷ files) before mid now name so_far why = absurd so_far
ends_more most Why (first ∷ names) rest [] before mid now name so_far why = absurd so_far
ends_more most Why (first ∷ names) rest (file ∷ files) before mid now name so_far why =
    inr (so_far.0, file, so_far.1, ends_more most Why names rest files so_far.0 mid now name so_far.2 why)

-- ---- some of the files

-- the first of them are read
pub record ReadSome (most : ℕ) (before now : ShelfSeen) (names files : List (List ℕ)) : Type 0 where
  pub read : ReadsAll most before now (take (length files) names) files
  pub within : length files ≤ length names

pub read_none : (most : ℕ) (shelf : ShelfSeen) (names : List (List ℕ)) → ReadSome most shelf shelf names []
read_none most shelf names = record { read = refl; within = omega arith }

read_end : (most : ℕ) (before mid now : ShelfSeen) (names files : List (List ℕ)) (name bytes : List ℕ) → ReadSome most before mid names files → Some name ≡ slice_get names (length files) → ReadsWhole most mid now name bytes → ReadSome most before now names (files ++ bytes ∷ [])
read_end most before mid now names files name bytes so_far is read =
    let long : length (files ++ bytes ∷ []) ≡ length files + 1 = length-append files (bytes ∷ []) in
    record {
      read =
          rw (long, before_place names (length files) name (sym is))
          (reads_more most (take (length files) names) files before mid now name bytes so_far.read read);
      within = rw long (let below = slice_get_within names (length files) name (sym is) in omega (arith, below));
    }

pub read_on : (most : ℕ) (before mid now : ShelfSeen) (names files after : List (List ℕ)) (name bytes : List ℕ) → ReadSome most before mid names files → Some name ≡ slice_get names (length files) → ReadsWhole most mid now name bytes → after ≡ files ++ bytes ∷ [] → ReadSome most before now names after
read_on most before mid now names files after name bytes so_far is read more =
    rw more (read_end most before mid now names files name bytes so_far is read)

-- no more is left
pub read_all : (most : ℕ) (before now : ShelfSeen) (names files : List (List ℕ)) → ReadSome most before now names files → None ≡ slice_get names (length files) → ReadsAll most before now names files
read_all most before now names files so_far none = rw (take_whole names (length files) none) at so_far.read

-- the next one wasn't read
pub read_stopped : (most : ℕ) (Why : ShelfSeen → ShelfSeen → List ℕ → Type 0) (before mid now : ShelfSeen) (names files : List (List ℕ)) (name : List ℕ) → ReadSome most before mid names files → Some name ≡ slice_get names (length files) → Why mid now name → EndsAt most Why before now names
read_stopped most Why before mid now names files name so_far is why =
    rw (cut_at names (length files) name (sym is))
    (ends_more most Why (take (length files) names) (drop (length files + 1) names) files before mid now name so_far.read why)

-- it was read, and memory was refused for it
pub read_lacks : (most : ℕ) (mid now : ShelfSeen) (name bytes : List ℕ) → ReadsWhole most mid now name bytes → LacksMemory most mid now name
read_lacks most mid now name bytes read = record { faultless = read.faultless; short = rw read.given read.short }
