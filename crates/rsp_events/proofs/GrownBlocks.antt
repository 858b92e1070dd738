-- A block with one line more: its lines before `@end`, and whether it has one.
use Rattle.std.proofs.Common.{◌≡◌, ℕ, suc, ◌+◌, Bool, true, false, List, [], ◌∷◌, ◌++◌, take, subst, refl, ap, sym, ◌∙◌, arith}
use Rattle.std.specs.Prelude.{◌||◌, not, if◌then◌else◌, fold, map, nat_lt}
use Rattle.std.specs.List.{before_first, list_any, position_or_len}
use Rattle.rsp_spec.specs.Limits.{most_block_bytes}
use Rattle.rsp_events.specs.declared.begun.BegunBlock.{BegunBlock}
use Rattle.rsp_events.specs.declared.begun.BegunBlock.TheVariants as block
use Rattle.rsp_events.specs.declared.begun.HeldLine.{HeldLine}
use Rattle.rsp_events.specs.declared.begun.HeldLine.TheVariants as held
use Rattle.rsp_events.specs.Begun.{begun_block_of, ends_group, held_line_of}
use Rattle.rsp_events.specs.Lines.{Line, ends_body, is_end, is_long, size_of, sizes_of, text_of}

-- ---- what stands before the first that passes, with one more behind

one-more : (n : ℕ) → 1 + n ≡ suc n
one-more n = omega arith

behind : {A : Type 0} (y : A) (front : List A) (x : A) (b : Bool)
    → (if b then y ∷ front else (y ∷ front) ++ x ∷ []) ≡ y ∷ (if b then front else front ++ x ∷ [])
behind y front x true = refl
behind y front x false = refl

module _ {A : Type 0} (p : A → Bool) where
  before-more : (xs : List A) (x : A)
      → before_first p (xs ++ x ∷ []) ≡ (if list_any p xs || p x then before_first p xs else before_first p xs ++ x ∷ [])
  before-more [] x =
      elim (p x) as (λ v. take (if not v then 1 else 0) (x ∷ []) ≡ (if v then [] else x ∷ [])) [ true ↦ refl | false ↦ refl ]
  before-more (y ∷ xs) x =
      elim (p y) as (λ v. take (if not v then 1 + position_or_len p (xs ++ x ∷ []) else 0) (y ∷ xs ++ x ∷ [])
      ≡ (if (v || list_any p xs) || p x then take (if not v then 1 + position_or_len p xs else 0) (y ∷ xs)
      else take (if not v then 1 + position_or_len p xs else 0) (y ∷ xs) ++ x ∷ [])) [
        | true ↦ refl
        | false ↦
            ap (λ n. take n (y ∷ xs ++ x ∷ [])) (one-more (position_or_len p (xs ++ x ∷ [])))
            ∙ ap (λ zs. y ∷ zs) (before-more xs x)
            ∙ sym (behind y (before_first p xs) x (list_any p xs || p x))
            ∙ λ i. if list_any p xs || p x then shorter i else shorter i ++ x ∷ []
      ]
    where
      shorter : y ∷ before_first p xs ≡ take (1 + position_or_len p xs) (y ∷ xs)
      shorter = ap (λ n. take n (y ∷ xs)) (sym (one-more (position_or_len p xs)))

  any-more : (xs : List A) (x : A) → list_any p (xs ++ x ∷ []) ≡ (list_any p xs || p x)
  any-more [] x = elim (p x) as (λ v. (v || false) ≡ v) [ true ↦ refl | false ↦ refl ]
  any-more (y ∷ xs) x =
      elim (p y) as (λ v. (v || list_any p (xs ++ x ∷ [])) ≡ ((v || list_any p xs) || p x)) [
        | true ↦ refl
        | false ↦ any-more xs x
      ]

map-more : {A B : Type 0} (f : A → B) (xs : List A) (x : A) → map f (xs ++ x ∷ []) ≡ map f xs ++ f x ∷ []
map-more f [] x = refl
map-more f (y ∷ xs) x = ap (λ zs. f y ∷ zs) (map-more f xs x)

sizes-from : (before : ℕ) (group : List Line) (l : Line)
    → fold (λ n line. n + size_of line) before (group ++ l ∷ []) ≡ fold (λ n line. n + size_of line) before group + size_of l
sizes-from before [] l = refl
sizes-from before (head ∷ body) l = sizes-from (before + size_of head) body l

sizes-more : (group : List Line) (l : Line) → sizes_of (group ++ l ∷ []) ≡ sizes_of group + size_of l
sizes-more group l = sizes-from 0 group l

-- ---- a block

-- a block of these lines, of so many bytes
abbrev pub block_by : ℕ → List (List ℕ) → Bool → ℕ → BegunBlock
block_by first texts ended size = if nat_lt most_block_bytes size then block.TooLarge else block.Within first texts ended size

pub record AreParts (a first : ℕ) (b texts : List (List ℕ)) (c ended : Bool) (d size : ℕ) : Type 0 where
  pub first_is : a ≡ first
  pub texts_is : b ≡ texts
  pub ended_is : c ≡ ended
  pub size_is : d ≡ size

-- a block by its parts, where it is there
abbrev WithinIs : BegunBlock → ℕ → List (List ℕ) → Bool → ℕ → Type 0
WithinIs block.Between first texts ended size = ⊥
WithinIs (block.Within a b c d) first texts ended size = AreParts a first b texts c ended d size
WithinIs block.TooLarge first texts ended size = ⊥

within-is : (b : BegunBlock) (first : ℕ) (texts : List (List ℕ)) (ended : Bool) (size : ℕ)
    → b ≡ block.Within first texts ended size → WithinIs b first texts ended size
within-is b first texts ended size is = subst (λ b. WithinIs b first texts ended size) (sym is) (record { first_is = refl; texts_is = refl; ended_is = refl; size_is = refl })

grown-lines : (group : List Line) (l : Line) (first : ℕ) (texts : List (List ℕ)) (ended : Bool) (before : ℕ)
    → begun_block_of group ≡ block.Within first texts ended before
    → block_by first (if ended || ends_body l then texts else texts ++ text_of l ∷ []) (ended || ends_body l) (before + size_of l)
    ≡ begun_block_of (group ++ l ∷ [])
grown-lines [] l first texts ended before is = absurd (within-is _ first texts ended before is)
grown-lines (head ∷ body) l first texts ended before is = by (nat_lt most_block_bytes (sizes_of (head ∷ body))) refl
  where
    by : (large : Bool) → nat_lt most_block_bytes (sizes_of (head ∷ body)) ≡ large
        → block_by first (if ended || ends_body l then texts else texts ++ text_of l ∷ []) (ended || ends_body l) (before + size_of l)
        ≡ begun_block_of (head ∷ body ++ l ∷ [])
    by true h = absurd (within-is _ first texts ended before (rw h at is))
    by false h =
        let parts : AreParts head.number first (text_of head ∷ before_first is_end (map text_of body)) texts
        (list_any is_end (map text_of body)) ended (sizes_of (head ∷ body)) before
        = within-is _ first texts ended before (rw h at is) in
        (λ i. block_by (sym parts.first_is i)
        (if sym parts.ended_is i || ends_body l then sym parts.texts_is i else sym parts.texts_is i ++ text_of l ∷ [])
        (sym parts.ended_is i || ends_body l)
        (sym parts.size_is i + size_of l))
        ∙ λ i. block_by head.number (texts_are i) (ended_is i) (sizes_are i)
      where
        texts_are : (if list_any is_end (map text_of body) || ends_body l
            then text_of head ∷ before_first is_end (map text_of body)
            else (text_of head ∷ before_first is_end (map text_of body)) ++ text_of l ∷ [])
            ≡ text_of head ∷ before_first is_end (map text_of (body ++ l ∷ []))
        texts_are =
            behind (text_of head) (before_first is_end (map text_of body)) (text_of l) (list_any is_end (map text_of body) || ends_body l)
            ∙ ap (λ ts. text_of head ∷ ts)
            (sym (before-more is_end (map text_of body) (text_of l)) ∙ ap (λ ts. before_first is_end ts) (sym (map-more text_of body l)))

        ended_is : (list_any is_end (map text_of body) || ends_body l) ≡ list_any is_end (map text_of (body ++ l ∷ []))
        ended_is = sym (any-more is_end (map text_of body) (text_of l)) ∙ ap (λ ts. list_any is_end ts) (sym (map-more text_of body l))

        sizes_are : sizes_of (head ∷ body) + size_of l ≡ sizes_of (head ∷ body ++ l ∷ [])
        sizes_are = sym (sizes-more (head ∷ body) l)

-- a line by its parts, where it is kept
abbrev KeptIs : HeldLine → List ℕ → ℕ → Type 0
KeptIs (held.Kept a b) text size = (a ≡ text) × (b ≡ size)
KeptIs (held.Long a) text size = ⊥

kept-is : (l : Line) (text : List ℕ) (size : ℕ) → held_line_of l ≡ held.Kept text size → (text_of l ≡ text) × (size_of l ≡ size)
kept-is l text size is = by (is_long l) refl
  where
    parts : KeptIs (held_line_of l) text size
    parts = subst (λ line. KeptIs line text size) (sym is) (refl, refl)

    by : (long : Bool) → is_long l ≡ long → (text_of l ≡ text) × (size_of l ≡ size)
    by true h = absurd (rw h at parts)
    by false h = rw h at parts

ends-is : (group : List Line) (l : Line) (first : ℕ) (texts : List (List ℕ)) (ended : Bool) (before : ℕ)
    → begun_block_of group ≡ block.Within first texts ended before → ends_group group l ≡ ends_body l
ends-is [] l first texts ended before is = absurd (within-is _ first texts ended before is)
ends-is (head ∷ body) l first texts ended before is = refl

pub grown_within : (group : List Line) (l : Line) (first : ℕ) (texts : List (List ℕ)) (ended : Bool) (before : ℕ) (text : List ℕ) (size : ℕ) (ends : Bool)
    → begun_block_of group ≡ block.Within first texts ended before → held_line_of l ≡ held.Kept text size → ends_group group l ≡ ends
    → block_by first (if ended || ends then texts else texts ++ text ∷ []) (ended || ends) (before + size)
    ≡ begun_block_of (group ++ l ∷ [])
grown_within group l first texts ended before text size ends is line end =
    let parts = kept-is l text size line in
    let ends_here : ends ≡ ends_body l = sym end ∙ ends-is group l first texts ended before is in
    (λ i. block_by first (if ended || ends_here i then texts else texts ++ sym parts.0 i ∷ []) (ended || ends_here i) (before + sym parts.1 i))
    ∙ grown-lines group l first texts ended before is
