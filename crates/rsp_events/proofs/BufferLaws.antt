-- Lines in one buffer: one more behind them, and the one at a place.
use Rattle.std.proofs.Common.{◌≡◌, ℕ, zero, suc, ◌+◌, ◌-◌, ◌<◌, ◌≤◌, List, [], ◌∷◌, ◌++◌, length, take, drop, get_or, refl, ap, sym, ◌∙◌, arith, length-append}
use Rattle.std.proofs.lemmas.List.{take-append-le, drop-append-le, take_all}
use Rattle.rsp_events.specs.Buffers.{IsCut, last_end, pieces, start_at}

pub start_low : (start : ℕ) (ends : List ℕ) (size : ℕ) → IsCut start ends size → start ≤ size
start_low start [] size cut = cut
start_low start (end ∷ ends) size cut = let low = start_low end ends size cut.1 in let first = cut.0 in omega (arith, low, first)

pub pieces_length : (bytes : List ℕ) (start : ℕ) (ends : List ℕ) → length (pieces bytes start ends) ≡ length ends
pieces_length bytes start [] = refl
pieces_length bytes start (end ∷ ends) = ap suc (pieces_length bytes end ends)

started : (start end : ℕ) (ends : List ℕ) (i : ℕ) → start_at start (end ∷ ends) (suc i) ≡ start_at end ends i
started start end ends zero = refl
started start end ends (suc i) = refl

pub piece_at : (bytes : List ℕ) (start : ℕ) (ends : List ℕ) (i : ℕ) (d : List ℕ) → i < length ends
    → get_or (pieces bytes start ends) i d ≡ take (get_or ends i 0 - start_at start ends i) (drop (start_at start ends i) bytes)
piece_at bytes start [] i d below = absurd (omega (arith, below))
piece_at bytes start (end ∷ ends) zero d below = refl
piece_at bytes start (end ∷ ends) (suc i) d below =
    rw (started start end ends i) (piece_at bytes end ends i d (omega (arith, below)))

pub bounds_at : (start : ℕ) (ends : List ℕ) (size i : ℕ) → IsCut start ends size → i < length ends
    → (start_at start ends i ≤ get_or ends i 0) × (get_or ends i 0 ≤ size)
bounds_at start [] size i cut below = absurd (omega (arith, below))
bounds_at start (end ∷ ends) size zero cut below = (cut.0, start_low end ends size cut.1)
bounds_at start (end ∷ ends) size (suc i) cut below =
    rw (started start end ends i) (bounds_at end ends size i cut.1 (omega (arith, below)))

-- ---- one line more

whole : (n : ℕ) (line : List ℕ) → n ≡ length line → take n line ≡ line
whole n line is = rw is (take_all (length line) line (omega arith))

pub pushed : (bytes line : List ℕ) (start : ℕ) (ends : List ℕ)
    → IsCut start ends (length bytes) → last_end start ends ≡ length bytes
    → pieces (bytes ++ line) start (ends ++ (length bytes + length line) ∷ []) ≡ pieces bytes start ends ++ line ∷ []
pushed bytes line start [] cut last =
    ap (λ l. l ∷ [])
    (rw (last, drop-append-le (length bytes) bytes line (omega arith), drop_whole bytes) (whole _ line (omega arith)))
  where
    drop_whole : (xs : List ℕ) → drop (length xs) xs ≡ []
    drop_whole [] = refl
    drop_whole (x ∷ xs) = drop_whole xs
pushed bytes line start (end ∷ ends) cut last =
    let high = start_low end ends (length bytes) cut.1 in
    let first = cut.0 in
    let same : take (end - start) (drop start (bytes ++ line)) ≡ take (end - start) (drop start bytes)
    = rw (drop-append-le start bytes line (omega (arith, high, first)))
    (take-append-le (end - start) (drop start bytes) line (omega (arith, high, first, long start bytes))) in
    (λ i. same i ∷ pieces (bytes ++ line) end (ends ++ (length bytes + length line) ∷ []))
    ∙ ap (λ ls. take (end - start) (drop start bytes) ∷ ls) (pushed bytes line end ends cut.1 last)
  where
    long : (n : ℕ) (xs : List ℕ) → length (drop n xs) ≡ length xs - n
    long zero xs = omega arith
    long (suc n) [] = omega arith
    long (suc n) (x ∷ xs) = long n xs ∙ omega arith

pub cut_more : (start : ℕ) (ends : List ℕ) (size more : ℕ) → IsCut start ends size → size ≤ more → IsCut start (ends ++ more ∷ []) more
cut_more start [] size more cut low = (omega (arith, cut, low), omega arith)
cut_more start (end ∷ ends) size more cut low = (cut.0, cut_more end ends size more cut.1 low)

pub last_more : (start : ℕ) (ends : List ℕ) (more : ℕ) → last_end start (ends ++ more ∷ []) ≡ more
last_more start [] more = refl
last_more start (end ∷ ends) more = last_more end ends more
