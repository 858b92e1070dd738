-- The longest front that a test accepts, found in one pass.
use Rattle.std.proofs.Common.{◌≡◌, ℕ, zero, suc, ◌<◌, ◌≤◌, Bool, true, false, true≢false, List, [], ◌∷◌, length, take, refl, sym, ap, ◌∙◌, arith, if◌then◌else◌, Option, Some, None}
use Rattle.std.specs.Prelude.{◌&&◌, ◌==◌, not}
use Rattle.std.specs.Option.{option_map_or}
use Rattle.std.proofs.lemmas.Bool.Decides.{nat_tests}
use Rattle.rsp_scan.specs.Fronts.{longest_front, longest_up_to}
use Rattle.rsp_scan.specs.Machines.{Machine, accepts}
use Rattle.rsp_scan.specs.Scans.{lengthened, scan}

pub record IsLongest (test : List ℕ → Bool) (xs : List ℕ) (k m : ℕ) : Type 0 where
  pub within : m ≤ k
  pub passes : 0 < m → test (take m xs) ≡ true
  pub longer : (j : ℕ) → m < j → j ≤ k → test (take j xs) ≡ false

-- the test at the top, whichever it answers
longest_top : (b : Bool) (k m n : ℕ) → m ≤ suc k → (m ≡ suc k → b ≡ true) → (m < suc k → b ≡ false) → (m ≤ k → n ≡ m)
    → (if b then suc k else n) ≡ m
longest_top true k m n within top below rest = grind (arith, top, below, true≢false)
longest_top false k m n within top below rest = grind (arith, top, below, rest, true≢false)

pub longest_is : (test : List ℕ → Bool) (xs : List ℕ) (k m : ℕ) → IsLongest test xs k m → longest_up_to k test xs ≡ m
longest_is test xs zero m h = let w = h.within in omega arith
longest_is test xs (suc k) m h =
    longest_top (test (take (suc k) xs)) k m (longest_up_to k test xs) h.within
    (λ top. ap (λ n. test (take n xs)) (sym top) ∙ h.passes (omega arith))
    (λ below. h.longer (suc k) below (omega arith))
    (λ within. longest_is test xs k m (record { within = within; passes = h.passes; longer = λ j more most. h.longer j more (omega arith) }))

-- ---- a machine finds it

ended : {S : Type 0} (m : Machine S) (s : S) (c : ℕ) (cs : List ℕ) (k : ℕ) → m.step s c ≡ None → IsLongest (accepts m s) (c ∷ cs) k 0
ended m s c cs k none = record {
  within = omega arith;
  passes = λ some. absurd (omega arith);
  longer = later;
}
  where
    later : (j : ℕ) → 0 < j → j ≤ k → accepts m s (take j (c ∷ cs)) ≡ false
    later zero more most = absurd (omega arith)
    later (suc j) more most = rw none refl

stepped : {S : Type 0} (m : Machine S) (s t : S) (c : ℕ) (cs : List ℕ) (j : ℕ) → m.step s c ≡ Some t
    → accepts m s (take (suc j) (c ∷ cs)) ≡ accepts m t (take j cs)
stepped m s t c cs j is = rw is refl

-- longer fronts, where the one of one item may not end
none_longer : {S : Type 0} (m : Machine S) (t : S) (cs : List ℕ) (n j : ℕ) → IsLongest (accepts m t) cs (length cs) n → n ≡ 0
    → m.ends t ≡ false → j ≤ length cs → accepts m t (take j cs) ≡ false
none_longer m t cs n zero h none not_end most = not_end
none_longer m t cs n (suc j) h none not_end most = h.longer (suc j) (omega arith) most

some_pass : {S : Type 0} (m : Machine S) (t : S) (cs : List ℕ) (n : ℕ) → IsLongest (accepts m t) cs (length cs) n
    → (n ≡ 0 → m.ends t ≡ true) → accepts m t (take n cs) ≡ true
some_pass m t cs zero h may_end = may_end refl
some_pass m t cs (suc n) h may_end = h.passes (omega arith)

longest_more : {S : Type 0} (m : Machine S) (s t : S) (c : ℕ) (cs : List ℕ) (n : ℕ) → m.step s c ≡ Some t
    → IsLongest (accepts m t) cs (length cs) n → (n ≡ 0 → m.ends t ≡ true)
    → IsLongest (accepts m s) (c ∷ cs) (suc (length cs)) (suc n)
longest_more m s t c cs n is h may_end = record {
  within = let w = h.within in omega arith;
  passes = λ some. stepped m s t c cs n is ∙ some_pass m t cs n h may_end;
  longer = later;
}
  where
    later : (j : ℕ) → suc n < j → j ≤ suc (length cs) → accepts m s (take j (c ∷ cs)) ≡ false
    later zero more most = absurd (omega arith)
    later (suc j) more most = stepped m s t c cs j is ∙ h.longer j (omega arith) (omega arith)

lengthened_by : {S : Type 0} (m : Machine S) (s t : S) (c : ℕ) (cs : List ℕ) (n : ℕ) (b e : Bool) → m.step s c ≡ Some t
    → IsLongest (accepts m t) cs (length cs) n → (n == 0) ≡ b → m.ends t ≡ e
    → IsLongest (accepts m s) (c ∷ cs) (suc (length cs)) (if b && not e then 0 else suc n)
lengthened_by m s t c cs n true false is h none not_end = record {
  within = omega arith;
  passes = λ some. absurd (omega arith);
  longer = later;
}
  where
    later : (j : ℕ) → 0 < j → j ≤ suc (length cs) → accepts m s (take j (c ∷ cs)) ≡ false
    later zero more most = absurd (omega arith)
    later (suc j) more most =
        let zero_is : n ≡ 0 = grind (arith, nat_tests) in
        stepped m s t c cs j is ∙ none_longer m t cs n j h zero_is not_end (omega arith)
lengthened_by m s t c cs n true true is h none may_end = longest_more m s t c cs n is h (λ _. may_end)
lengthened_by m s t c cs n false e is h some may_end =
    longest_more m s t c cs n is h (λ none. absurd (let zero_is : (n == 0) ≡ true = grind (arith, nat_tests) in true≢false (sym zero_is ∙ some)))

lengthened_is : {S : Type 0} (m : Machine S) (s t : S) (c : ℕ) (cs : List ℕ) (n : ℕ) → m.step s c ≡ Some t
    → IsLongest (accepts m t) cs (length cs) n → IsLongest (accepts m s) (c ∷ cs) (suc (length cs)) (lengthened (m.ends t) n)
lengthened_is m s t c cs n is h = lengthened_by m s t c cs n (n == 0) (m.ends t) is h refl refl

scan_step : {S : Type 0} (m : Machine S) (s : S) (c : ℕ) (cs : List ℕ) (o : Option S) → m.step s c ≡ o
    → ((t : S) → IsLongest (accepts m t) cs (length cs) (scan m t cs))
    → IsLongest (accepts m s) (c ∷ cs) (suc (length cs)) (option_map_or (λ t. lengthened (m.ends t) (scan m t cs)) o 0)
scan_step m s c cs None is each = ended m s c cs (suc (length cs)) is
scan_step m s c cs (Some t) is each = lengthened_is m s t c cs (scan m t cs) is (each t)

pub scan_is : {S : Type 0} (m : Machine S) (s : S) (cs : List ℕ) → IsLongest (accepts m s) cs (length cs) (scan m s cs)
unfolding scan
scan_is m s [] = record {
  within = omega arith;
  passes = λ some. absurd (omega arith);
  longer = λ j more most. absurd (omega arith);
}
scan_is m s (c ∷ cs) = scan_step m s c cs (m.step s c) refl (λ t. scan_is m t cs)

test_same : (test other : List ℕ → Bool) (xs : List ℕ) (k m : ℕ) → ((ys : List ℕ) → test ys ≡ other ys) → IsLongest other xs k m → IsLongest test xs k m
test_same test other xs k m same h = record {
  within = h.within;
  passes = λ some. same (take m xs) ∙ h.passes some;
  longer = λ j more most. same (take j xs) ∙ h.longer j more most;
}

-- the longest front of a test that a machine answers
pub longest_scanned : {S : Type 0} (m : Machine S) (s : S) (test : List ℕ → Bool) (xs : List ℕ)
    → ((ys : List ℕ) → test ys ≡ accepts m s ys) → longest_front test xs ≡ take (scan m s xs) xs
longest_scanned m s test xs same =
    ap (λ n. take n xs)
    (longest_is test xs (length xs) (scan m s xs) (test_same test (accepts m s) xs (length xs) (scan m s xs) same (scan_is m s xs)))
