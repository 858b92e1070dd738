-- Which windows need an item, and up to when.
use Rattle.std.proofs.Common.{◌≡◌, ℕ, ◌+◌, ◌*◌, ◌<◌, ◌≤◌, ◌↔◌, Bool, true, false, true≢false, cond, is_some, unwrap_or, inl, inr, ◌&&◌, ◌||◌, nat_lt, nat_le, max, Option, None, Some, List, [], ◌∷◌, ◌++◌, All, Contains, Decides, find, slice_index_or, refl, sym, ap, ◌∙◌, bytes_eq, le-leb, mul-zero, arith}
use Rattle.std.specs.List.{list_any, range_with_len}
use Rattle.std.specs.Option.{option_map_or}
use Rattle.std.proofs.Math.Nat.{le-mul_of_pos_right}
use Rattle.std.proofs.lemmas.Bool.{cases_lt}
use Rattle.std.proofs.lemmas.Bool.Decides.{nat_tests, same_from_decides}
use Rattle.std.proofs.lemmas.List.Folds.{Any-from_list_any, list_any-append, list_any-from_Any, list_any_at, list_any_none}
use Rattle.std.proofs.lemmas.List.FromFn.{get_or-range_with_len, length-range_with_len}
use Rattle.rsp_spec.specs.Windows.{Shape, active_window, closing, contains, in_content, opening}
use Rattle.rsp_spec.specs.Relations.{IsAtMost, IsNeeded}
use Rattle.rsp_spec.proofs.Truths.{and_left, and_right}
use Rattle.rsp_scope.specs.Contents.{Numbered, Watch, sees}
use Rattle.rsp_scope.specs.Ends.{EndsAt, later}
use Rattle.rsp_scope.specs.Needed.{is_needed, is_needed_by}

any-weaker : {X : Type 0} (p q : X → Bool) → ((x : X) → p x ≡ true → q x ≡ true) → (xs : List X) → list_any p xs ≡ true → list_any q xs ≡ true
any-weaker p q weaker xs is = let h = Any-from_list_any p xs is in list_any-from_Any q xs (h.0, h.1, h.2, h.3, weaker h.1 h.4)

and-given : (a b c : Bool) → (b ≡ true → c ≡ true) → (a && b) ≡ true → (a && c) ≡ true
and-given true b c weaker is = weaker is
and-given false b c weaker is = is

or-false : (b : Bool) → (b || false) ≡ b
or-false true = refl
or-false false = refl

-- window k contains the item and closes at n or later
abbrev reaches : ℕ → Numbered → Watch → ℕ → Bool
reaches n entry watch k = contains watch.shape k entry.item.time && nat_le n (closing watch.shape k)

abbrev some_reaches : ℕ → Numbered → Watch → Bool
some_reaches n entry watch = list_any (reaches n entry watch) (range_with_len 0 entry.item.time)

reaching : (n m : ℕ) (entry : Numbered) (watch : Watch)
    → ((k : ℕ) → reaches n entry watch k ≡ true → reaches m entry watch k ≡ true)
    → is_needed_by n entry watch ≡ true → is_needed_by m entry watch ≡ true
reaching n m entry watch weaker =
    and-given (nat_le watch.first entry.number)
    (bytes_eq entry.item.stream watch.stream && some_reaches n entry watch)
    (bytes_eq entry.item.stream watch.stream && some_reaches m entry watch)
    (and-given (bytes_eq entry.item.stream watch.stream) (some_reaches n entry watch) (some_reaches m entry watch)
    (any-weaker (reaches n entry watch) (reaches m entry watch) weaker (range_with_len 0 entry.item.time)))

-- what is needed at an instant is needed before
pub needed-earlier : (cut next : ℕ) (watches : List Watch) (entry : Numbered) → cut ≤ next
    → is_needed next watches entry ≡ true → is_needed cut watches entry ≡ true
needed-earlier cut next watches entry before =
    any-weaker (is_needed_by next entry) (is_needed_by cut entry)
    (λ watch. reaching next cut entry watch
    (λ k. and-given (contains watch.shape k entry.item.time) (nat_le next (closing watch.shape k)) (nat_le cut (closing watch.shape k))
    (λ is. grind (arith, nat_tests, before, is)))) watches

-- and at its own time
needed-when : (n : ℕ) (watches : List Watch) (entry : Numbered) → is_needed n watches entry ≡ true
    → is_needed entry.item.time watches entry ≡ true
needed-when n watches entry =
    any-weaker (is_needed_by n entry) (is_needed_by entry.item.time entry)
    (λ watch. reaching n entry.item.time entry watch
    (λ k is. let inside = and_left (contains watch.shape k entry.item.time) (nat_le n (closing watch.shape k)) is in
    (λ i. inside i && and_right (nat_lt (opening watch.shape k) entry.item.time) (nat_le entry.item.time (closing watch.shape k)) inside i))) watches

-- an item ends at its time or later
pub end_late : (watches : List Watch) (entry : Numbered) (e : ℕ) → EndsAt watches entry (Some e) → entry.item.time ≤ e
end_late watches entry e ends =
    let last : is_needed e watches entry ≡ true = ends e ∙ le-leb e e (omega arith) in
    let test : nat_le entry.item.time e ≡ true = sym (ends entry.item.time) ∙ needed-when e watches entry last in
    grind (arith, nat_tests, test)

-- a window of the watch that needs the item
needed_by-at : (n : ℕ) (entry : Numbered) (watch : Watch) (k : ℕ) → nat_le watch.first entry.number ≡ true
    → bytes_eq entry.item.stream watch.stream ≡ true
    → k < entry.item.time → contains watch.shape k entry.item.time ≡ true → n ≤ closing watch.shape k → is_needed_by n entry watch ≡ true
needed_by-at n entry watch k first stream below inside late =
    let at = get_or-range_with_len 0 entry.item.time k 0 below in
    let is : 0 + k ≡ k = omega arith in
    let within = length-range_with_len 0 entry.item.time in
    let here : reaches n entry watch k ≡ true = λ i. inside i && le-leb n (closing watch.shape k) late i in
    let some : some_reaches n entry watch ≡ true
    = list_any_at (reaches n entry watch) (range_with_len 0 entry.item.time) k 0 (omega (arith, within, below))
    (ap (reaches n entry watch) (at ∙ is) ∙ here) in λ i. first i && (stream i && some i)

needed_by-from : (n : ℕ) (entry : Numbered) (watch : Watch) → is_needed_by n entry watch ≡ true → IsNeeded watch.shape entry.item.time n
needed_by-from n entry watch is =
    let seen = and_right (nat_le watch.first entry.number) (bytes_eq entry.item.stream watch.stream && some_reaches n entry watch) is in
    let some = and_right (bytes_eq entry.item.stream watch.stream) (some_reaches n entry watch) seen in
    let h = Any-from_list_any (reaches n entry watch) (range_with_len 0 entry.item.time) some in
    let late : nat_le n (closing watch.shape h.1) ≡ true
    = and_right (contains watch.shape h.1 entry.item.time) (nat_le n (closing watch.shape h.1)) h.4 in record {
      number = h.1;
      inside = and_left (contains watch.shape h.1 entry.item.time) (nat_le n (closing watch.shape h.1)) h.4;
      late = grind (arith, nat_tests, late);
    }

-- each window opens 1 ms or more after the one before
opens-after : (w : Shape) (k time : ℕ) → 1 ≤ w.slide → contains w k time ≡ true → k < time
opens-after w k time slide inside = grind (arith, nat_tests, le-mul_of_pos_right k slide, inside)

at-most : (n : ℕ) (end : Option ℕ) → Decides (option_map_or (λ e. nat_le n e) end false) (IsAtMost n end)
at-most n None = (λ is. absurd (true≢false (sym is)), λ none. absurd none)
at-most n (Some e) = (λ is. grind (arith, nat_tests, is), λ late. le-leb n e late)

-- where the window sees the item, the last closing that contains it is its end
pub ends_of_seen : (watch : Watch) (entry : Numbered) (end : Option ℕ) → 1 ≤ watch.shape.slide
    → nat_le watch.first entry.number ≡ true
    → bytes_eq entry.item.stream watch.stream ≡ true
    → ((from : ℕ) → IsNeeded watch.shape entry.item.time from ↔ IsAtMost from end)
    → EndsAt (watch ∷ []) entry end
ends_of_seen watch entry end slide first stream last n =
    or-false (is_needed_by n entry watch)
    ∙ same_from_decides (is_needed_by n entry watch) (option_map_or (λ e. nat_le n e) end false) (
      needed_by-from n entry watch,
      λ (h : IsNeeded watch.shape entry.item.time n).
          needed_by-at n entry watch h.number first stream (opens-after watch.shape h.number entry.item.time slide h.inside) h.inside h.late,
    )
    (λ is. (last n).1 ((at-most n end).0 is), λ h. (at-most n end).1 ((last n).0 h))

-- no windows need nothing
pub ends_none : (entry : Numbered) → EndsAt [] entry None
ends_none entry n = refl

later-test : (n : ℕ) (a b : Option ℕ) → (option_map_or (λ e. nat_le n e) a false || option_map_or (λ e. nat_le n e) b false)
    ≡ option_map_or (λ e. nat_le n e) (later a b) false
later-test n None b = refl
later-test n (Some a) None = or-false (nat_le n a)
later-test n (Some a) (Some b) = by (nat_le n a) (nat_le n b) refl refl
  where
    by : (x y : Bool) → nat_le n a ≡ x → nat_le n b ≡ y → (x || y) ≡ nat_le n (max a b)
    by true y first second = let more : n ≤ a = grind (arith, nat_tests, first) in sym (le-leb n (max a b) (omega (arith, more)))
    by false true first second = let more : n ≤ b = grind (arith, nat_tests, second) in sym (le-leb n (max a b) (omega (arith, more)))
    by false false first second = grind (arith, nat_tests, first, second)

-- under two lists of windows, the later of both ends
pub ends_joined : (ws vs : List Watch) (entry : Numbered) (a b : Option ℕ) → EndsAt ws entry a → EndsAt vs entry b
    → EndsAt (ws ++ vs) entry (later a b)
ends_joined ws vs entry a b first second n =
    list_any-append (is_needed_by n entry) ws vs ∙ ((λ i. first n i || second n i) ∙ later-test n a b)

-- windows that see the items from a later number on don't see this one
pub needed-unseen : (n : ℕ) (ws more : List Watch) (entry : Numbered) → All (λ (watch : Watch). entry.number < watch.first) more
    → is_needed n (ws ++ more) entry ≡ is_needed n ws entry
needed-unseen n ws more entry unseen =
    list_any-append (is_needed_by n entry) ws more
    ∙ (ap (λ b. is_needed n ws entry || b) (list_any_none (is_needed_by n entry) more (λ k d below. one (slice_index_or more k d) (unseen k d below)))
    ∙ or-false (is_needed n ws entry))
  where
    one : (watch : Watch) → entry.number < watch.first → is_needed_by n entry watch ≡ false
    one watch h =
        let test : nat_le watch.first entry.number ≡ false = grind (arith, nat_tests, h) in
        ap (λ b. b && (bytes_eq entry.item.stream watch.stream && some_reaches n entry watch)) test

-- with fewer windows less is needed
pub fewer_need_less : (xs gone ys : List Watch) (n : ℕ) (entry : Numbered) → is_needed n (xs ++ ys) entry ≡ true
    → is_needed n (xs ++ (gone ++ ys)) entry ≡ true
fewer_need_less xs gone ys n entry is =
    list_any-append (is_needed_by n entry) xs (gone ++ ys)
    ∙ (ap (λ b. is_needed n xs entry || b) (list_any-append (is_needed_by n entry) gone ys)
    ∙ by (is_needed n xs entry) (is_needed n gone entry) (is_needed n ys entry) (sym (list_any-append (is_needed_by n entry) xs ys) ∙ is))
  where
    by : (a g b : Bool) → (a || b) ≡ true → (a || (g || b)) ≡ true
    by true g b h = refl
    by false true b h = refl
    by false false b h = h

found-passes : (p : ℕ → Bool) (xs : List ℕ) (k : ℕ) → find p xs ≡ Some k → p k ≡ true
found-passes p [] k is = absurd (true≢false (sym (ap is_some is)))
found-passes p (x ∷ xs) k is = by (p x) refl is (found-passes p xs k)
  where
    by : (b : Bool) → p x ≡ b → cond b (Some x) (find p xs) ≡ Some k → (find p xs ≡ Some k → p k ≡ true) → p k ≡ true
    by true passes same rest = ap p (sym (ap (λ o. unwrap_or o 0) same)) ∙ passes
    by false fails same rest = rest same

-- in the content at t: some window contains the time, and closes at t or later
in-content : (w : Shape) (t time : ℕ) → in_content w t time ≡ true → (k : ℕ) × (k < time) × (contains w k time ≡ true) × (t ≤ closing w k)
in-content w t time is = by (active_window w t) refl is
  where
    by : (active : Option ℕ) → active_window w t ≡ active → option_map_or (λ k. nat_lt (opening w k) time && nat_le time t) active false ≡ true
        → (k : ℕ) × (k < time) × (contains w k time ≡ true) × (t ≤ closing w k)
    by None found h = absurd (true≢false (sym h))
    by (Some k) found h =
        let open' = found-passes (λ j. contains w j t) (range_with_len 0 t) k found in
        let after = and_left (nat_lt (opening w k) time) (nat_le time t) h in
        let until = and_right (nat_lt (opening w k) time) (nat_le time t) h in
        elim (cases_lt 0 w.slide) [
          | inl apart ↦
              let low = le-mul_of_pos_right k apart in (
                k,
                grind (arith, nat_tests, low, after),
                grind (arith, nat_tests, after, until, open'),
                grind (arith, nat_tests, open'),
              )
          | inr together ↦
              let none : w.slide ≡ 0 = omega (arith, together) in
              let same : k * w.slide ≡ 0 = ap (λ s. k * s) none ∙ mul-zero k in (
                0,
                grind (arith, nat_tests, after),
                grind (arith, nat_tests, same, after, until, open'),
                grind (arith, nat_tests, same, open'),
              )
        ]

-- what the window sees at t is needed up to t
pub seen-needed : (cut t : ℕ) (watches : List Watch) (watch : Watch) (entry : Numbered) → Contains watches watch → cut ≤ t
    → sees watch t entry ≡ true → is_needed cut watches entry ≡ true
seen-needed cut t watches watch entry among before is =
    let first = and_left (nat_le watch.first entry.number) (bytes_eq entry.item.stream watch.stream && in_content watch.shape t entry.item.time) is in
    let rest = and_right (nat_le watch.first entry.number) (bytes_eq entry.item.stream watch.stream && in_content watch.shape t entry.item.time) is in
    let stream = and_left (bytes_eq entry.item.stream watch.stream) (in_content watch.shape t entry.item.time) rest in
    let h = in-content watch.shape t entry.item.time (and_right (bytes_eq entry.item.stream watch.stream) (in_content watch.shape t entry.item.time) rest) in
    list_any_at (is_needed_by cut entry) watches among.0 watch among.1
    (ap (is_needed_by cut entry) among.2 ∙ needed_by-at cut entry watch h.0 first stream h.1 h.2 (omega (arith, h.3, before)))
