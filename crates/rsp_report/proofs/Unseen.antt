-- What is in no content, neither at the instant nor at the one before, changes nothing.
use Rattle.std.specs.Prelude.{◌≡◌, ℕ, ◌-◌, ◌≤◌, Bool, true, false, ◌||◌, Option, None, Some, List, [], ◌∷◌, map}
use Rattle.std.specs.List.{list_any, filter}
use Rattle.std.proofs.Common.{ap, arith, inl, inr, ◌∙◌, sym, refl, true≢false}
use Rattle.std.proofs.lemmas.Bool.{cases_lt}
use Rattle.rsp_spec.specs.Instants.{IsLeastIn}
use Rattle.rsp_spec.specs.Windows.{in_content}
use Rattle.rsp_report.specs.declared.chosen.Chosen.{Chosen}
use Rattle.rsp_report.specs.declared.contents.Watched.{Watched}
use Rattle.rsp_report.specs.Due.{changes, has_content, shows_new, is_due, is_due_on_item}
use Rattle.rsp_report.specs.Leaps.{differ, some_window, closes}
use Rattle.rsp_report.specs.Seen.{seen_at}

-- at the head: it is kept, or it doesn't pass
kept_head : (p q : ℕ → Bool) (x : ℕ) (xs : List ℕ) (kept passes : Bool) → q x ≡ kept → p x ≡ passes → (passes ≡ true → kept ≡ true)
    → list_any p (filter q xs) ≡ list_any p xs → list_any p (filter q (x ∷ xs)) ≡ list_any p (x ∷ xs)
kept_head p q x xs true passes keeps is implies rest = rw keeps (ap (λ b. p x || b) rest)
kept_head p q x xs false true keeps is implies rest = absurd (true≢false (sym (implies refl)))
kept_head p q x xs false false keeps is implies rest = rw keeps (rw is rest)

any_kept : (p q : ℕ → Bool) → ((x : ℕ) → p x ≡ true → q x ≡ true) → (xs : List ℕ) → list_any p (filter q xs) ≡ list_any p xs
any_kept p q implies [] = refl
any_kept p q implies (x ∷ xs) = kept_head p q x xs (q x) (p x) refl refl (implies x) (any_kept p q implies xs)

either_differs : (a b : Bool) → differ a b ≡ true → (a || b) ≡ true
either_differs true b h = refl
either_differs false true h = refl
either_differs false false h = h

either_first : (a b : Bool) → a ≡ true → (a || b) ≡ true
either_first true b h = refl
either_first false b h = absurd (true≢false (sym h))

changes_seen : (t : ℕ) (w : Watched) → changes t (seen_at t w) ≡ changes t w
changes_seen t w = any_kept _ _ (λ time. either_differs (in_content w.window t time) (in_content w.window (t - 1) time)) w.times

content_seen : (t : ℕ) (w : Watched) → has_content t (seen_at t w) ≡ has_content t w
content_seen t w = any_kept _ _ (λ time. either_first (in_content w.window t time) (in_content w.window (t - 1) time)) w.times

some_alike : (test : Watched → Bool) (g : Watched → Watched) → ((w : Watched) → test (g w) ≡ test w) → (ws : List Watched)
    → some_window test (map g ws) ≡ some_window test ws
some_alike test g alike [] = refl
some_alike test g alike (w ∷ ws) = rw (alike w) (ap (λ b. test w || b) (some_alike test g alike ws))

due_seen : (policy : Chosen) (ws : List Watched) (t : ℕ) → is_due policy (map (seen_at t) ws) t ≡ is_due policy ws t
due_seen policy ws t =
    rw (some_alike (closes t) (seen_at t) (λ w. refl) ws)
    (rw (some_alike (changes t) (seen_at t) (changes_seen t) ws)
    (rw (some_alike (has_content t) (seen_at t) (content_seen t) ws) refl))

due_on_item_seen : (policy : Chosen) (ws : List Watched) (t : ℕ)
    → is_due_on_item policy (map (seen_at t) ws) t ≡ is_due_on_item policy ws t
due_on_item_seen policy ws t =
    rw (some_alike (shows_new t) (seen_at t) (λ w. refl) ws)
    (rw (some_alike (has_content t) (seen_at t) (content_seen t) ws) refl)

-- two lists that show the same at an instant
pub due_unseen : (policy : Chosen) (ws other : List Watched) (t : ℕ) → map (seen_at t) other ≡ map (seen_at t) ws
    → is_due policy ws t ≡ is_due policy other t
due_unseen policy ws other t same =
    sym (due_seen policy ws t) ∙ ap (λ vs. is_due policy vs t) (sym same) ∙ due_seen policy other t

pub due_on_item_unseen : (policy : Chosen) (ws other : List Watched) (t : ℕ) → map (seen_at t) other ≡ map (seen_at t) ws
    → is_due_on_item policy ws t ≡ is_due_on_item policy other t
due_on_item_unseen policy ws other t same =
    sym (due_on_item_seen policy ws t) ∙ ap (λ vs. is_due_on_item policy vs t) (sym same) ∙ due_on_item_seen policy other t

-- the least of the instants up to `to` hangs on these alone
least_within : (p q : ℕ → Bool) (from to : ℕ) (r : Option ℕ) → ((t : ℕ) → from ≤ t → t ≤ to → p t ≡ q t)
    → IsLeastIn (λ t. p t ≡ true) from to r → IsLeastIn (λ t. q t ≡ true) from to r
least_within p q from to None alike is = λ t low high holds. is t low high (alike t low high ∙ holds)
least_within p q from to (Some least) alike is = (
  is.0,
  is.1,
  sym (alike least is.0 is.1) ∙ is.2,
  λ t low holds. elim (cases_lt to t) [
    | inl beyond ↦ omega (arith, is.1, beyond)
    | inr high ↦ is.3 t low (alike t low high ∙ holds)
  ],
)

pub least_unseen : (policy : Chosen) (ws other : List Watched) (from to : ℕ) (r : Option ℕ)
    → ((t : ℕ) → from ≤ t → t ≤ to → map (seen_at t) other ≡ map (seen_at t) ws)
    → IsLeastIn (λ t. is_due policy ws t ≡ true) from to r → IsLeastIn (λ t. is_due policy other t ≡ true) from to r
least_unseen policy ws other from to r same is =
    least_within (is_due policy ws) (is_due policy other) from to r (λ t low high. due_unseen policy ws other t (same t low high)) is
