-- What a window's times tell decides when a query is due, in whatever order the times stand.
use Rattle.std.proofs.Common.{◌≡◌, ℕ, ◌-◌, ◌%◌, ◌==◌, Bool, true, false, ◌&&◌, ◌||◌, not, cond, List, [], ◌∷◌, ◌++◌, map, filter, refl, sym, ap, ◌∙◌, true≢false}
use Rattle.std.specs.Bool.{beq}
use Rattle.std.specs.List.{list_any}
use Rattle.std.specs.Option.{option_map_or}
use Rattle.std.proofs.lemmas.Bool.{false_from_ne_true}
use Rattle.std.proofs.lemmas.List.Folds.{list_any-append}
use Rattle.rsp_spec.specs.Windows.{closes_at, in_content}
use Rattle.rsp_report.specs.declared.chosen.Chosen.{Chosen}
use Rattle.rsp_report.specs.declared.contents.Watched.{Watched}
use Rattle.rsp_report.specs.Due as windows
use Rattle.rsp_engine.specs.Watching.{Told, enters_at, leaves_at, told_at, with_time}

-- ---- whether some of a list pass a test

any_agree : {X : Type 0} (p q : X → Bool) → ((x : X) → p x ≡ q x) → (xs : List X) → list_any p xs ≡ list_any q xs
any_agree p q agree [] = refl
any_agree p q agree (x ∷ xs) = λ k. agree x k || any_agree p q agree xs k

-- one of two tests
any_either : {X : Type 0} (p q : X → Bool) (xs : List X) → list_any (λ x. p x || q x) xs ≡ (list_any p xs || list_any q xs)
any_either p q [] = refl
any_either p q (x ∷ xs) = ap (λ b. (p x || q x) || b) (any_either p q xs) ∙ exchanged (p x) (q x) (list_any p xs) (list_any q xs)
  where
    exchanged : (a b c d : Bool) → ((a || b) || (c || d)) ≡ ((a || c) || (b || d))
    exchanged true b c d = refl
    exchanged false true true d = refl
    exchanged false true false d = refl
    exchanged false false c d = refl

or_false : (b : Bool) → (b || false) ≡ b
or_false true = refl
or_false false = refl

-- with one more at the end
pub any_last : {X : Type 0} (p : X → Bool) (xs : List X) (x : X) → list_any p (xs ++ x ∷ []) ≡ (list_any p xs || p x)
any_last p xs x = list_any-append p xs (x ∷ []) ∙ ap (λ b. list_any p xs || b) (or_false (p x))

-- of those alone that pass another test, which all that pass this one do
pub any_kept : {X : Type 0} (p q : X → Bool) → ((x : X) → p x ≡ true → q x ≡ true) → (xs : List X) → list_any p (filter q xs) ≡ list_any p xs
any_kept p q implies [] = refl
any_kept p q implies (x ∷ xs) = by (q x) (implies x) (any_kept p q implies xs)
  where
    by : (kept : Bool) → (p x ≡ true → kept ≡ true) → list_any p (filter q xs) ≡ list_any p xs
        → list_any p (cond kept (x ∷ filter q xs) (filter q xs)) ≡ (p x || list_any p xs)
    by true keeps rest = ap (λ b. p x || b) rest
    by false keeps rest =
        let fails : p x ≡ false = false_from_ne_true (p x) (λ is. true≢false (sym (keeps is))) in
        rest ∙ sym (ap (λ b. b || list_any p xs) fails)

-- ---- when a query is due, by what its windows' times tell

abbrev changes_by : Told → Bool
changes_by told = told.enters || told.leaves

abbrev shows_new_by : ℕ → Told → Bool
shows_new_by t told = told.fresh && in_content told.window t t

abbrev due_by : Chosen → List Told → ℕ → Bool
due_by policy tolds t =
    (not policy.close || list_any (λ (told : Told). closes_at told.window t) tolds)
    && ((not policy.change || list_any changes_by tolds)
    && ((not policy.nonempty || list_any (λ (told : Told). told.holds) tolds)
    && option_map_or (λ period. t % period == 0) policy.period true))

abbrev due_on_item_by : Chosen → List Told → ℕ → Bool
due_on_item_by policy tolds t =
    (not policy.change || list_any (shows_new_by t) tolds) && (not policy.nonempty || list_any (λ (told : Told). told.holds) tolds)

-- what differs enters or leaves
differs : (now before : Bool) → not (beq now before) ≡ ((now && not before) || (not now && before))
differs true true = refl
differs true false = refl
differs false true = refl
differs false false = refl

changes_told : (t : ℕ) (w : Watched) → windows.changes t w ≡ changes_by (told_at t w)
changes_told t w =
    any_agree (λ time. not (beq (in_content w.window t time) (in_content w.window (t - 1) time)))
    (λ time. (in_content w.window t time && not (in_content w.window (t - 1) time))
    || (not (in_content w.window t time) && in_content w.window (t - 1) time))
    (λ time. differs (in_content w.window t time) (in_content w.window (t - 1) time)) w.times
    ∙ any_either (λ time. in_content w.window t time && not (in_content w.window (t - 1) time))
    (λ time. not (in_content w.window t time) && in_content w.window (t - 1) time) w.times

any_told : (test : Watched → Bool) (by : Told → Bool) (t : ℕ) → ((w : Watched) → test w ≡ by (told_at t w)) → (ws : List Watched)
    → list_any test ws ≡ list_any by (map (told_at t) ws)
any_told test by t same [] = refl
any_told test by t same (w ∷ ws) = λ k. same w k || any_told test by t same ws k

due_told : (policy : Chosen) (ws : List Watched) (t : ℕ) → windows.is_due policy ws t ≡ due_by policy (map (told_at t) ws) t
due_told policy ws t = λ k.
    (not policy.close || any_told (λ (w : Watched). closes_at w.window t) (λ (told : Told). closes_at told.window t) t (λ w. refl) ws k)
    && ((not policy.change || any_told (windows.changes t) changes_by t (changes_told t) ws k)
    && ((not policy.nonempty || any_told (windows.has_content t) (λ (told : Told). told.holds) t (λ w. refl) ws k)
    && option_map_or (λ period. t % period == 0) policy.period true))

due_on_item_told : (policy : Chosen) (ws : List Watched) (t : ℕ)
    → windows.is_due_on_item policy ws t ≡ due_on_item_by policy (map (told_at t) ws) t
due_on_item_told policy ws t = λ k.
    (not policy.change || any_told (windows.shows_new t) (shows_new_by t) t (λ w. refl) ws k)
    && (not policy.nonempty || any_told (windows.has_content t) (λ (told : Told). told.holds) t (λ w. refl) ws k)

-- so what tells the same at t is due alike at t
module _ (policy : Chosen) (one other : List Watched) (t : ℕ) (same : map (told_at t) one ≡ map (told_at t) other) where
  pub due_alike : windows.is_due policy one t ≡ windows.is_due policy other t
  due_alike = due_told policy one t ∙ (ap (λ tolds. due_by policy tolds t) same ∙ sym (due_told policy other t))

  pub due_on_item_alike : windows.is_due_on_item policy one t ≡ windows.is_due_on_item policy other t
  due_on_item_alike =
      due_on_item_told policy one t ∙ (ap (λ tolds. due_on_item_by policy tolds t) same ∙ sym (due_on_item_told policy other t))

-- ---- once a time is added

-- what the times tell with one more follows from what they told
abbrev told_with : Bool → ℕ → ℕ → Told → Told
told_with over time t told =
    record {
      window = told.window;
      holds = told.holds || (over && in_content told.window t time);
      enters = told.enters || (over && (in_content told.window t time && not (in_content told.window (t - 1) time)));
      leaves = told.leaves || (over && (not (in_content told.window t time) && in_content told.window (t - 1) time));
      fresh = over;
    }

told_by : (over : Bool) (time t : ℕ) (w : Watched) → told_at t (with_time over time w) ≡ told_with over time t (told_at t w)
told_by true time t w = λ k.
    record {
      window = w.window;
      holds = any_last (in_content w.window t) w.times time k;
      enters = any_last (λ x. in_content w.window t x && not (in_content w.window (t - 1) x)) w.times time k;
      leaves = any_last (λ x. not (in_content w.window t x) && in_content w.window (t - 1) x) w.times time k;
      fresh = true;
    }
told_by false time t w = λ k.
    record {
      window = w.window;
      holds = sym (or_false (windows.has_content t w)) k;
      enters = sym (or_false (enters_at t w)) k;
      leaves = sym (or_false (leaves_at t w)) k;
      fresh = false;
    }

-- so what told the same tells the same with it
pub same_with : (over : Bool) (time t : ℕ) (one other : Watched) → told_at t one ≡ told_at t other
    → told_at t (with_time over time one) ≡ told_at t (with_time over time other)
same_with over time t one other same =
    told_by over time t one ∙ (ap (told_with over time t) same ∙ sym (told_by over time t other))
