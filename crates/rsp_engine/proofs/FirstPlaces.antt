-- The first place at one instant.
use Rattle.std.proofs.Common.{◌≡◌, ℕ, ◌≤◌, Bool, true, false, ◌&&◌, ◌||◌, List, [], ◌∷◌, filter, drop, if◌then◌else◌, Option, None, Some, refl, sym, ap, subst, ◌∙◌, arith}
use Rattle.std.proofs.lemmas.Bool.{le-ltb}
use Rattle.rsp_report.specs.Due as windows
use Rattle.rsp_engine.specs.declared.live_query.LiveQuery.{LiveQuery}
use Rattle.rsp_engine.specs.Inside.{asked}
use Rattle.rsp_engine.specs.Left.{IsFirstAt, IsFirstLeft}
use Rattle.rsp_engine.specs.Readers.{is_watcher, reads}
use Rattle.rsp_engine.specs.Watching.{is_due_by, is_due_over_by, reports_by}
use Rattle.rsp_engine.proofs.Left.{quiet}

-- the first that passes at the instant itself
pub here : {Q : Type 0} (name : Q → List ℕ) (test : ℕ → Q → Bool) (queries : List Q) (last t i k : ℕ) → t ≤ last
    → IsFirstAt (test t) queries i (Some k)
    → IsFirstLeft name test queries last t i (Some (record { at = t; query = k }))
here name test queries last t i k within first = (
  record { within = within; query = first.1.0; listed = first.1.1; reports = first.1.2 },
  omega arith,
  λ same. first.0,
  quiet name test queries last t i k first.2,
)

-- a query that doesn't watch the stream isn't due on its items
pub other_stream : {A : Type 0} (stream : List ℕ) (next : ℕ) (live : LiveQuery A) → is_watcher stream live ≡ false
    → is_due_over_by (asked live) stream next ≡ false
other_stream stream next live none = by live.policy.tuple refl
  where
    on_item : Bool
    on_item = windows.is_due_on_item live.policy live.watched.items next

    never : (b : Bool) → (b && false) ≡ false
    never true = refl
    never false = refl

    by : (b : Bool) → live.policy.tuple ≡ b → (live.policy.tuple && (reads stream live.windows && on_item)) ≡ false
    by false not_tuple = ap (λ b. b && (reads stream live.windows && on_item)) not_tuple
    by true tuple =
        let unread : reads stream live.windows ≡ false =
        sym (ap (λ b. (b || (live.policy.change || live.policy.nonempty)) && reads stream live.windows) tuple) ∙ none in
        ap (λ b. live.policy.tuple && (b && on_item)) unread ∙ never live.policy.tuple

-- at `next` itself by the newest item
module _ {A : Type 0} (next : ℕ) where
  pub first_arrived : (stream : List ℕ) (queries : List (LiveQuery A)) (i : ℕ) (r : Option ℕ)
      → IsFirstAt (λ live. is_due_over_by (asked live) stream next) queries i r
      → IsFirstAt (λ live. reports_by next (Some stream) next (asked live)) queries i r
  first_arrived stream queries i r first =
      subst (λ b. IsFirstAt (λ live. if b then is_due_by (asked live) next else is_due_over_by (asked live) stream next) queries i r)
      (sym (le-ltb next next (omega arith))) first

  -- where none arrived
  pub none_arrived : (queries : List (LiveQuery A)) (i : ℕ) → IsFirstAt (λ live. reports_by next None next (asked live)) queries i None
  none_arrived queries i =
      subst (λ b. filter (λ live. if b then is_due_by (asked live) next else false) (drop i queries) ≡ [])
      (sym (le-ltb next next (omega arith))) (none_false (drop i queries))
    where
      none_false : (queries : List (LiveQuery A)) → filter (λ live. false) queries ≡ []
      none_false [] = refl
      none_false (live ∷ queries) = none_false queries
