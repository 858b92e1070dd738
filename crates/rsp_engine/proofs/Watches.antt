-- What a live query watches tells when it reports, as the accepted items do.
use Rattle.std.proofs.Common.{◌≡◌, ℕ, ◌≤◌, ◌%◌, ◌==◌, Bool, true, false, true≢false, nat_lt, if◌then◌else◌, ◌&&◌, ◌||◌, not, bytes_eq, List, [], ◌∷◌, map, Option, refl, sym, ap, subst, ◌∙◌, arith}
use Rattle.std.specs.List.{All, list_any}
use Rattle.std.specs.Option.{option_map_or}
use Rattle.std.proofs.lemmas.List.Elements.{All-weaker}
use Rattle.std.proofs.lemmas.Simd.{map-map}
use Rattle.rsp_terms.specs.declared.statement.Fact.{Fact}
use Rattle.rsp_spec.specs.Windows.{Shape, closes_at}
use Rattle.rsp_report.specs.declared.chosen.Chosen.{Chosen}
use Rattle.rsp_report.specs.declared.contents.Watched.{Watched}
use Rattle.rsp_report.specs.Due as windows
use Rattle.rsp_scope.specs.Contents.{Accepted}
use Rattle.rsp_engine.specs.declared.schedule.Pending.{Pending}
use Rattle.rsp_engine.specs.Due.{is_due, watched_of, watched_window}
use Rattle.rsp_engine.specs.Seeing.{is_due_over, visible_items}
use Rattle.rsp_engine.specs.Left.{IsFirstLeft, left_from, name_in, reports_at}
use Rattle.rsp_engine.specs.Stands.{Live, asked_of, registration_of}
use Rattle.rsp_engine.specs.Watching.{Tells, asks_contents, is_due_by, is_due_over_by, name_of, reports_by}
use Rattle.rsp_engine.specs.declared.live_query.LiveQuery.{LiveQuery}
use Rattle.rsp_engine.specs.Inside.{asked, live_of}
use Rattle.rsp_engine.proofs.Left.{read_first, read_left, same_first, same_left}
use Rattle.rsp_engine.proofs.Telling.{due_alike, due_on_item_alike}

-- ---- by the windows alone

-- what a policy asks that asks for no contents
none_asked : (policy : Chosen) → asks_contents policy ≡ false → (policy.tuple ≡ false) × ((policy.change ≡ false) × (policy.nonempty ≡ false))
none_asked policy none =
    let first = neither policy.tuple (policy.change || policy.nonempty) none in
    (first.0, neither policy.change policy.nonempty first.1)
  where
    neither : (a b : Bool) → (a || b) ≡ false → (a ≡ false) × (b ≡ false)
    neither true b is = absurd (true≢false is)
    neither false b is = (refl, is)

module _ (policy : Chosen) (t : ℕ) (no_change : policy.change ≡ false) (no_content : policy.nonempty ≡ false) where
  abbrev some_closes : List Shape → Bool
  some_closes shapes = list_any (λ (w : Shape). closes_at w t) shapes

  by_shapes : (ws : List Watched) → list_any (λ (w : Watched). closes_at w.window t) ws ≡ some_closes (map (λ (w : Watched). w.window) ws)
  by_shapes [] = refl
  by_shapes (w ∷ ws) = ap (λ b. closes_at w.window t || b) (by_shapes ws)

  due_by_shapes : (ws : List Watched) → windows.is_due policy ws t
      ≡ ((not policy.close || some_closes (map (λ (w : Watched). w.window) ws)) && option_map_or (λ period. t % period == 0) policy.period true)
  due_by_shapes ws = λ k.
      (not policy.close || by_shapes ws k)
      && ((not (no_change k) || list_any (windows.changes t) ws)
      && ((not (no_content k) || list_any (windows.has_content t) ws)
      && option_map_or (λ period. t % period == 0) policy.period true))

  due_same : (one other : List Watched) → map (λ (w : Watched). w.window) one ≡ map (λ (w : Watched). w.window) other
      → windows.is_due policy one t ≡ windows.is_due policy other t
  due_same one other same =
      due_by_shapes one
      ∙ (ap (λ shapes. (not policy.close || some_closes shapes) && option_map_or (λ period. t % period == 0) policy.period true) same
      ∙ sym (due_by_shapes other))

-- ---- one query

module _ (items : List Accepted) (from next : ℕ) (arrived : Option (List ℕ)) where
  -- it reports by what it watches as by the items
  pub reports_same : (live : Live) → Tells items from (registration_of live) live.watched → (t : ℕ) → from ≤ t → t ≤ next
      → reports_by next arrived t (asked_of live) ≡ reports_at items next arrived t (registration_of live)
  reports_same live told t late early = by (asks_contents live.policy) refl
    where
      seen : List Watched
      seen = watched_of items (registration_of live)

      by : (b : Bool) → asks_contents live.policy ≡ b
          → reports_by next arrived t (asked_of live) ≡ reports_at items next arrived t (registration_of live)
      by true asks =
          let due : is_due_by (asked_of live) t ≡ is_due items (registration_of live) t =
          ap (λ b. not live.policy.tuple && b) (due_alike live.policy live.watched seen t (told.told asks t late)) in
          let over : (stream : List ℕ) → is_due_over_by (asked_of live) stream next ≡ is_due_over items (registration_of live) stream next =
          λ stream. ap (λ b. live.policy.tuple && (list_any (λ w. bytes_eq stream w.stream) live.windows && b))
          (due_on_item_alike live.policy live.watched seen next (told.told asks next (omega (arith, late, early)))) in
          (λ k. if nat_lt t next then due k else option_map_or (λ stream. over stream k) arrived false)
      by false none =
          let asked = none_asked live.policy none in
          let shapes : map (λ (w : Watched). w.window) live.watched ≡ map (λ (w : Watched). w.window) seen =
          told.windows ∙ sym (map-map (λ (w : Watched). w.window) (watched_window (visible_items items live.first)) live.windows) in
          let due : is_due_by (asked_of live) t ≡ is_due items (registration_of live) t =
          ap (λ b. not live.policy.tuple && b) (due_same live.policy t asked.1.0 asked.1.1 live.watched seen shapes) in
          let over : (stream : List ℕ) → is_due_over_by (asked_of live) stream next ≡ is_due_over items (registration_of live) stream next =
          λ stream.
          ap (λ b. b && (list_any (λ w. bytes_eq stream w.stream) live.windows && windows.is_due_on_item live.policy live.watched next)) asked.0
          ∙ sym (ap (λ b. b && (list_any (λ w. bytes_eq stream w.stream) live.windows && windows.is_due_on_item live.policy seen next)) asked.0) in
          (λ k. if nat_lt t next then due k else option_map_or (λ stream. over stream k) arrived false)

  -- ---- all queries

  pub all_report_same : (lives : List Live) → All (λ live. Tells items from (registration_of live) live.watched) lives
      → (t : ℕ) → from ≤ t → t ≤ next
      → All (λ live. reports_by next arrived t (asked_of live) ≡ reports_at items next arrived t (registration_of live)) lives
  all_report_same lives told t late early =
      All-weaker (λ live. Tells items from (registration_of live) live.watched)
      (λ live. reports_by next arrived t (asked_of live) ≡ reports_at items next arrived t (registration_of live))
      (λ live tells. reports_same live tells t late early) lives told

  -- the moments that are left are those by the items
  pub left_by_world : (lives : List Live) → All (λ live. Tells items from (registration_of live) live.watched) lives
      → (t i : ℕ) → from ≤ t → t ≤ next
      → left_from name_of (reports_by next arrived) (map asked_of lives) next t i
      ≡ left_from name_in (reports_at items next arrived) (map registration_of lives) next t i
  left_by_world lives told t i late early =
      sym (read_left asked_of name_of (reports_by next arrived) lives next t i)
      ∙ (same_left (λ live. live.name) (λ s live. reports_by next arrived s (asked_of live))
      (λ s live. reports_at items next arrived s (registration_of live)) lives next t i early
      (λ s after before. all_report_same lives told s (omega (arith, late, after)) before)
      ∙ read_left registration_of name_in (reports_at items next arrived) lives next t i)

  -- and the first place is that by the items
  pub first_by_world : (lives : List Live) → All (λ live. Tells items from (registration_of live) live.watched) lives
      → (t i : ℕ) (r : Option Pending) → from ≤ t → t ≤ next
      → IsFirstLeft (λ live. name_of (asked_of live)) (λ s live. reports_by next arrived s (asked_of live)) lives next t i r
      → IsFirstLeft name_in (reports_at items next arrived) (map registration_of lives) next t i r
  first_by_world lives told t i r late early first =
      read_first registration_of name_in (reports_at items next arrived) lives next t i r
      (same_first (λ live. live.name) (λ s live. reports_by next arrived s (asked_of live))
      (λ s live. reports_at items next arrived s (registration_of live)) lives next t i r early
      (λ s after before. all_report_same lives told s (omega (arith, late, after)) before) first)

-- the first place by the queries is that by what decides when they report
pub first_asked : {A : Type 0} (facts : A → List Fact) (queries : List (LiveQuery A)) (next : ℕ) (arrived : Option (List ℕ)) (t i : ℕ)
    (r : Option Pending)
    → IsFirstLeft (λ live. name_of (asked live)) (λ s live. reports_by next arrived s (asked live)) queries next t i r
    → IsFirstLeft name_of (reports_by next arrived) (map asked_of (map (live_of facts) queries)) next t i r
first_asked facts queries next arrived t i r first =
    subst (λ asks. IsFirstLeft name_of (reports_by next arrived) asks next t i r) (sym (map-map asked_of (live_of facts) queries))
    (read_first asked name_of (reports_by next arrived) queries next t i r first)
