-- A query whose windows aren't fresh any more.
use Rattle.std.proofs.Common.{◌≡◌, ℕ, zero, suc, ◌<◌, true, false, true≢false, List, [], ◌∷◌, length, map, get_or, refl, sym, ap, subst, ◌∙◌, arith}
use Rattle.std.specs.List.{All}
use Rattle.std.proofs.lemmas.List.Elements.{All-map, All-weaker}
use Rattle.rsp_report.specs.declared.contents.Watched.{Watched}
use Rattle.rsp_report.specs.Due.{IsFreshAt, IsWatched}
use Rattle.rsp_scope.specs.Contents.{Accepted}
use Rattle.rsp_engine.specs.World.{Registration}
use Rattle.rsp_engine.specs.declared.live_query.LiveQuery.{LiveQuery}
use Rattle.rsp_engine.specs.declared.live_query.StreamWindow.{StreamWindow}
use Rattle.rsp_engine.specs.Inside.{Parts, asked, fixed, parts_of}
use Rattle.rsp_engine.specs.Readers.{IsCalm}
use Rattle.rsp_engine.specs.Watched.{IsCalmed, calmed}
use Rattle.rsp_engine.specs.Watching.{IsPolicy, IsUpTo, IsWatching, Tells, asks_contents}

-- ---- windows

pub all_calm : (ws : List Watched) → IsCalm (map calmed ws)
all_calm [] k d within = absurd (omega (arith, within))
all_calm (w ∷ ws) zero d within = refl
all_calm (w ∷ ws) (suc k) d within = all_calm ws k d (omega (arith, within))

-- windows that aren't fresh stay as they are
calm_already : (ws : List Watched) → IsCalm ws → ws ≡ map calmed ws
calm_already [] calm = refl
calm_already (w ∷ ws) calm =
    let first : w ≡ calmed w = (λ i. record { window = w.window; times = w.times; fresh = calm 0 w (omega arith) i }) in
    let rest : ws ≡ map calmed ws = calm_already ws (λ k d within. calm (suc k) d (omega (arith, within))) in
    (λ i. first i ∷ rest i)

-- a query that has nothing fresh is calmed already
pub calm_is : {A : Type 0} (live : LiveQuery A) → IsCalm live.watched.items → IsCalmed live live
calm_is live calm = record { parts = refl; watched = calm_already live.watched.items calm; due = refl }

-- what holds of windows and doesn't depend on what is fresh holds of them
calmed_all : (P : Watched → Type 0) → ((w : Watched) → P w → P (calmed w)) → (ws : List Watched) → All P ws → All P (map calmed ws)
calmed_all P kept ws all = All-map P calmed ws (All-weaker P (λ w. P (calmed w)) kept ws all)

pub still_watched : (w : Watched) → IsWatched w → IsWatched (calmed w)
still_watched w is = record { sorted = is.sorted; high = is.high }

shapes_calm : (ws : List Watched) → map (λ (w : Watched). w.window) (map calmed ws) ≡ map (λ (w : Watched). w.window) ws
shapes_calm [] = refl
shapes_calm (w ∷ ws) = ap (λ l. w.window ∷ l) (shapes_calm ws)

-- ---- one query

module _ {A : Type 0} (old new : LiveQuery A) (is : IsCalmed old new) where
  same_shapes : map (λ (w : Watched). w.window) new.watched.items ≡ map (λ (w : Watched). w.window) old.watched.items
  same_shapes = ap (map (λ (w : Watched). w.window)) is.watched ∙ shapes_calm old.watched.items

  -- it watches as before
  pub calmed_watching : IsWatching (asked old) → IsWatching (asked new)
  calmed_watching watching = record {
    policy = subst (λ (p : Parts A). IsPolicy p.query.reading.policy) (sym is.parts) watching.policy;
    shapes = same_shapes ∙ (watching.shapes ∙ ap (λ (p : Parts A). map (λ (w : StreamWindow). w.shape) p.query.reading.windows) (sym is.parts));
    watched = subst (All IsWatched) (sym is.watched) (calmed_all IsWatched still_watched old.watched.items watching.watched);
  }

  pub calmed_up_to : (latest : ℕ) → All (IsUpTo latest) old.watched.items → All (IsUpTo latest) new.watched.items
  calmed_up_to latest up_to = subst (All (IsUpTo latest)) (sym is.watched) (calmed_all (IsUpTo latest) (λ w early. early) old.watched.items up_to)

  pub calmed_fresh : (time : ℕ) → All (IsFreshAt time) new.watched.items
  calmed_fresh time =
      subst (All (IsFreshAt time)) (sym is.watched)
      (All-weaker (λ (w : Watched). w.fresh ≡ false) (IsFreshAt time) (λ w calm fresh. absurd (true≢false (sym fresh ∙ calm)))
      (map calmed old.watched.items) (all_calm old.watched.items))

  -- and what tells of some items where the policy asks for no contents tells of any
  pub calmed_tells : (items more : List Accepted) (from : ℕ) → asks_contents old.policy ≡ false
      → Tells items from (fixed old) old.watched.items → Tells more from (fixed new) new.watched.items
  calmed_tells items more from none told =
      subst (λ (p : Parts A). Tells more from p.query new.watched.items) (sym is.parts)
      (record {
        windows = same_shapes ∙ told.windows;
        told = λ asks. absurd (true≢false (sym asks ∙ none));
      })
