-- Lists by stream, as a query is added or taken out.
use Rattle.std.proofs.Common.{◌≡◌, ℕ, zero, suc, ◌+◌, ◌<◌, Bool, true, false, cond, ◌||◌, Option, None, Some, List, [], ◌∷◌, ◌++◌, filter, length, map, take, get_or, refl, sym, ap, subst, ◌∙◌, bytes_eq}
use Rattle.std.specs.Cmp.Lexicographic.{bytes_decides}
use Rattle.std.specs.Global.{Vec}
use Rattle.std.specs.List.{list_any}
use Rattle.std.specs.Map.{lookup}
use Rattle.std.specs.Map.Calls.{RetainsPairs}
use Rattle.std.specs.Option.{option_map_or}
use Rattle.std.proofs.lemmas.List.{append-nil, append_assoc, map-append, take_more}
use Rattle.std.proofs.lemmas.List.Elements.{filter-append}
use Rattle.std.proofs.lemmas.List.Folds.{list_any-append}
use Rattle.rsp_engine.specs.declared.live_query.StreamWindow.{StreamWindow}
use Rattle.rsp_engine.specs.declared.readers.PlacedWindow.{PlacedWindow}
use Rattle.rsp_engine.specs.Readers.{list_of, placed, reads}
use Rattle.rsp_engine.proofs.Named.{turned}

-- lists of which something was taken out, one after another
module _ {X F : Type 0} (out : List X → List X) (none : out [] ≡ []) (T : F → List ℕ → Vec X → Bool → Vec X → F → Type 0) (f : F)
    (says : (k : List ℕ) (old : Vec X) (b : Bool) (new : Vec X) (g : F) → T f k old b new g
    → (b ≡ true) × ((new.items ≡ out old.items) × (g ≡ f))) where
  pub lists_without : (lists kept : List (List ℕ × Vec X)) → RetainsPairs T f lists kept
      → (s : List ℕ) → list_of kept s ≡ out (list_of lists s)
  lists_without [] kept h s = ap (λ l. list_of l s) h ∙ sym none
  lists_without (e ∷ lists) kept h s =
      let told = says e.0 e.1 h.0 h.1 h.2 h.4 in
      let split : kept ≡ (e.0, h.1) ∷ h.3 = h.6 ∙ ap (λ b. cond b ((e.0, h.1) ∷ h.3) h.3) told.0 in
      let rest = subst (λ (y : F). RetainsPairs T y lists h.3) told.1.1 h.5 in
      by (bytes_eq s e.0) h.1 (lookup (bytes_eq s) h.3) told.1.0 (ap (λ l. list_of l s) split) (lists_without lists h.3 rest s)
    where
      by : (b : Bool) (new : Vec X) (rest : Option (Vec X)) → new.items ≡ out e.1.items
          → list_of kept s ≡ option_map_or (λ (listed : Vec X). listed.items) (cond b (Some new) rest) []
          → option_map_or (λ (listed : Vec X). listed.items) rest [] ≡ out (list_of lists s)
          → list_of kept s ≡ out (option_map_or (λ (listed : Vec X). listed.items) (cond b (Some e.1) (lookup (bytes_eq s) lists)) [])
      by true new rest told is behind = is ∙ told
      by false new rest told is behind = is ∙ behind

-- without a list that is empty
pub forgotten : {X : Type 0} (lists now : List (List ℕ × Vec X)) (stream : List ℕ) → list_of lists stream ≡ []
    → ((s : List ℕ) → lookup (bytes_eq s) now ≡ cond (bytes_eq stream s) None (lookup (bytes_eq s) lists))
    → (s : List ℕ) → list_of now s ≡ list_of lists s
forgotten {X} lists now stream none updates s =
    ap (λ o. option_map_or (λ (listed : Vec X). listed.items) o []) (updates s) ∙ by (bytes_eq stream s) refl
  where
    by : (b : Bool) → bytes_eq stream s ≡ b
        → option_map_or (λ (listed : Vec X). listed.items) (cond b None (lookup (bytes_eq s) lists)) [] ≡ list_of lists s
    by true same = sym none ∙ ap (list_of lists) ((bytes_decides stream s).0 same)
    by false other = refl

-- ---- a query's windows, one after another

module _ (windows : List StreamWindow) (i : ℕ) (w : StreamWindow) (below : i < length windows) (is : w ≡ get_or windows i w)
    (place : ℕ) (old cur : List ℕ → List ℕ)
    (so_far : (s : List ℕ) → cur s ≡ cond (reads s (take i windows)) (old s ++ place ∷ []) (old s)) where
  reads_more : (s : List ℕ) → reads s (take (i + 1) windows) ≡ (reads s (take i windows) || (bytes_eq s w.stream || false))
  reads_more s =
      ap (reads s) (take_more windows i w below ∙ ap (λ v. take i windows ++ v ∷ []) (sym is))
      ∙ list_any-append (λ (v : StreamWindow). bytes_eq s v.stream) (take i windows) (w ∷ [])

  or_true : (b : Bool) → (b || (true || false)) ≡ true
  or_true true = refl
  or_true false = refl

  or_none : (b : Bool) → (b || (false || false)) ≡ b
  or_none true = refl
  or_none false = refl

  -- a window over a stream that none before it is over
  pub one_added : (new : List ℕ → List ℕ) → reads w.stream (take i windows) ≡ false
      → ((s : List ℕ) → new s ≡ cond (bytes_eq w.stream s) (cur w.stream ++ place ∷ []) (cur s))
      → (s : List ℕ) → new s ≡ cond (reads s (take (i + 1) windows)) (old s ++ place ∷ []) (old s)
  one_added new first put s = put s ∙ by (bytes_eq w.stream s) refl
    where
      by : (b : Bool) → bytes_eq w.stream s ≡ b
          → cond b (cur w.stream ++ place ∷ []) (cur s) ≡ cond (reads s (take (i + 1) windows)) (old s ++ place ∷ []) (old s)
      by true same =
          let read : reads s (take (i + 1) windows) ≡ true =
          reads_more s ∙ (ap (λ b. reads s (take i windows) || (b || false)) (turned s w.stream ∙ same) ∙ or_true (reads s (take i windows))) in
          ap (λ l. l ++ place ∷ []) (so_far w.stream ∙ (ap (λ b. cond b (old w.stream ++ place ∷ []) (old w.stream)) first ∙ ap old ((bytes_decides w.stream s).0 same)))
          ∙ ap (λ b. cond b (old s ++ place ∷ []) (old s)) (sym read)
      by false other =
          let read : reads s (take (i + 1) windows) ≡ reads s (take i windows) =
          reads_more s ∙ (ap (λ b. reads s (take i windows) || (b || false)) (turned s w.stream ∙ other) ∙ or_none (reads s (take i windows))) in
          so_far s ∙ ap (λ b. cond b (old s ++ place ∷ []) (old s)) (sym read)

  -- a further one over the same stream
  pub none_added : reads w.stream (take i windows) ≡ true
      → (s : List ℕ) → cur s ≡ cond (reads s (take (i + 1) windows)) (old s ++ place ∷ []) (old s)
  none_added there s = so_far s ∙ ap (λ b. cond b (old s ++ place ∷ []) (old s)) (sym (by (bytes_eq w.stream s) refl))
    where
      by : (b : Bool) → bytes_eq w.stream s ≡ b → reads s (take (i + 1) windows) ≡ reads s (take i windows)
      by true same =
          let here : reads s (take i windows) ≡ true = ap (λ v. reads v (take i windows)) (sym ((bytes_decides w.stream s).0 same)) ∙ there in
          reads_more s ∙ (ap (λ b. b || (bytes_eq s w.stream || false)) here ∙ sym here)
      by false other =
          reads_more s ∙ (ap (λ b. reads s (take i windows) || (b || false)) (turned s w.stream ∙ other) ∙ or_none (reads s (take i windows)))

-- ---- and each of them listed

module _ (windows : List StreamWindow) (i : ℕ) (w : StreamWindow) (below : i < length windows) (is : w ≡ get_or windows i w)
    (place first : ℕ) (old cur : List ℕ → List PlacedWindow)
    (so_far : (s : List ℕ) → cur s ≡ old s ++ placed s place first (take i windows)) where
  abbrev one : PlacedWindow
  one = record { place = place; first = first; shape = w.shape }

  one_placed : (s : List ℕ) → placed s place first (w ∷ []) ≡ cond (bytes_eq s w.stream) (one ∷ []) []
  one_placed s = by (bytes_eq s w.stream)
    where
      by : (b : Bool)
          → map {B = PlacedWindow} (λ (v : StreamWindow). record { place = place; first = first; shape = v.shape }) (cond b (w ∷ []) [])
          ≡ cond b (one ∷ []) []
      by true = refl
      by false = refl

  placed_more : (s : List ℕ) → placed s place first (take (i + 1) windows)
      ≡ placed s place first (take i windows) ++ cond (bytes_eq s w.stream) (one ∷ []) []
  placed_more s =
      ap (placed s place first) (take_more windows i w below ∙ ap (λ v. take i windows ++ v ∷ []) (sym is))
      ∙ (ap (map {B = PlacedWindow} (λ (v : StreamWindow). record { place = place; first = first; shape = v.shape }))
      (filter-append (λ (v : StreamWindow). bytes_eq s v.stream) (take i windows) (w ∷ []))
      ∙ (map-append (λ (v : StreamWindow). record { place = place; first = first; shape = v.shape })
      (filter (λ (v : StreamWindow). bytes_eq s v.stream) (take i windows)) (filter (λ (v : StreamWindow). bytes_eq s v.stream) (w ∷ []))
      ∙ ap (λ l. placed s place first (take i windows) ++ l) (one_placed s)))

  pub window_added : (new : List ℕ → List PlacedWindow)
      → ((s : List ℕ) → new s ≡ cond (bytes_eq w.stream s) (cur w.stream ++ one ∷ []) (cur s))
      → (s : List ℕ) → new s ≡ old s ++ placed s place first (take (i + 1) windows)
  window_added new put s = put s ∙ by (bytes_eq w.stream s) refl
    where
      by : (b : Bool) → bytes_eq w.stream s ≡ b
          → cond b (cur w.stream ++ one ∷ []) (cur s) ≡ old s ++ placed s place first (take (i + 1) windows)
      by true same =
          let listed : placed s place first (take (i + 1) windows) ≡ placed s place first (take i windows) ++ one ∷ [] =
          placed_more s
          ∙ ap (λ b. placed s place first (take i windows) ++ cond b (one ∷ []) []) (turned s w.stream ∙ same) in
          ap (λ l. l ++ one ∷ []) (ap cur ((bytes_decides w.stream s).0 same) ∙ so_far s)
          ∙ (append_assoc (old s) (placed s place first (take i windows)) (one ∷ []) ∙ ap (λ l. old s ++ l) (sym listed))
      by false other =
          let listed : placed s place first (take (i + 1) windows) ≡ placed s place first (take i windows) =
          placed_more s
          ∙ (ap (λ b. placed s place first (take i windows) ++ cond b (one ∷ []) []) (turned s w.stream ∙ other)
          ∙ append-nil (placed s place first (take i windows))) in
          so_far s ∙ ap (λ l. old s ++ l) (sym listed)
