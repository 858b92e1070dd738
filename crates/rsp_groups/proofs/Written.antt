-- Groups whose state is written at one key.
use Rattle.std.proofs.Common.{◌≡◌, ℕ, Bool, true, false, cond, ◌||◌, ◌&&◌, true≢false, List, [], ◌∷◌, length, refl, sym, ap, subst, ◌∙◌, Decides}
use Rattle.std.specs.Prelude.{Option, Some, None, IsSome, IfSome, is_some, nat_lt}
use Rattle.std.specs.Bool.{then_some}
use Rattle.std.specs.List.{list_any}
use Rattle.std.specs.Map.{lookup}
use Rattle.rsp_expr.specs.Groups.{group_of}
use Rattle.rsp_groups.specs.Answers.{is_group, is_empty_key, Shows}
use Rattle.rsp_groups.specs.Moves.{Moved}
use Rattle.rsp_groups.specs.Standing.{GroupsStand}
use Rattle.rsp_groups.proofs.Answering.{group-of_keyed, some-rows, unbound-shown}
use Rattle.rsp_groups.proofs.Keyed.{none-left, filter-unmoved, any-unmoved}
use Rattle.rsp_multiset.specs.Rows.{Cells, row_eq}
use Rattle.rsp_multiset.specs.RowSame.{row_decides}
use Rattle.rsp_multiset.specs.Shown.{shown_row, IsKnown, AreToldApart}
use Rattle.rsp_multiset.specs.Variables.{projection, row_by}
use Rattle.rsp_multiset.proofs.Shown.{rows-told_apart}
use Rattle.rsp_terms.specs.declared.term.Term.{Term}
use Rattle.rsp_terms.specs.Same.{term_eq, term_same}

abbrev same_row : Cells Term → Cells Term → Bool
same_row = row_eq term_eq

row_is : (a b : Cells Term) → same_row a b ≡ true → a ≡ b
row_is a b h = (row_decides term_same a b).0 h

-- ---- groups of rows

abbrev has_rows : ℕ → List ℕ → List (Cells Term) → Cells Term → Bool
has_rows width keys rows key = list_any (λ row. same_row key (projection width keys row)) rows

-- whether a key has a group depends on its rows alone
group-alike : (width : ℕ) (keys : List ℕ) (rows others : List (Cells Term)) (key : Cells Term)
    → has_rows width keys others key ≡ has_rows width keys rows key → is_group width keys others key ≡ is_group width keys rows key
group-alike width [] rows others key alike = refl
group-alike width (v ∷ vs) rows others key alike = group-of_keyed width v vs others key ∙ (alike ∙ sym (group-of_keyed width v vs rows key))

group-with_rows : (width : ℕ) (keys : List ℕ) (rows : List (Cells Term)) (key : Cells Term) → has_rows width keys rows key ≡ true
    → (keys ≡ [] → key ≡ row_by width (λ _. None)) → is_group width keys rows key ≡ true
group-with_rows width [] rows key there one = (row_decides term_same key (row_by width (λ _. None))).1 (one refl)
group-with_rows width (v ∷ vs) rows key there one = group-of_keyed width v vs rows key ∙ there

-- it has one where its rows are counted, or there are no keys
pub group-counted : (width : ℕ) (keys : List ℕ) (rows : List (Cells Term)) (row key : Cells Term) → projection width keys row ≡ key
    → is_group width keys rows key ≡ (is_empty_key keys || nat_lt 0 (length (group_of width keys rows key)))
group-counted width [] rows row key is = (row_decides term_same key (row_by width (λ _. None))).1 (sym is)
group-counted width (v ∷ vs) rows row key is = group-of_keyed width v vs rows key ∙ some-rows width (v ∷ vs) rows key

-- ---- a state that is written at one key

module _ {V G : Type 0} (test : V → V → Bool) where
  abbrev pub Written : Cells V → Option G → List (Cells V × G) → List (Cells V × G) → Type 0
  Written key w before after =
      (q : Cells V) → lookup (row_eq test q) after ≡ cond (row_eq test key q) w (lookup (row_eq test q) before)

  -- taken out, and put back or not
  pub written-back : (key : Cells V) (has : Bool) (g : G) (before without after : List (Cells V × G)) → Written key None before without
      → ((q : Cells V) → lookup (row_eq test q) after ≡ cond (has && row_eq test key q) (Some g) (lookup (row_eq test q) without))
      → Written key (then_some has g) before after
  written-back key has g before without after out back q =
      back q
      ∙ (ap (cond (has && row_eq test key q) (Some g)) (out q) ∙ by has (row_eq test key q) (lookup (row_eq test q) before))
    where
      by : (has here : Bool) (found : Option G) → cond (has && here) (Some g) (cond here None found) ≡ cond here (then_some has g) found
      by true true found = refl
      by true false found = refl
      by false true found = refl
      by false false found = refl

pub then-holds : {G : Type 0} (P : G → Type 0) (has : Bool) (g : G) → P g → IfSome (then_some has g) P
then-holds P true g holds = holds
then-holds P false g holds = tt

pub then-some : {G : Type 0} (has : Bool) (g : G) → is_some (then_some has g) ≡ has
then-some true g = refl
then-some false g = refl

module _ {V G : Type 0} {test : V → V → Bool} (same : (x y : V) → Decides (test x y) (x ≡ y)) (knows : V → Type 0) (shown : V → Term)
    (width : ℕ) (keys : List ℕ) (Holds : G → List (Cells Term) → Type 0) (given : G → Option (Cells V)) (row_of : List (Cells Term) → Cells Term → Cells Term) where
  abbrev Stand : List (Cells V × G) → List (Cells Term) → Type 0
  Stand groups rows = GroupsStand test knows shown width keys Holds given row_of groups rows

  -- the rows of what a key shows
  abbrev of_shown : List (Cells Term) → Cells V → List (Cells Term)
  of_shown rows q = group_of width keys rows (shown_row shown q)

  -- the row that the group keeps is that of the key's rows
  abbrev Gives : List (Cells Term) → Cells V → G → Type 0
  Gives rows q g = IfSome (given g) (λ row. Shows width knows shown row (row_of (of_shown rows q) (shown_row shown q)))

  abbrev unbound : Cells V
  unbound = row_by width (λ _. None)

  -- a key that has no group has no rows
  pub none-of : AreToldApart knows shown → (key : Cells V) (groups : List (Cells V × G)) (rows : List (Cells Term)) → IsKnown knows key
      → lookup (row_eq test key) groups ≡ None → Stand groups rows → of_shown rows key ≡ []
  none-of apart key groups rows known none stands = by (has_rows width keys rows (shown_row shown key)) refl
    where
      by : (b : Bool) → has_rows width keys rows (shown_row shown key) ≡ b → of_shown rows key ≡ []
      by false is = none-left (λ row. same_row (shown_row shown key) (projection width keys row)) rows is
      by true is =
          let found = stands.whole (shown_row shown key) is in
          let here : found.0 ≡ key = rows-told_apart {knows = knows} apart found.0 key (stands.known found.0 found.1.0) known found.1.1 in
          absurd (true≢false (sym (subst IsSome (ap (λ q. lookup (row_eq test q) groups) here ∙ none) found.1.0)))

  -- a group takes another's place, comes or goes, as its key has rows; other keys' rows stay
  pub stand-written : AreToldApart knows shown → (key : Cells V) (w : Option G) (groups groups' : List (Cells V × G)) (rows rows' : List (Cells Term))
      → Written test key w groups groups' → IsKnown knows key → IfSome w (λ g. Holds g (of_shown rows' key)) → IfSome w (Gives rows' key)
      → is_some w ≡ is_group width keys rows' (shown_row shown key) → (keys ≡ [] → shown_row shown key ≡ row_by width (λ _. None))
      → ((other : Cells Term) → same_row other (shown_row shown key) ≡ false
      → (group_of width keys rows other ≡ group_of width keys rows' other) × (has_rows width keys rows' other ≡ has_rows width keys rows other))
      → Stand groups rows → Stand groups' rows'
  stand-written apart key w groups groups' rows rows' written known here gives there one elsewhere stands = record {
    known = λ q some. known_at q (row_eq test key q) refl (subst IsSome (written q) some);
    held = λ q. subst (λ o. IfSome o (λ h. Holds h (of_shown rows' q))) (sym (written q)) (held_at q (row_eq test key q) refl (known_if q) (stands.held q));
    gave = λ q. subst (λ o. IfSome o (Gives rows' q)) (sym (written q)) (gave_at q (row_eq test key q) refl (known_if q) (stands.gave q));
    whole = λ other some. by other (same_row other (shown_row shown key)) refl some;
    keyless = λ none. subst IsSome (sym (written unbound)) (one_at none (row_eq test key unbound) (stands.keyless none));
    are = λ q some. is_at q (row_eq test key q) refl (subst IsSome (written q) some);
  }
    where
      known_at : (q : Cells V) (b : Bool) → row_eq test key q ≡ b → IsSome (cond b w (lookup (row_eq test q) groups)) → IsKnown knows q
      known_at q true is some = subst (IsKnown knows) ((row_decides same key q).0 is) known
      known_at q false is some = stands.known q some

      known_if : (q : Cells V) → IsSome (lookup (row_eq test q) groups) → IsKnown knows q
      known_if q some = stands.known q some

      apart_from : (q : Cells V) → row_eq test key q ≡ false → IsKnown knows q → same_row (shown_row shown q) (shown_row shown key) ≡ false
      apart_from q is of_q = other (same_row (shown_row shown q) (shown_row shown key)) refl
        where
          other : (b : Bool) → same_row (shown_row shown q) (shown_row shown key) ≡ b → b ≡ false
          other false alike = refl
          other true alike =
              absurd (true≢false (sym ((row_decides same key q).1 (sym (rows-told_apart {knows = knows} apart q key of_q known (row_is _ _ alike)))) ∙ is))

      held_at : (q : Cells V) (b : Bool) → row_eq test key q ≡ b → (IsSome (lookup (row_eq test q) groups) → IsKnown knows q)
          → IfSome (lookup (row_eq test q) groups) (λ h. Holds h (of_shown rows q))
          → IfSome (cond b w (lookup (row_eq test q) groups)) (λ h. Holds h (of_shown rows' q))
      held_at q true is of_q held = subst (λ k. IfSome w (λ h. Holds h (of_shown rows' k))) ((row_decides same key q).0 is) here
      held_at q false is of_q held = stays (lookup (row_eq test q) groups) of_q held
        where
          stays : (found : Option G) → (IsSome found → IsKnown knows q) → IfSome found (λ h. Holds h (of_shown rows q))
              → IfSome found (λ h. Holds h (of_shown rows' q))
          stays None of_q held = tt
          stays (Some h) of_q held = subst (Holds h) (elsewhere (shown_row shown q) (apart_from q is (of_q refl))).0 held

      gave_at : (q : Cells V) (b : Bool) → row_eq test key q ≡ b → (IsSome (lookup (row_eq test q) groups) → IsKnown knows q)
          → IfSome (lookup (row_eq test q) groups) (Gives rows q) → IfSome (cond b w (lookup (row_eq test q) groups)) (Gives rows' q)
      gave_at q true is of_q gave = subst (λ k. IfSome w (Gives rows' k)) ((row_decides same key q).0 is) gives
      gave_at q false is of_q gave = stays (lookup (row_eq test q) groups) of_q gave
        where
          stays : (found : Option G) → (IsSome found → IsKnown knows q) → IfSome found (Gives rows q) → IfSome found (Gives rows' q)
          stays None of_q gave = tt
          stays (Some h) of_q gave =
              subst (λ xs. IfSome (given h) (λ row. Shows width knows shown row (row_of xs (shown_row shown q))))
              (elsewhere (shown_row shown q) (apart_from q is (of_q refl))).0 gave

      one_at : keys ≡ [] → (b : Bool) → IsSome (lookup (row_eq test unbound) groups) → IsSome (cond b w (lookup (row_eq test unbound) groups))
      one_at none true some =
          there ∙ (ap (λ ks. is_group width ks rows' (shown_row shown key)) none ∙ (row_decides term_same (shown_row shown key) (row_by width (λ _. None))).1 (one none))
      one_at none false some = some

      is_at : (q : Cells V) (b : Bool) → row_eq test key q ≡ b → IsSome (cond b w (lookup (row_eq test q) groups))
          → is_group width keys rows' (shown_row shown q) ≡ true
      is_at q true is some = ap (λ k. is_group width keys rows' (shown_row shown k)) (sym ((row_decides same key q).0 is)) ∙ (sym there ∙ some)
      is_at q false is some =
          group-alike width keys rows rows' (shown_row shown q) (elsewhere (shown_row shown q) (apart_from q is (stands.known q some))).1
          ∙ stands.are q some

      by : (other : Cells Term) (b : Bool) → same_row other (shown_row shown key) ≡ b → has_rows width keys rows' other ≡ true
          → (q : Cells V) × (IsSome (lookup (row_eq test q) groups') × (shown_row shown q ≡ other))
      by other true is some =
          let shows = row_is other (shown_row shown key) is in
          let is_there = group-with_rows width keys rows' (shown_row shown key) (ap (has_rows width keys rows') (sym shows) ∙ some) one in
          (key, (subst IsSome (sym (written key)) (there_here (row_eq test key key) ((row_decides same key key).1 refl) (there ∙ is_there)), sym shows))
        where
          there_here : (b : Bool) → b ≡ true → IsSome w → IsSome (cond b w (lookup (row_eq test key) groups))
          there_here true is some = some
          there_here false is some = absurd (true≢false (sym is))
      by other false is some =
          let found = stands.whole other (sym (elsewhere other is).1 ∙ some) in
          (found.0, (subst IsSome (sym (written found.0)) (there_still found.0 (row_eq test key found.0) refl (ap (λ o. same_row o (shown_row shown key)) found.1.1 ∙ is) found.1.0), found.1.1))
        where
          there_still : (q : Cells V) (b : Bool) → row_eq test key q ≡ b → same_row (shown_row shown q) (shown_row shown key) ≡ false
              → IsSome (lookup (row_eq test q) groups) → IsSome (cond b w (lookup (row_eq test q) groups))
          there_still q false is unlike some = some
          there_still q true is unlike some =
              let alike : same_row (shown_row shown q) (shown_row shown key) ≡ true =
              (row_decides term_same (shown_row shown q) (shown_row shown key)).1 (ap (shown_row shown) (sym ((row_decides same key q).0 is))) in
              absurd (true≢false (sym alike ∙ unlike))

  -- a group that keeps no row keeps none that isn't its row
  none-gives : (rows : List (Cells Term)) (q : Cells V) (w : Option G) → IfSome w (λ g. given g ≡ None) → IfSome w (Gives rows q)
  none-gives rows q None none = tt
  none-gives rows q (Some g) none =
      subst (λ o. IfSome o (λ row. Shows width knows shown row (row_of (of_shown rows q) (shown_row shown q)))) (sym none) tt

  -- copies of a row with the key come into its group, or go
  pub stand-moved : AreToldApart knows shown → (key : Cells V) (w : Option G) (groups groups' : List (Cells V × G)) (out : Bool) (n : ℕ)
      (row : Cells Term) (before after : List (Cells Term)) → projection width keys row ≡ shown_row shown key → Moved out n row before after
      → Written test key w groups groups' → IsKnown knows key → IfSome w (λ g. Holds g (of_shown after key)) → IfSome w (λ g. given g ≡ None)
      → is_some w ≡ (is_empty_key keys || nat_lt 0 (length (of_shown after key)))
      → Stand groups before → Stand groups' after
  stand-moved apart key w groups groups' out n row before after is moved written known here none_given there stands =
      stand-written apart key w groups groups' before after written known here (none-gives after key w none_given)
      (there ∙ sym (group-counted width keys after row (shown_row shown key) is))
      (λ none. sym is ∙ ap (λ ks. projection width ks row) none)
      (λ other unlike.
      let none : same_row other (projection width keys row) ≡ false = ap (same_row other) is ∙ unlike in (
        filter-unmoved (λ r. same_row other (projection width keys r)) out n row before after none moved,
        any-unmoved (λ r. same_row other (projection width keys r)) out n row before after none moved,
      )) stands

  -- the state of no rows: no group, or without keys the one that is there
  pub stand-first : (keys ≡ [] → ⊥) → (groups : List (Cells V × G)) → groups ≡ [] → Stand groups []
  stand-first keyed groups none = subst (λ gs. Stand gs []) (sym none) (record {
    known = λ q some. absurd (true≢false (sym some));
    held = λ q. tt;
    gave = λ q. tt;
    whole = λ other there. absurd (true≢false (sym there));
    keyless = λ empty. absurd (keyed empty);
    are = λ q some. absurd (true≢false (sym some));
  })

  pub stand-keyless : is_empty_key keys ≡ true → IsKnown knows unbound → (g : G) (groups groups' : List (Cells V × G)) → groups ≡ []
      → Written test unbound (Some g) groups groups' → Holds g [] → given g ≡ None → Stand groups' []
  stand-keyless no_keys known_there g groups groups' none written fresh none_given = record {
    known = λ q some. known_at q (row_eq test unbound q) refl (subst IsSome (found q) some);
    held = λ q. subst (λ w. IfSome w (λ h. Holds h [])) (sym (found q)) (held_at (row_eq test unbound q));
    gave = λ q. subst (λ w. IfSome w (Gives [] q)) (sym (found q)) (gave_at q (row_eq test unbound q));
    whole = λ other there. absurd (true≢false (sym there));
    keyless = λ empty. subst IsSome (sym (found unbound)) (there_at (row_eq test unbound unbound) ((row_decides same unbound unbound).1 refl));
    are = λ q some. is_at q (row_eq test unbound q) refl (subst IsSome (found q) some);
  }
    where
      found : (q : Cells V) → lookup (row_eq test q) groups' ≡ cond (row_eq test unbound q) (Some g) None
      found q = written q ∙ ap (λ gs. cond (row_eq test unbound q) (Some g) (lookup (row_eq test q) gs)) none

      known_at : (q : Cells V) (b : Bool) → row_eq test unbound q ≡ b → IsSome (cond b (Some g) None) → IsKnown knows q
      known_at q true is some = subst (IsKnown knows) ((row_decides same unbound q).0 is) known_there
      known_at q false is some = absurd (true≢false (sym some))

      held_at : (b : Bool) → IfSome (cond b (Some g) None) (λ h. Holds h [])
      held_at true = fresh
      held_at false = tt

      gave_at : (q : Cells V) (b : Bool) → IfSome (cond b (Some g) None) (Gives [] q)
      gave_at q true = none-gives [] q (Some g) none_given
      gave_at q false = tt

      there_at : (b : Bool) → b ≡ true → IsSome (cond b (Some g) None)
      there_at true is = refl
      there_at false is = absurd (true≢false (sym is))

      the_one : (ks : List ℕ) → is_empty_key ks ≡ true → (key : Cells Term) → key ≡ row_by width (λ _. None) → is_group width ks [] key ≡ true
      the_one [] no_keys key is = (row_decides term_same key (row_by width (λ _. None))).1 is
      the_one (v ∷ vs) no_keys key is = absurd (true≢false (sym no_keys))

      is_at : (q : Cells V) (b : Bool) → row_eq test unbound q ≡ b → IsSome (cond b (Some g) None)
          → is_group width keys [] (shown_row shown q) ≡ true
      is_at q true is some =
          the_one keys no_keys (shown_row shown q) (ap (shown_row shown) (sym ((row_decides same unbound q).0 is)) ∙ unbound-shown shown width)
      is_at q false is some = absurd (true≢false (sym some))
