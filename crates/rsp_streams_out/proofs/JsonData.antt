-- A report's data has no float, and its text is what the writer joins: the head, the rows with commas between, and the end.
use Rattle.std.proofs.Common.{◌≡◌, ℕ, Bool, true, false, cond, ◌||◌, List, [], ◌∷◌, ◌++◌, None, Some, ◌⊎◌, inl, inr, map, take, length, ◌-◌, bytes_eq, codes, refl, sym, ap, ◌∙◌, append_assoc, arith}
use Rattle.std.proofs.lemmas.List.{length-append, take_at}
use Rattle.std.specs.Ordering.{nat_cmp, match_ordering}
use Rattle.std.specs.Cmp.Lexicographic.{slice_cmp}
use Rattle.std.specs.Fmt.{decimal}
use Rattle.std.specs.declared.cmp.Ordering.TheVariants.{Less, Equal, Greater}
use Rattle.serde_json.specs.Data.{Data, string, array, Members, member, no_members, put}
use Rattle.serde_json.specs.View.{items_of}
use Rattle.serde_json.specs.Written.{compact_text, items_text, has_float, items_have_float, members_have_float}
use Rattle.serde_json.proofs.OnLiterals.{serde_json_on_literals}
use Rattle.rsp_multiset.specs.Rows.{Cells}
use Rattle.rsp_terms.specs.declared.term.Term.{Term}
use Rattle.rsp_terms.specs.declared.term.Term.TheVariants.{Iri, Blank, Literal, Tagged}
use Rattle.rsp_terms.specs.Terms.{xsd_string}
use Rattle.rsp_streams_out.specs.Json.{typed, term_data, row_data, report_data, report_json}
use Rattle.rsp_streams_out.specs.JsonParts.{json_head, rows_items, with_cells}

-- where a variable or a cell is missing, no binding follows
pub no_more : (names : List (List ℕ)) (row : Cells Term) (before : Members) → (names ≡ []) ⊎ (row ≡ []) → with_cells names row before ≡ before
no_more names row before (inl none) = ap (λ ns. with_cells ns row before) none
no_more names row before (inr none) = ap (λ cells. with_cells names cells before) none ∙ without names before
  where
    without : (names : List (List ℕ)) (before : Members) → with_cells names [] before ≡ before
    without [] before = refl
    without (name ∷ names) before = refl

neither : (a b : Bool) → (a || b) ≡ false → (a ≡ false) × (b ≡ false)
neither true b h = cc
neither false b h = (refl, h)

put_no_float : (key : List ℕ) (new : Data) (members : Members) → has_float new ≡ false → members_have_float members ≡ false
    → members_have_float (put key new members) ≡ false
put_no_float key new no_members here none = λ i. here i || false
put_no_float key new (member other old members) here none =
    let parts = neither (has_float old) (members_have_float members) none in
    let behind = put_no_float key new members here parts.1 in
    elim (slice_cmp nat_cmp key other) as (λ order.
    members_have_float
    (match_ordering order (member key new (member other old members)) (member other new members) (member other old (put key new members)))
    ≡ false) [
      | Less ↦ λ i. here i || none i
      | Equal ↦ λ i. here i || parts.1 i
      | Greater ↦ λ i. parts.0 i || behind i
    ]

term_no_float : (term : Term) → has_float (term_data term) ≡ false
term_no_float (Iri text) = refl
term_no_float (Blank document label) = refl
term_no_float (Literal lexical datatype) =
    elim (bytes_eq datatype xsd_string) as (λ plain.
    members_have_float
    (cond plain (typed (codes "literal") lexical) (member (codes "datatype") (string datatype) (typed (codes "literal") lexical)))
    ≡ false) [
      | true ↦ refl
      | false ↦ refl
    ]
term_no_float (Tagged lexical language) = refl

cells_no_float : (names : List (List ℕ)) (row : Cells Term) (before : Members) → members_have_float before ≡ false
    → members_have_float (with_cells names row before) ≡ false
cells_no_float [] row before none = none
cells_no_float (name ∷ names) [] before none = none
cells_no_float (name ∷ names) (None ∷ row) before none = cells_no_float names row before none
cells_no_float (name ∷ names) (Some term ∷ row) before none =
    cells_no_float names row (put name (term_data term) before) (put_no_float name (term_data term) before (term_no_float term) none)

pub row_no_float : (names : List (List ℕ)) (row : Cells Term) → has_float (row_data names row) ≡ false
row_no_float names row = cells_no_float names row no_members refl

names_no_float : (names : List (List ℕ)) → items_have_float (items_of (map string names)) ≡ false
names_no_float [] = refl
names_no_float (name ∷ names) = names_no_float names

pub empty_no_float : (name : List ℕ) (at : ℕ) (variables : List (List ℕ)) → has_float (report_data name at variables []) ≡ false
empty_no_float name at variables = λ i. (names_no_float variables i || false) || false

joined : (a b c d e f g x : List ℕ)
    → a ++ (b ++ (c ++ ((d ++ 125 ∷ []) ++ (e ++ (f ++ (g ++ ((x ++ 125 ∷ []) ++ 125 ∷ [])))))))
    ≡ (a ++ (b ++ (c ++ (d ++ (125 ∷ (e ++ (f ++ g))))))) ++ (x ++ 125 ∷ 125 ∷ [])
joined a b c d e f g x = simp append_assoc

-- the text of the whole object
pub parts_written : (name : List ℕ) (at : ℕ) (variables : List (List ℕ)) (rows : List (Cells Term))
    → compact_text (report_data name at variables rows)
    ≡ json_head name at variables ++ (items_text false (rows_items variables rows) ++ 125 ∷ 125 ∷ [])
unfolding serde_json_on_literals
parts_written name at variables rows =
    joined (codes "{\"at\":") (decimal at) (codes ",\"head\":{\"vars\":") (compact_text (array (items_of (map string variables))))
    (codes ",\"query\":") (compact_text (string name)) (codes ",\"results\":{\"bindings\":[") (items_text false (rows_items variables rows))

-- without the three brackets behind the rows
pub head_kept : (text name : List ℕ) (at : ℕ) (variables : List (List ℕ)) → text ≡ compact_text (report_data name at variables [])
    → take (length text - 3) text ≡ json_head name at variables
head_kept text name at variables is =
    let whole : text ≡ json_head name at variables ++ 93 ∷ 125 ∷ 125 ∷ [] = is ∙ parts_written name at variables [] in
    let long : length text - 3 ≡ length (json_head name at variables) = omega (arith, ap length whole, length-append (json_head name at variables) (93 ∷ 125 ∷ 125 ∷ [])) in
    ap (take (length text - 3)) whole ∙ take_at (json_head name at variables) (93 ∷ 125 ∷ 125 ∷ []) _ (sym long)

ended : (o h x : List ℕ) → ((o ++ h) ++ x) ++ 125 ∷ 125 ∷ 10 ∷ [] ≡ o ++ ((h ++ (x ++ 125 ∷ 125 ∷ [])) ++ 10 ∷ [])
ended o h x = simp append_assoc

pub whole_written : (out name : List ℕ) (at : ℕ) (variables : List (List ℕ)) (rows : List (Cells Term))
    → ((out ++ json_head name at variables) ++ items_text false (rows_items variables rows)) ++ codes "}}\n" ≡ out ++ report_json name at variables rows
whole_written out name at variables rows =
    ended out (json_head name at variables) (items_text false (rows_items variables rows))
    ∙ ap (λ text. out ++ (text ++ codes "\n")) (sym (parts_written name at variables rows))
