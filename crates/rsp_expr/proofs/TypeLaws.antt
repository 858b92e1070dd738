-- What the code knows of a datatype is what the definitions say of its IRI.
use Rattle.std.specs.Prelude.{◌≡◌, ℕ, ℤ, Bool, true, false, ◌||◌, if◌then◌else◌, Option, None, Some, option_map, unwrap_or, List, [], ◌∷◌, map, codes, refl}
use Rattle.std.specs.Bool.{then_some}
use Rattle.std.specs.Cmp.Lexicographic.{bytes_decides}
use Rattle.std.specs.Map.{lookup}
use Rattle.std.specs.Str.{bytes_eq}
use Rattle.std.proofs.Common.{ap, sym, ◌∙◌, subst, true≢false}
use Rattle.rsp_number.specs.Texts.{read_decimal}
use Rattle.rsp_number.specs.declared.number.Number.TheVariants as number
use Rattle.rsp_expr.specs.BooleanValues.{boolean_reading, is_filled, numeric_value, xsd_boolean}
use Rattle.rsp_expr.specs.CodeTypes.{known_whole_types, type_in, datatype_among, datatype_of, bounds_of, typed_reading, typed_boolean, typed_value, typed_string, is_floating}
use Rattle.rsp_expr.specs.Datatypes.{range_of}
use Rattle.rsp_expr.specs.Forms.{numeric_reading, reading_map, whole_reading}
use Rattle.rsp_expr.specs.declared.datatypes.WholeType.{WholeType}
use Rattle.rsp_expr.specs.declared.datatypes.Datatype.{Datatype}
use Rattle.rsp_expr.specs.declared.datatypes.Datatype.TheVariants as datatype

-- ---- the tables

bounds_beside : (entries : List (List ℕ × WholeType)) (iri : List ℕ)
    → lookup (bytes_eq iri) (map {B = List ℕ × (Option ℤ × Option ℤ)} (λ entry. (entry.0, bounds_of entry.1)) entries)
    ≡ option_map bounds_of (type_in entries iri)
bounds_beside [] iri = refl
bounds_beside (entry ∷ entries) iri = by (bytes_eq iri entry.0) refl (bounds_beside entries iri)
  where
    by : (b : Bool) → bytes_eq iri entry.0 ≡ b
        → lookup (bytes_eq iri) (map {B = List ℕ × (Option ℤ × Option ℤ)} (λ e. (e.0, bounds_of e.1)) entries)
        ≡ option_map bounds_of (type_in entries iri)
        → lookup (bytes_eq iri) (map {B = List ℕ × (Option ℤ × Option ℤ)} (λ e. (e.0, bounds_of e.1)) (entry ∷ entries))
        ≡ option_map bounds_of (type_in (entry ∷ entries) iri)
    by true is others = rw is refl
    by false is others = rw is others

pub range_is : (iri : List ℕ) → range_of iri ≡ option_map bounds_of (type_in known_whole_types iri)
range_is iri = bounds_beside known_whole_types iri

-- the other types, by the tests of their IRIs
abbrev other_by : (s d b f l r : Bool) → Option Datatype
other_by s d b f l r =
    if s then Some datatype.String
    else if d then Some datatype.Decimal
    else if b then Some datatype.Boolean
    else if f then Some datatype.Double
    else if l then Some datatype.Float
    else if r then Some datatype.LangString
    else None

-- what holds of the datatype where it holds by the tests
by_tests : (P : Datatype → Type 0) (iri : List ℕ)
    → ((w : Option WholeType) (r : Bool) → type_in known_whole_types iri ≡ w
    → P (datatype_among w (other_by (bytes_eq iri (codes "http://www.w3.org/2001/XMLSchema#string")) (bytes_eq iri (codes "http://www.w3.org/2001/XMLSchema#decimal"))
    (bytes_eq iri (codes "http://www.w3.org/2001/XMLSchema#boolean")) (bytes_eq iri (codes "http://www.w3.org/2001/XMLSchema#double")) (bytes_eq iri (codes "http://www.w3.org/2001/XMLSchema#float")) r)))
    → P (datatype_of iri)
by_tests P iri holds =
    holds (type_in known_whole_types iri) (bytes_eq iri (codes "http://www.w3.org/1999/02/22-rdf-syntax-ns#langString")) refl

same : (left right : List ℕ) → bytes_eq left right ≡ true → right ≡ left
same left right equal = sym ((bytes_decides left right).0 equal)

-- ---- what has a number

no_number : (text : List ℕ) (s d b f l r : Bool) → d ≡ false → typed_reading (datatype_among None (other_by s d b f l r)) text ≡ None
no_number text true d b f l r isnt = refl
no_number text false true b f l r isnt = absurd (true≢false isnt)
no_number text false false true f l r isnt = refl
no_number text false false false true l r isnt = refl
no_number text false false false false true r isnt = refl
no_number text false false false false false true isnt = refl
no_number text false false false false false false isnt = refl

pub reading_is : (iri text : List ℕ) → numeric_reading iri text ≡ typed_reading (datatype_of iri) text
reading_is iri text = by (bytes_eq iri (codes "http://www.w3.org/2001/XMLSchema#decimal")) refl
  where
    whole : (w : Option WholeType) (r : Bool) → bytes_eq iri (codes "http://www.w3.org/2001/XMLSchema#decimal") ≡ false → type_in known_whole_types iri ≡ w
        → option_map (λ range. reading_map number.Integer (whole_reading range text)) (option_map bounds_of w)
        ≡ typed_reading (datatype_among w (other_by (bytes_eq iri (codes "http://www.w3.org/2001/XMLSchema#string")) (bytes_eq iri (codes "http://www.w3.org/2001/XMLSchema#decimal"))
        (bytes_eq iri (codes "http://www.w3.org/2001/XMLSchema#boolean")) (bytes_eq iri (codes "http://www.w3.org/2001/XMLSchema#double")) (bytes_eq iri (codes "http://www.w3.org/2001/XMLSchema#float")) r)) text
    whole (Some w) r isnt is = refl
    whole None r isnt is = sym (no_number text _ _ _ _ _ r isnt)

    by : (b : Bool) → bytes_eq iri (codes "http://www.w3.org/2001/XMLSchema#decimal") ≡ b
        → numeric_reading iri text ≡ typed_reading (datatype_of iri) text
    by true is = subst (λ i. numeric_reading i text ≡ typed_reading (datatype_of i) text) (same iri (codes "http://www.w3.org/2001/XMLSchema#decimal") is) refl
    by false is =
        ap (λ b. if b
        then Some (reading_map number.Decimal (read_decimal text))
        else option_map (λ range. reading_map number.Integer (whole_reading range text)) (range_of iri)) is
        ∙ (ap (option_map (λ range. reading_map number.Integer (whole_reading range text))) (range_is iri)
        ∙ by_tests (λ type. option_map (λ range. reading_map number.Integer (whole_reading range text))
        (option_map bounds_of (type_in known_whole_types iri)) ≡ typed_reading type text) iri
        (λ w r found. ap (λ v. option_map (λ range. reading_map number.Integer (whole_reading range text)) (option_map bounds_of v)) found
        ∙ whole w r is found))

-- ---- strings

no_string : (text : List ℕ) (w : Option WholeType) (s d b f l r : Bool) → s ≡ false
    → typed_string (datatype_among w (other_by s d b f l r)) text ≡ None
no_string text (Some w) s d b f l r isnt = refl
no_string text None true d b f l r isnt = absurd (true≢false isnt)
no_string text None false true b f l r isnt = refl
no_string text None false false true f l r isnt = refl
no_string text None false false false true l r isnt = refl
no_string text None false false false false true r isnt = refl
no_string text None false false false false false true isnt = refl
no_string text None false false false false false false isnt = refl

pub string_is : (iri text : List ℕ) → typed_string (datatype_of iri) text ≡ then_some (bytes_eq iri (codes "http://www.w3.org/2001/XMLSchema#string")) text
string_is iri text = by (bytes_eq iri (codes "http://www.w3.org/2001/XMLSchema#string")) refl
  where
    by : (b : Bool) → bytes_eq iri (codes "http://www.w3.org/2001/XMLSchema#string") ≡ b
        → typed_string (datatype_of iri) text ≡ then_some (bytes_eq iri (codes "http://www.w3.org/2001/XMLSchema#string")) text
    by true is =
        subst (λ i. typed_string (datatype_of i) text ≡ then_some (bytes_eq i (codes "http://www.w3.org/2001/XMLSchema#string")) text)
        (same iri (codes "http://www.w3.org/2001/XMLSchema#string") is) refl
    by false is =
        by_tests (λ type. typed_string type text ≡ None) iri (λ w r found. no_string text w _ _ _ _ _ r is)
        ∙ sym (ap (λ b. then_some b text) is)

-- ---- doubles and floats

not_floating : (w : Option WholeType) (s d b f l r : Bool) → f ≡ false → l ≡ false
    → is_floating (datatype_among w (other_by s d b f l r)) ≡ false
not_floating (Some w) s d b f l r isnt nor = refl
not_floating None true d b f l r isnt nor = refl
not_floating None false true b f l r isnt nor = refl
not_floating None false false true f l r isnt nor = refl
not_floating None false false false true l r isnt nor = absurd (true≢false isnt)
not_floating None false false false false true r isnt nor = absurd (true≢false nor)
not_floating None false false false false false true isnt nor = refl
not_floating None false false false false false false isnt nor = refl

pub floating_is : (iri : List ℕ)
    → is_floating (datatype_of iri) ≡ (bytes_eq iri (codes "http://www.w3.org/2001/XMLSchema#double") || bytes_eq iri (codes "http://www.w3.org/2001/XMLSchema#float"))
floating_is iri = by (bytes_eq iri (codes "http://www.w3.org/2001/XMLSchema#double")) (bytes_eq iri (codes "http://www.w3.org/2001/XMLSchema#float")) refl refl
  where
    P : List ℕ → Type 0
    P i = is_floating (datatype_of i) ≡ (bytes_eq i (codes "http://www.w3.org/2001/XMLSchema#double") || bytes_eq i (codes "http://www.w3.org/2001/XMLSchema#float"))

    by : (b c : Bool) → bytes_eq iri (codes "http://www.w3.org/2001/XMLSchema#double") ≡ b → bytes_eq iri (codes "http://www.w3.org/2001/XMLSchema#float") ≡ c
        → is_floating (datatype_of iri) ≡ (bytes_eq iri (codes "http://www.w3.org/2001/XMLSchema#double") || bytes_eq iri (codes "http://www.w3.org/2001/XMLSchema#float"))
    by true c is nor = subst P (same iri (codes "http://www.w3.org/2001/XMLSchema#double") is) refl
    by false true is nor = subst P (same iri (codes "http://www.w3.org/2001/XMLSchema#float") nor) refl
    by false false is nor =
        by_tests (λ type. is_floating type ≡ false) iri (λ w r found. not_floating w _ _ _ _ _ r is nor)
        ∙ sym (λ i. is i || nor i)

-- ---- booleans

no_boolean : (text : List ℕ) (w : Option WholeType) (s d b f l r : Bool) → b ≡ false
    → typed_boolean (datatype_among w (other_by s d b f l r)) text ≡ None
no_boolean text (Some w) s d b f l r isnt = refl
no_boolean text None true d b f l r isnt = refl
no_boolean text None false true b f l r isnt = refl
no_boolean text None false false true f l r isnt = absurd (true≢false isnt)
no_boolean text None false false false true l r isnt = refl
no_boolean text None false false false false true r isnt = refl
no_boolean text None false false false false false true isnt = refl
no_boolean text None false false false false false false isnt = refl

pub boolean_is : (iri text : List ℕ)
    → typed_boolean (datatype_of iri) text ≡ (if bytes_eq iri xsd_boolean then boolean_reading text else None)
boolean_is iri text = by (bytes_eq iri xsd_boolean) refl
  where
    P : List ℕ → Type 0
    P i = typed_boolean (datatype_of i) text ≡ (if bytes_eq i xsd_boolean then boolean_reading text else None)

    by : (b : Bool) → bytes_eq iri xsd_boolean ≡ b → P iri
    by true is = subst P (same iri xsd_boolean is) refl
    by false is =
        by_tests (λ type. typed_boolean type text ≡ None) iri (λ w r found. no_boolean text w _ _ _ _ _ r is)
        ∙ sym (ap (λ b. if b then boolean_reading text else None) is)

by_number : (text : List ℕ) (w : Option WholeType) (s d b f l r : Bool) → b ≡ false → s ≡ false
    → typed_value (datatype_among w (other_by s d b f l r)) text
    ≡ numeric_value (typed_reading (datatype_among w (other_by s d b f l r)) text)
by_number text (Some w) s d b f l r isnt nor = refl
by_number text None true d b f l r isnt nor = absurd (true≢false nor)
by_number text None false true b f l r isnt nor = refl
by_number text None false false true f l r isnt nor = absurd (true≢false isnt)
by_number text None false false false true l r isnt nor = refl
by_number text None false false false false true r isnt nor = refl
by_number text None false false false false false true isnt nor = refl
by_number text None false false false false false false isnt nor = refl

pub value_is : (iri text : List ℕ)
    → typed_value (datatype_of iri) text
    ≡ (if bytes_eq iri xsd_boolean then Some (unwrap_or (boolean_reading text) false)
    else if bytes_eq iri (codes "http://www.w3.org/2001/XMLSchema#string") then Some (is_filled text)
    else numeric_value (numeric_reading iri text))
value_is iri text = by (bytes_eq iri xsd_boolean) (bytes_eq iri (codes "http://www.w3.org/2001/XMLSchema#string")) refl refl
  where
    P : List ℕ → Type 0
    P i = typed_value (datatype_of i) text
        ≡ (if bytes_eq i xsd_boolean then Some (unwrap_or (boolean_reading text) false)
        else if bytes_eq i (codes "http://www.w3.org/2001/XMLSchema#string") then Some (is_filled text)
        else numeric_value (numeric_reading i text))

    by : (b s : Bool) → bytes_eq iri xsd_boolean ≡ b → bytes_eq iri (codes "http://www.w3.org/2001/XMLSchema#string") ≡ s → P iri
    by true s is nor = subst P (same iri xsd_boolean is) refl
    by false true is nor = subst P (same iri (codes "http://www.w3.org/2001/XMLSchema#string") nor) refl
    by false false is nor =
        by_tests (λ type. typed_value type text ≡ numeric_value (typed_reading type text)) iri
        (λ w r found. by_number text w _ _ _ _ _ r is nor)
        ∙ ap numeric_value (sym (reading_is iri text))
        ∙ sym (λ i. if is i then Some (unwrap_or (boolean_reading text) false)
        else if nor i then Some (is_filled text)
        else numeric_value (numeric_reading iri text))
