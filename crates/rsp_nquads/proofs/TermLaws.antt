-- Literals and terms: readers and rules.
use Rattle.std.proofs.Common.{◌≡◌, ℕ, suc, ◌+◌, ◌≤◌, Bool, true, false, true≢false, List, [], ◌∷◌, ◌++◌, length, take, refl, sym, ap, subst, ◌∙◌, arith, append_assoc, length-append, Option, Some, None}
use Rattle.std.specs.Prelude.{◌&&◌}
use mathlib.Core.Logic.{inl, inr}
use Rattle.std.specs.List.{list_all, prefix_len}
use Rattle.std.specs.Option.{option_and_then, option_or}
use Rattle.std.proofs.lemmas.List.{take-append-drop}
use Rattle.rsp_terms.specs.declared.term.Term.{Term}
use Rattle.rsp_terms.specs.declared.term.Term.TheVariants.{Iri, Blank, Literal, Tagged}
use Rattle.rsp_terms.specs.Terms.{xsd_string}
use Rattle.rsp_scan.specs.Enclosed.{sign, Rule, IsIri, IsString}
use Rattle.rsp_scan.specs.Readers.{PartReader, told, enclosed, iri, string, label, tag}
use Rattle.rsp_nquads.specs.Parts.{datatype, literal_of, literal, iri_term, blank, node, object}
use Rattle.rsp_text.specs.Fronts.{is_blank, behind_blanks}
use Rattle.rsp_scan.specs.Names.{IsLabel, IsTag}
use Rattle.rsp_nquads.specs.Grammar.{Stands, IsDatatype, IsQualified, IsLiteral, IsIriTerm, IsNode, IsObject}
use Rattle.rsp_scan.proofs.Pieces.{both_of, all_run}
use Rattle.rsp_scan.proofs.RuleLaws.{sign_found, sign_finds}
use Rattle.rsp_scan.specs.Following.{Reads, FollowRules}

-- ---- blanks

abbrev pub blank_first : List ℕ → Bool
blank_first [] = false
blank_first (c ∷ cs) = is_blank c

pub behind_none : (xs : List ℕ) → blank_first xs ≡ false → behind_blanks xs ≡ xs
behind_none [] h = refl
behind_none (c ∷ cs) h = rw h refl

pub behind_onto : (bs xs : List ℕ) → list_all is_blank bs ≡ true → blank_first xs ≡ false → behind_blanks (bs ++ xs) ≡ xs
behind_onto [] xs h first = behind_none xs first
behind_onto (b ∷ bs) xs h first = by (is_blank b) refl h (λ more. behind_onto bs xs more first)
  where
    by : (x : Bool) → is_blank b ≡ x → (x && list_all is_blank bs) ≡ true → (list_all is_blank bs ≡ true → behind_blanks (bs ++ xs) ≡ xs)
        → behind_blanks ((b ∷ bs) ++ xs) ≡ xs
    by true is all more =
        let one : 1 + prefix_len is_blank (bs ++ xs) ≡ suc (prefix_len is_blank (bs ++ xs)) = omega arith in
        rw (is, one) (more all)
    by false is all more = absurd (true≢false (sym all))

pub blanks_split : (text : List ℕ) → text ≡ take (prefix_len is_blank text) text ++ behind_blanks text
blanks_split text = sym (take-append-drop (prefix_len is_blank text) text)

abbrev pub StartsWell : {A : Type 0} → Rule A → Type 0
StartsWell {A} rule = (part rest : List ℕ) (v : A) → rule part rest v → blank_first (part ++ rest) ≡ false

module _ {A : Type 0} (reader : PartReader A) (rule : Rule A) (h : Reads reader rule) where
  pub stands_sound : (text rest : List ℕ) (v : A) → reader (behind_blanks text) ≡ Some (v, rest) → Stands rule text rest v
  stands_sound text rest v is =
      let p = h.sound (behind_blanks text) rest v is in
      record {
        blanks = take (prefix_len is_blank text) text;
        part = p.0;
        are_blanks = all_run is_blank text;
        text_is = blanks_split text ∙ ap (λ ys. take (prefix_len is_blank text) text ++ ys) p.1.0;
        is = p.1.1;
      }

  pub stands_behind : StartsWell rule → (text rest : List ℕ) (v : A) → (s : Stands rule text rest v) → behind_blanks text ≡ s.part ++ rest
  stands_behind starts text rest v s =
      ap behind_blanks s.text_is ∙ behind_onto s.blanks (s.part ++ rest) s.are_blanks (starts s.part rest v s.is)

  pub stands_full : StartsWell rule → (text rest : List ℕ) (v : A) → Stands rule text rest v → reader (behind_blanks text) ≡ Some (v, rest)
  stands_full starts text rest v s = ap reader (stands_behind starts text rest v s) ∙ h.full s.part rest v s.is

-- ---- first bytes

pub iri_starts : StartsWell IsIri
iri_starts part rest v e = rw e.part_is refl

pub string_starts : StartsWell IsString
string_starts part rest v e = rw e.part_is refl

label_starts : StartsWell (IsLabel)
label_starts part rest v e = rw e.part_is refl

tag_starts : StartsWell IsTag
tag_starts part rest v e = rw e.part_is refl

-- ---- datatypes

datatype_starts : StartsWell IsDatatype
datatype_starts part rest v e = rw e.part_is refl

datatype_sound : (scanned : FollowRules) → (text rest v : List ℕ) → datatype text ≡ both_of v rest → (part : List ℕ) × ((text ≡ part ++ rest) × IsDatatype part rest v)
unfolding datatype
datatype_sound scanned text rest v is = by_first (sign 94 text) refl is
  where
    Goal : Type 0
    Goal = (part : List ℕ) × ((text ≡ part ++ rest) × IsDatatype part rest v)

    by_second : (more : List ℕ) → sign 94 text ≡ Some more → (o : Option (List ℕ)) → sign 94 more ≡ o
        → option_and_then (λ inner. iri (behind_blanks inner)) o ≡ both_of v rest → Goal
    by_second more first None second is = absurd (cc)
    by_second more first (Some inner) second is =
        let s = stands_sound iri IsIri scanned.iris inner rest v is in
        let start = sign_found 94 text more first ∙ ap (λ ys. 94 ∷ ys) (sign_found 94 more inner second) in
        let split : inner ≡ (s.blanks ++ s.part) ++ rest = s.text_is ∙ sym (append_assoc s.blanks s.part rest) in (
          94 ∷ 94 ∷ (s.blanks ++ s.part),
          (
            start ∙ ap (λ ys. 94 ∷ 94 ∷ ys) split,
            record {
              behind = s.blanks ++ s.part;
              part_is = refl;
              name_is = record {
                blanks = s.blanks;
                part = s.part;
                are_blanks = s.are_blanks;
                text_is = append_assoc s.blanks s.part rest;
                is = s.is;
              };
            },
          ),
        )

    by_first : (o : Option (List ℕ)) → sign 94 text ≡ o
        → option_and_then (λ inner. iri (behind_blanks inner)) (option_and_then (sign 94) o) ≡ both_of v rest → Goal
    by_first None first is = absurd (cc)
    by_first (Some more) first is = by_second more first (sign 94 more) refl is

datatype_full : (scanned : FollowRules) → (part rest v : List ℕ) → IsDatatype part rest v → datatype (part ++ rest) ≡ both_of v rest
unfolding datatype
datatype_full scanned part rest v e =
    let start : part ++ rest ≡ 94 ∷ 94 ∷ (e.behind ++ rest) = ap (λ ys. ys ++ rest) e.part_is in
    rw (start, sign_finds 94 (94 ∷ (e.behind ++ rest)), sign_finds 94 (e.behind ++ rest))
    (stands_full iri IsIri scanned.iris iri_starts (e.behind ++ rest) rest v e.name_is)

datatype_reads : (scanned : FollowRules) → Reads datatype IsDatatype
datatype_reads scanned = record { sound = datatype_sound scanned; full = datatype_full scanned }

-- ---- literals

abbrev term_of : Term → List ℕ → Option (Term × List ℕ)
term_of term rest = Some (term, rest)

term_same : (a b : Term) (xs ys : List ℕ) → term_of a xs ≡ term_of b ys → (a ≡ b) × (xs ≡ ys)
term_same a b xs ys is =
    let same : ◌≡◌ {A = Term × List ℕ} (a, xs) (b, ys) = cc in
    (ap (λ (y : Term × List ℕ). y.0) same, ap (λ (y : Term × List ℕ). y.1) same)

-- a text goes on to a part behind blanks
qualified : (qualifier : Rule (List ℕ)) (s rest lexical name text : List ℕ) → IsString s text lexical → (q : Stands qualifier text rest name)
    → IsQualified qualifier (s ++ (q.blanks ++ q.part)) rest lexical name
qualified qualifier s rest lexical name text string_is q = record {
  string = s;
  behind = q.blanks ++ q.part;
  part_is = refl;
  is_string = record { pieces = string_is.pieces; each = string_is.each; part_is = string_is.part_is; value_is = string_is.value_is };
  name_is = record {
    blanks = q.blanks;
    part = q.part;
    are_blanks = q.are_blanks;
    text_is = append_assoc q.blanks q.part rest;
    is = q.is;
  };
}

split_again : (s blanks part rest text all : List ℕ) → all ≡ s ++ text → text ≡ blanks ++ (part ++ rest) → all ≡ (s ++ (blanks ++ part)) ++ rest
split_again s blanks part rest text all first second =
    first ∙ (ap (λ ys. s ++ ys) (second ∙ sym (append_assoc blanks part rest)) ∙ sym (append_assoc s (blanks ++ part) rest))

literal_from : (scanned : FollowRules) → (all s text rest lexical : List ℕ) (term : Term) → all ≡ s ++ text → IsString s text lexical → literal_of lexical text ≡ term_of term rest
    → (part : List ℕ) × ((all ≡ part ++ rest) × IsLiteral part rest term)
unfolding literal_of
literal_from scanned all s text rest lexical term split string_is is =
    by (datatype (behind_blanks text)) refl (tag (behind_blanks text)) refl is
  where
    by : (d : Option (List ℕ × List ℕ)) → datatype (behind_blanks text) ≡ d → (t : Option (List ℕ × List ℕ)) → tag (behind_blanks text) ≡ t
        → option_or (told (λ name. Literal lexical name) d)
        (option_or (told (λ language. Tagged lexical language) t) (term_of (Literal lexical xsd_string) text)) ≡ term_of term rest
        → (part : List ℕ) × ((all ≡ part ++ rest) × IsLiteral part rest term)
    by (Some x) d_is t t_is is =
        let same = term_same (Literal lexical x.0) term x.1 rest is in
        let q = stands_sound datatype IsDatatype (datatype_reads scanned) text rest x.0 (d_is ∙ ap (λ r. both_of x.0 r) same.1) in (
          s ++ (q.blanks ++ q.part),
          (
            split_again s q.blanks q.part rest text all split q.text_is,
            subst (λ y. IsLiteral (s ++ (q.blanks ++ q.part)) rest y) same.0 (inl (qualified IsDatatype s rest lexical x.0 text string_is q)),
          ),
        )
    by None d_is (Some x) t_is is =
        let same = term_same (Tagged lexical x.0) term x.1 rest is in
        let q = stands_sound tag IsTag scanned.tags text rest x.0 (t_is ∙ ap (λ r. both_of x.0 r) same.1) in (
          s ++ (q.blanks ++ q.part),
          (
            split_again s q.blanks q.part rest text all split q.text_is,
            subst (λ y. IsLiteral (s ++ (q.blanks ++ q.part)) rest y) same.0 (qualified IsTag s rest lexical x.0 text string_is q),
          ),
        )
    by None d_is None t_is is =
        let same = term_same (Literal lexical xsd_string) term text rest is in (
          s,
          (
            split ∙ ap (λ ys. s ++ ys) same.1,
            subst (λ y. IsLiteral s rest y) same.0 (inr (refl, subst (λ r. IsString s r lexical) same.1 string_is)),
          ),
        )

pub literal_sound : (scanned : FollowRules) → (text rest : List ℕ) (term : Term) → literal text ≡ term_of term rest
    → (part : List ℕ) × ((text ≡ part ++ rest) × IsLiteral part rest term)
unfolding literal
literal_sound scanned text rest term is = by (string text) refl is
  where
    by : (o : Option (List ℕ × List ℕ)) → string text ≡ o → option_and_then (λ x. literal_of x.0 x.1) o ≡ term_of term rest
        → (part : List ℕ) × ((text ≡ part ++ rest) × IsLiteral part rest term)
    by None read is = absurd (cc)
    by (Some x) read is =
        let s = scanned.strings.sound text x.1 x.0 read in
        literal_from scanned text s.0 x.1 rest x.0 term s.1.0 s.1.1 is

-- no datatype and no tag stands behind the blanks
pub record IsFree (rest : List ℕ) : Type 0 where
  pub no_datatype : datatype (behind_blanks rest) ≡ None
  pub no_tag : tag (behind_blanks rest) ≡ None

no_datatype_at_tag : (part rest language : List ℕ) → IsTag part rest language → datatype (part ++ rest) ≡ None
unfolding datatype sign
no_datatype_at_tag part rest language e = rw e.part_is refl

literal_typed : (scanned : FollowRules) → (part rest lexical name : List ℕ) → IsQualified IsDatatype part rest lexical name
    → literal (part ++ rest) ≡ term_of (Literal lexical name) rest
unfolding literal literal_of
literal_typed scanned part rest lexical name q =
    let split : part ++ rest ≡ q.string ++ (q.behind ++ rest) = ap (λ ys. ys ++ rest) q.part_is ∙ append_assoc q.string q.behind rest in
    rw (
      split,
      scanned.strings.full q.string (q.behind ++ rest) lexical q.is_string,
      stands_full datatype IsDatatype (datatype_reads scanned) datatype_starts (q.behind ++ rest) rest name q.name_is,
    )
    refl

literal_tagged : (scanned : FollowRules) → (part rest lexical language : List ℕ) → IsQualified IsTag part rest lexical language
    → literal (part ++ rest) ≡ term_of (Tagged lexical language) rest
unfolding literal literal_of
literal_tagged scanned part rest lexical language q =
    let split : part ++ rest ≡ q.string ++ (q.behind ++ rest) = ap (λ ys. ys ++ rest) q.part_is ∙ append_assoc q.string q.behind rest in
    let behind = stands_behind tag IsTag scanned.tags tag_starts (q.behind ++ rest) rest language q.name_is in
    let none : datatype (behind_blanks (q.behind ++ rest)) ≡ None
    = ap datatype behind ∙ no_datatype_at_tag q.name_is.part rest language q.name_is.is in
    rw (
      split,
      scanned.strings.full q.string (q.behind ++ rest) lexical q.is_string,
      none,
      stands_full tag IsTag scanned.tags tag_starts (q.behind ++ rest) rest language q.name_is,
    )
    refl

pub literal_full : (scanned : FollowRules) → (part rest : List ℕ) (term : Term) → IsFree rest → IsLiteral part rest term → literal (part ++ rest) ≡ term_of term rest
unfolding literal literal_of
literal_full scanned part rest (Iri name) free e = absurd e
literal_full scanned part rest (Blank number name) free e = absurd e
literal_full scanned part rest (Literal lexical name) free (inl q) = literal_typed scanned part rest lexical name q
literal_full scanned part rest (Literal lexical name) free (inr e) =
    rw (scanned.strings.full part rest lexical e.1, free.no_datatype, free.no_tag, e.0) refl
literal_full scanned part rest (Tagged lexical language) free q = literal_tagged scanned part rest lexical language q

-- what a reader of terms reads leaves no more than this
pub record LeavesLess (reader : PartReader Term) (text rest : List ℕ) : Type 0 where
  pub term : Term
  pub behind : List ℕ
  pub is : reader text ≡ term_of term behind
  pub less : length behind ≤ length rest

stands_less : {A : Type 0} (rule : Rule A) (text rest : List ℕ) (v : A) → Stands rule text rest v → length rest ≤ length text
stands_less rule text rest v s =
    let all = ap length s.text_is in
    let first = length-append s.blanks (s.part ++ rest) in
    let second = length-append s.part rest in
    omega arith

qualified_less : (scanned : FollowRules) → (lexical text : List ℕ) → LeavesLess (literal_of lexical) text text
unfolding literal_of
qualified_less scanned lexical text = by (datatype (behind_blanks text)) refl (tag (behind_blanks text)) refl
  where
    by : (d : Option (List ℕ × List ℕ)) → datatype (behind_blanks text) ≡ d → (t : Option (List ℕ × List ℕ)) → tag (behind_blanks text) ≡ t
        → LeavesLess (literal_of lexical) text text
    by (Some x) d_is t t_is = record {
      term = Literal lexical x.0;
      behind = x.1;
      is = rw d_is refl;
      less = stands_less IsDatatype text x.1 x.0 (stands_sound datatype IsDatatype (datatype_reads scanned) text x.1 x.0 d_is);
    }
    by None d_is (Some x) t_is = record {
      term = Tagged lexical x.0;
      behind = x.1;
      is = rw (d_is, t_is) refl;
      less = stands_less IsTag text x.1 x.0 (stands_sound tag IsTag scanned.tags text x.1 x.0 t_is);
    }
    by None d_is None t_is = record {
      term = Literal lexical xsd_string;
      behind = text;
      is = rw (d_is, t_is) refl;
      less = omega arith;
    }

literal_less : (scanned : FollowRules) → (part rest : List ℕ) (term : Term) → IsLiteral part rest term → LeavesLess literal (part ++ rest) rest
unfolding literal
literal_less scanned part rest (Iri name) e = absurd e
literal_less scanned part rest (Blank number name) e = absurd e
literal_less scanned part rest (Literal lexical name) (inl q) =
    record { term = Literal lexical name; behind = rest; is = literal_typed scanned part rest lexical name q; less = omega arith }
literal_less scanned part rest (Literal lexical name) (inr e) =
    let more = qualified_less scanned lexical rest in
    record { term = more.term; behind = more.behind; is = rw (scanned.strings.full part rest lexical e.1) more.is; less = more.less }
literal_less scanned part rest (Tagged lexical language) q =
    record { term = Tagged lexical language; behind = rest; is = literal_tagged scanned part rest lexical language q; less = omega arith }

-- ---- terms of a statement

iri_term_sound : (scanned : FollowRules) → (text rest : List ℕ) (term : Term) → iri_term text ≡ term_of term rest → (part : List ℕ) × ((text ≡ part ++ rest) × IsIriTerm part rest term)
iri_term_sound scanned text rest term is = by (iri text) refl is
  where
    by : (o : Option (List ℕ × List ℕ)) → iri text ≡ o → told (λ name. Iri name) o ≡ term_of term rest
        → (part : List ℕ) × ((text ≡ part ++ rest) × IsIriTerm part rest term)
    by None read is = absurd (cc)
    by (Some x) read is =
        let same = term_same (Iri x.0) term x.1 rest is in
        let p = scanned.iris.sound text rest x.0 (read ∙ ap (λ r. both_of x.0 r) same.1) in
        (p.0, (p.1.0, subst (λ y. IsIriTerm p.0 rest y) same.0 p.1.1))

iri_term_full : (scanned : FollowRules) → (part rest : List ℕ) (term : Term) → IsIriTerm part rest term → iri_term (part ++ rest) ≡ term_of term rest
iri_term_full scanned part rest (Iri name) e = rw (scanned.iris.full part rest name e) refl
iri_term_full scanned part rest (Blank number name) e = absurd e
iri_term_full scanned part rest (Literal lexical name) e = absurd e
iri_term_full scanned part rest (Tagged lexical language) e = absurd e

pub iri_term_reads : (scanned : FollowRules) → Reads iri_term IsIriTerm
iri_term_reads scanned = record { sound = iri_term_sound scanned; full = iri_term_full scanned }

pub iri_term_starts : StartsWell IsIriTerm
iri_term_starts part rest (Iri name) e = iri_starts part rest name e
iri_term_starts part rest (Blank number name) e = absurd e
iri_term_starts part rest (Literal lexical name) e = absurd e
iri_term_starts part rest (Tagged lexical language) e = absurd e

node_of_iri : (document : ℕ) (part rest : List ℕ) (term : Term) → IsIriTerm part rest term → IsNode document part rest term
node_of_iri document part rest (Iri name) e = e
node_of_iri document part rest (Blank number name) e = absurd e
node_of_iri document part rest (Literal lexical name) e = absurd e
node_of_iri document part rest (Tagged lexical language) e = absurd e

module _ (scanned : FollowRules) (document : ℕ) where
  blank_sound : (text rest : List ℕ) (term : Term) → blank document text ≡ term_of term rest → (part : List ℕ) × ((text ≡ part ++ rest) × IsNode document part rest term)
  blank_sound text rest term is = by (label text) refl is
    where
      by : (o : Option (List ℕ × List ℕ)) → label text ≡ o → told (λ name. Blank document name) o ≡ term_of term rest
          → (part : List ℕ) × ((text ≡ part ++ rest) × IsNode document part rest term)
      by None read is = absurd (cc)
      by (Some x) read is =
          let same = term_same (Blank document x.0) term x.1 rest is in
          let p = scanned.labels.sound text rest x.0 (read ∙ ap (λ r. both_of x.0 r) same.1) in
          (p.0, (p.1.0, subst (λ y. IsNode document p.0 rest y) same.0 (refl, p.1.1)))

  node_sound : (text rest : List ℕ) (term : Term) → node document text ≡ term_of term rest → (part : List ℕ) × ((text ≡ part ++ rest) × IsNode document part rest term)
  unfolding node
  node_sound text rest term is = by (iri_term text) refl is
    where
      by : (o : Option (Term × List ℕ)) → iri_term text ≡ o → option_or o (blank document text) ≡ term_of term rest
          → (part : List ℕ) × ((text ≡ part ++ rest) × IsNode document part rest term)
      by None read is = blank_sound text rest term is
      by (Some x) read is =
          let p = iri_term_sound scanned text rest term (read ∙ is) in
          (p.0, (p.1.0, node_of_iri document p.0 rest term p.1.1))

  no_iri_at_label : (part rest name : List ℕ) → IsLabel part rest name → iri_term (part ++ rest) ≡ None
  unfolding iri string enclosed sign
  no_iri_at_label part rest name e = rw e.part_is refl

  node_full : (part rest : List ℕ) (term : Term) → IsNode document part rest term → node document (part ++ rest) ≡ term_of term rest
  unfolding node
  node_full part rest (Iri name) e = rw (iri_term_full scanned part rest (Iri name) e) refl
  node_full part rest (Blank number name) e = rw (no_iri_at_label part rest name e.1, scanned.labels.full part rest name e.1, e.0) refl
  node_full part rest (Literal lexical name) e = absurd e
  node_full part rest (Tagged lexical language) e = absurd e

  pub node_reads : Reads (node document) (IsNode document)
  node_reads = record { sound = node_sound; full = node_full }

  pub node_starts : StartsWell (IsNode document)
  node_starts part rest (Iri name) e = iri_starts part rest name e
  node_starts part rest (Blank number name) e = label_starts part rest name e.1
  node_starts part rest (Literal lexical name) e = absurd e
  node_starts part rest (Tagged lexical language) e = absurd e

  pub object_sound : (text rest : List ℕ) (term : Term) → object document text ≡ term_of term rest
      → (part : List ℕ) × ((text ≡ part ++ rest) × IsObject document part rest term)
  unfolding object
  object_sound text rest term is = by (node document text) refl is
    where
      by : (o : Option (Term × List ℕ)) → node document text ≡ o → option_or o (literal text) ≡ term_of term rest
          → (part : List ℕ) × ((text ≡ part ++ rest) × IsObject document part rest term)
      by None read is = let p = literal_sound scanned text rest term is in (p.0, (p.1.0, inr p.1.1))
      by (Some x) read is = let p = node_sound text rest term (read ∙ is) in (p.0, (p.1.0, inl p.1.1))

  -- a literal begins with its quotation mark
  quoted : (part rest : List ℕ) (term : Term) → IsLiteral part rest term → (more : List ℕ) × (part ++ rest ≡ 34 ∷ more)
  quoted part rest (Iri name) e = absurd e
  quoted part rest (Blank number name) e = absurd e
  quoted part rest (Literal lexical name) (inl q) = (_, ap (λ ys. ys ++ rest) (q.part_is ∙ ap (λ ys. ys ++ q.behind) q.is_string.part_is))
  quoted part rest (Literal lexical name) (inr e) = (_, ap (λ ys. ys ++ rest) e.1.part_is)
  quoted part rest (Tagged lexical language) q = (_, ap (λ ys. ys ++ rest) (q.part_is ∙ ap (λ ys. ys ++ q.behind) q.is_string.part_is))

  no_node : (more : List ℕ) → node document (34 ∷ more) ≡ None
  unfolding node iri string enclosed label sign
  no_node more = refl

  pub object_full : (part rest : List ℕ) (term : Term) → IsFree rest → IsObject document part rest term → object document (part ++ rest) ≡ term_of term rest
  unfolding object
  object_full part rest term free (inl e) = rw (node_full part rest term e) refl
  object_full part rest term free (inr e) =
      let q = quoted part rest term e in
      let none : node document (part ++ rest) ≡ None = ap (node document) q.1 ∙ no_node q.0 in
      rw (none, literal_full scanned part rest term free e) refl

  -- whatever stands, the reader reads what is no shorter
  pub object_less : (part rest : List ℕ) (term : Term) → IsObject document part rest term → LeavesLess (object document) (part ++ rest) rest
  unfolding object
  object_less part rest term (inl e) = record { term = term; behind = rest; is = rw (node_full part rest term e) refl; less = omega arith }
  object_less part rest term (inr e) =
      let q = quoted part rest term e in
      let none : node document (part ++ rest) ≡ None = ap (node document) q.1 ∙ no_node q.0 in
      let more = literal_less scanned part rest term e in
      record { term = more.term; behind = more.behind; is = rw none more.is; less = more.less }

  pub object_starts : StartsWell (IsObject document)
  object_starts part rest term (inl e) = node_starts part rest term e
  object_starts part rest term (inr e) = let q = quoted part rest term e in ap blank_first q.1
