-- A line that `write` makes of a quad without blank nodes says that quad.
use Rattle.std.proofs.Common.{◌≡◌, ℕ, ◌<◌, ◌≤◌, Bool, true, false, true≢false, List, [], ◌∷◌, ◌++◌, map, refl, sym, ap, subst, ◌∙◌, arith, append_assoc, append-nil, Option, Some, None, codes, if◌then◌else◌}
use Rattle.std.specs.Prelude.{◌&&◌, ◌==◌, not, nat_lt}
use mathlib.Core.Logic.{inl, inr}
use Rattle.std.specs.Char.{encode_utf8}
use Rattle.std.specs.Cmp.Lexicographic.{bytes_decides}
use Rattle.std.specs.List.{list_all, AllByRecursion}
use Rattle.std.specs.Option.{option_map_or}
use Rattle.std.specs.Str.{encode_utf8_all, bytes_eq}
use Rattle.std.proofs.lemmas.Bool.Decides.{nat_tests}
use Rattle.std.proofs.lemmas.Str.{encode_ascii}
use Rattle.rsp_spec.proofs.Truths.{equal_from}
use Rattle.rsp_terms.specs.declared.term.Term.{Term}
use Rattle.rsp_terms.specs.declared.term.Term.TheVariants.{Iri, Blank, Literal, Tagged}
use Rattle.rsp_terms.specs.declared.statement.Quad.{Quad}
use Rattle.rsp_terms.specs.Terms.{xsd_string, escaped_byte, escaped_text, iri_text, string_text, term_text}
use Rattle.rsp_terms.specs.Characters.{is_iri_character, is_tag_text}
use Rattle.rsp_scan.specs.Machines.{accepts}
use Rattle.rsp_scan.specs.Enclosed.{Piece, plain, short, long, named, piece_text, StandsFor, IsIriPiece, IsStringPiece, IsPieceOf, IsEnclosed, IsIri, Rule, is_scalar}
use Rattle.rsp_scan.specs.Names.{IsTag}
use Rattle.rsp_scan.specs.Following.{FollowRules}
use Rattle.rsp_nquads.specs.Grammar.{IsDatatype, IsQualified, IsLiteral, IsIriTerm, IsNode, IsObject, IsGraph, Stands, Says}
use Rattle.rsp_scan.specs.Scans.{next_of_tag, tag_machine}
use Rattle.rsp_nquads.specs.Statements.{statement_of}
use Rattle.rsp_nquads.specs.Answers.{statement}
use Rattle.rsp_nquads.specs.Writing.{line_of, graph_text, HasNoBlank}
use Rattle.rsp_nquads.specs.Blanks.{IsNotBlank, IsNotBlankIn, AreNotBlank}
use Rattle.rsp_nquads.proofs.NoBlanks.{no_blank_from}
use Rattle.rsp_scan.proofs.Pieces.{texts, values, plains, plain_texts, plain_values, wide_bytes}
use Rattle.rsp_nquads.proofs.StatementLaws.{says_from, says_to}

-- ---- IRIs

abbrev AreIri : List ℕ → Type 0
AreIri ds = AllByRecursion (λ d. (is_scalar d ≡ true) × (is_iri_character d ≡ true)) ds

iri_piece : (p : Piece) (d : ℕ) → IsIriPiece p d → is_iri_character d ≡ true
iri_piece (plain c) d h = h
iri_piece (short ds) d h = h
iri_piece (long ds) d h = h
iri_piece (named c) d h = absurd h

iri_characters : (ps : List (Piece × ℕ)) → AllByRecursion (IsPieceOf IsIriPiece) ps → AreIri (map (λ x. x.1) ps)
iri_characters [] each = tt
iri_characters (p ∷ ps) each = ((each.0.0, iri_piece p.0 p.1 each.0.2), iri_characters ps each.1)

iri_plains : (ds : List ℕ) → AreIri ds → AllByRecursion (IsPieceOf IsIriPiece) (plains ds)
iri_plains [] each = tt
iri_plains (d ∷ ds) each = ((each.0.0, refl, each.0.1), iri_plains ds each.1)

iri_written : (part name : List ℕ) → IsEnclosed IsIriPiece 60 62 part name → IsEnclosed IsIriPiece 60 62 (iri_text name) name
iri_written part name e =
    let ds = map (λ (x : Piece × ℕ). x.1) e.pieces in
    record {
      pieces = plains (map (λ x. x.1) e.pieces);
      each = iri_plains (map (λ x. x.1) e.pieces) (iri_characters e.pieces e.each);
      part_is = ap (λ ys. 60 ∷ (ys ++ (62 ∷ []))) (e.value_is ∙ sym (plain_texts (map (λ x. x.1) e.pieces)));
      value_is = e.value_is ∙ sym (plain_values (map (λ x. x.1) e.pieces));
    }

-- ---- strings

abbrev piece_of : ℕ → Piece
piece_of d =
    if d == 34 then named 34
    else if d == 92 then named 92
    else if d == 9 then named 116
    else if d == 10 then named 110
    else if d == 13 then named 114
    else plain d

-- each character has its piece, and an ASCII one is escaped to it
record Escapes (d : ℕ) : Type 0 where
  stands : StandsFor (piece_of d) d
  may : IsStringPiece (piece_of d) d
  text : piece_text (piece_of d) ≡ (if nat_lt d 128 then escaped_byte d else encode_utf8 d)

ascii_of : (n : ℕ) → n < 128 → (d : ℕ) → d ≡ n → nat_lt d 128 ≡ true
ascii_of n low d is = grind (arith, nat_tests)

escapes : (d : ℕ) → Escapes d
escapes d = by (d == 34) refl (d == 92) refl (d == 9) refl (d == 10) refl (d == 13) refl (nat_lt d 128) refl
  where
    by : (a : Bool) → (d == 34) ≡ a → (b : Bool) → (d == 92) ≡ b → (e : Bool) → (d == 9) ≡ e → (f : Bool) → (d == 10) ≡ f
        → (g : Bool) → (d == 13) ≡ g → (low : Bool) → nat_lt d 128 ≡ low → Escapes d
    by true ha b hb e he f hf g hg low hl =
        let is = equal_from d 34 ha in subst Escapes (sym is) (record { stands = refl; may = tt; text = refl })
    by false ha true hb e he f hf g hg low hl =
        let is = equal_from d 92 hb in subst Escapes (sym is) (record { stands = refl; may = tt; text = refl })
    by false ha false hb true he f hf g hg low hl =
        let is = equal_from d 9 he in subst Escapes (sym is) (record { stands = refl; may = tt; text = refl })
    by false ha false hb false he true hf g hg low hl =
        let is = equal_from d 10 hf in subst Escapes (sym is) (record { stands = refl; may = tt; text = refl })
    by false ha false hb false he false hf true hg low hl =
        let is = equal_from d 13 hg in subst Escapes (sym is) (record { stands = refl; may = tt; text = refl })
    by false ha false hb false he false hf false hg true hl =
        let low : d < 128 = grind (arith, nat_tests) in
        record {
          stands = rw (ha, hb, he, hf, hg) refl;
          may = rw (ha, hb, he, hf, hg) (rw (ha, hb, hf, hg) refl);
          text = rw (ha, hb, he, hf, hg, hl) (encode_ascii d low);
        }
    by false ha false hb false he false hf false hg false hl =
        record {
          stands = rw (ha, hb, he, hf, hg) refl;
          may = rw (ha, hb, he, hf, hg) (rw (ha, hb, hf, hg) refl);
          text = rw (ha, hb, he, hf, hg, hl) refl;
        }

high_byte : (b : ℕ) → 128 ≤ b → escaped_byte b ≡ b ∷ []
high_byte b high =
    let a : (b == 34) ≡ false = grind (arith, nat_tests) in
    let c : (b == 92) ≡ false = grind (arith, nat_tests) in
    let d : (b == 9) ≡ false = grind (arith, nat_tests) in
    let e : (b == 10) ≡ false = grind (arith, nat_tests) in
    let f : (b == 13) ≡ false = grind (arith, nat_tests) in
    rw (a, c, d, e, f) refl

escaped_text-append : (xs ys : List ℕ) → escaped_text (xs ++ ys) ≡ escaped_text xs ++ escaped_text ys
escaped_text-append [] ys = refl
escaped_text-append (x ∷ xs) ys =
    ap (λ zs. escaped_byte x ++ zs) (escaped_text-append xs ys) ∙ sym (append_assoc (escaped_byte x) (escaped_text xs) (escaped_text ys))

abbrev AreHigh : List ℕ → Bool
AreHigh bytes = list_all (λ b. not (nat_lt b 128)) bytes

high_escaped : (bytes : List ℕ) → AreHigh bytes ≡ true → escaped_text bytes ≡ bytes
high_escaped [] h = refl
high_escaped (b ∷ bs) h = by (nat_lt b 128) refl h (λ more. high_escaped bs more)
  where
    by : (low : Bool) → nat_lt b 128 ≡ low → (not low && AreHigh bs) ≡ true → (AreHigh bs ≡ true → escaped_text bs ≡ bs) → escaped_text (b ∷ bs) ≡ b ∷ bs
    by true is all more = absurd (true≢false (sym all))
    by false is all more = let high : 128 ≤ b = grind (arith, nat_tests) in rw (high_byte b high, more all) refl

wide : (c : ℕ) → 128 ≤ c → not (nat_lt c 128) ≡ true
wide c high = let is : nat_lt c 128 ≡ false = grind (arith, nat_tests) in rw is refl

escaped_character : (d : ℕ) → escaped_text (encode_utf8 d) ≡ (if nat_lt d 128 then escaped_byte d else encode_utf8 d)
escaped_character d = by (nat_lt d 128) refl
  where
    by : (low : Bool) → nat_lt d 128 ≡ low → escaped_text (encode_utf8 d) ≡ (if low then escaped_byte d else encode_utf8 d)
    by true is = let low : d < 128 = grind (arith, nat_tests) in rw (encode_ascii d low) (append-nil (escaped_byte d))
    by false is = let high : 128 ≤ d = grind (arith, nat_tests) in high_escaped (encode_utf8 d) (wide_bytes (λ b. not (nat_lt b 128)) wide d high)

abbrev pieces_of : List ℕ → List (Piece × ℕ)
pieces_of ds = map (λ d. (piece_of d, d)) ds

escaped_texts : (ds : List ℕ) → escaped_text (encode_utf8_all ds) ≡ texts (pieces_of ds)
escaped_texts [] = refl
escaped_texts (d ∷ ds) =
    escaped_text-append (encode_utf8 d) (encode_utf8_all ds)
    ∙ rw (escaped_character d, ← (escapes d).text, escaped_texts ds) refl

values_of : (ds : List ℕ) → values (pieces_of ds) ≡ encode_utf8_all ds
values_of [] = refl
values_of (d ∷ ds) = ap (λ ys. encode_utf8 d ++ ys) (values_of ds)

abbrev AreScalars : List ℕ → Type 0
AreScalars ds = AllByRecursion (λ d. is_scalar d ≡ true) ds

string_characters : (ps : List (Piece × ℕ)) → AllByRecursion (IsPieceOf IsStringPiece) ps → AreScalars (map (λ x. x.1) ps)
string_characters [] each = tt
string_characters (p ∷ ps) each = (each.0.0, string_characters ps each.1)

string_pieces : (ds : List ℕ) → AreScalars ds → AllByRecursion (IsPieceOf IsStringPiece) (pieces_of ds)
string_pieces [] each = tt
string_pieces (d ∷ ds) each = ((each.0, (escapes d).stands, (escapes d).may), string_pieces ds each.1)

string_written : (part lexical : List ℕ) → IsEnclosed IsStringPiece 34 34 part lexical → IsEnclosed IsStringPiece 34 34 (string_text lexical) lexical
string_written part lexical e =
    record {
      pieces = pieces_of (map (λ x. x.1) e.pieces);
      each = string_pieces (map (λ x. x.1) e.pieces) (string_characters e.pieces e.each);
      part_is = ap (λ ys. 34 ∷ (ys ++ (34 ∷ []))) (ap escaped_text e.value_is ∙ escaped_texts (map (λ x. x.1) e.pieces));
      value_is = e.value_is ∙ sym (values_of (map (λ x. x.1) e.pieces));
    }

-- ---- tags

no_space : (s : Bool × Bool) → next_of_tag s 32 ≡ None
no_space (true, begun) = refl
no_space (false, begun) = refl

space_ends : (s : Bool × Bool) (xs ys : List ℕ) → accepts tag_machine s (xs ++ (32 ∷ ys)) ≡ false
space_ends s [] ys = ap (λ o. option_map_or (λ t. accepts tag_machine t ys) o false) (no_space s)
space_ends s (x ∷ xs) ys = by (next_of_tag s x) (λ t. space_ends t xs ys)
  where
    by : (o : Option (Bool × Bool)) → ((t : Bool × Bool) → accepts tag_machine t (xs ++ (32 ∷ ys)) ≡ false)
        → option_map_or (λ t. accepts tag_machine t (xs ++ (32 ∷ ys))) o false ≡ false
    by None more = refl
    by (Some t) more = more t

tag_written : (scanned : FollowRules) → (part rest language after : List ℕ) → IsTag part rest language → IsTag (codes "@" ++ language) (32 ∷ after) language
tag_written scanned part rest language after e = record { is_tag = e.is_tag; part_is = refl; longest = longest }
  where
    longest : (more others : List ℕ) → (32 ∷ after) ≡ more ++ others → is_tag_text (language ++ more) ≡ true → more ≡ []
    longest [] others is passes = refl
    longest (m ∷ ms) others is passes =
        let space : 32 ≡ m = cc in
        let whole : is_tag_text (language ++ (32 ∷ ms)) ≡ true = ap (λ c. is_tag_text (language ++ (c ∷ ms))) space ∙ passes in
        absurd (true≢false (sym whole ∙ (scanned.tag_texts (language ++ (32 ∷ ms)) ∙ space_ends (true, false) language ms)))

-- ---- terms

at_front : {A : Type 0} (rule : Rule A) (part rest : List ℕ) (v : A) → rule part rest v → Stands rule (part ++ rest) rest v
at_front rule part rest v is = record { blanks = []; part = part; are_blanks = refl; text_is = refl; is = is }

behind_space : {A : Type 0} (rule : Rule A) (part rest : List ℕ) (v : A) → rule part rest v → Stands rule (32 ∷ (part ++ rest)) rest v
behind_space rule part rest v is = record { blanks = 32 ∷ []; part = part; are_blanks = refl; text_is = refl; is = is }

datatype_written : (part name after : List ℕ) → IsEnclosed IsIriPiece 60 62 part name → IsDatatype (codes "^^" ++ iri_text name) after name
datatype_written part name after e = record {
  behind = iri_text name;
  part_is = refl;
  name_is = at_front IsIri (iri_text name) after name (iri_written part name e);
}

qualified : (qualifier : Rule (List ℕ)) (s q after lexical name : List ℕ) → IsEnclosed IsStringPiece 34 34 s lexical → qualifier q after name
    → IsQualified qualifier (string_text lexical ++ q) after lexical name
qualified qualifier s q after lexical name string_is is = record {
  string = string_text lexical;
  behind = q;
  part_is = refl;
  is_string = string_written s lexical string_is;
  name_is = at_front qualifier q after name is;
}

literal_written : (scanned : FollowRules) → (part rest after : List ℕ) (term : Term) → IsLiteral part rest term → IsLiteral (term_text term) (32 ∷ after) term
literal_written scanned part rest after (Iri name) e = absurd e
literal_written scanned part rest after (Blank number name) e = absurd e
literal_written scanned part rest after (Literal lexical name) e = by (bytes_eq name xsd_string) refl e
  where
    text : Bool → List ℕ
    text b = string_text lexical ++ (if b then [] else codes "^^" ++ iri_text name)

    alone : (s : List ℕ) → IsEnclosed IsStringPiece 34 34 s lexical → IsEnclosed IsStringPiece 34 34 (string_text lexical ++ []) lexical
    alone s string_is = subst (λ p. IsEnclosed IsStringPiece 34 34 p lexical) (sym (append-nil (string_text lexical))) (string_written s lexical string_is)

    by : (b : Bool) → bytes_eq name xsd_string ≡ b → IsLiteral part rest (Literal lexical name)
        → IsLiteral (string_text lexical ++ (if b then [] else codes "^^" ++ iri_text name)) (32 ∷ after) (Literal lexical name)
    by true same (inl q) = inr ((bytes_decides name xsd_string).0 same, alone q.string q.is_string)
    by true same (inr x) = inr (x.0, alone part x.1)
    by false other (inl q) =
        inl (qualified IsDatatype q.string (codes "^^" ++ iri_text name) (32 ∷ after) lexical name q.is_string
        (datatype_written q.name_is.is.name_is.part name (32 ∷ after) q.name_is.is.name_is.is))
    by false other (inr x) = absurd (true≢false (sym ((bytes_decides name xsd_string).1 x.0) ∙ other))
literal_written scanned part rest after (Tagged lexical language) q =
    qualified IsTag q.string (codes "@" ++ language) (32 ∷ after) lexical language q.is_string
    (tag_written scanned q.name_is.part rest language after q.name_is.is)

node_written : (d document : ℕ) (part rest after : List ℕ) (term : Term) → IsNotBlank term → IsNode d part rest term
    → IsNode document (term_text term) after term
node_written d document part rest after (Iri name) no_blank e = iri_written part name e
node_written d document part rest after (Blank number name) no_blank e = absurd no_blank
node_written d document part rest after (Literal lexical name) no_blank e = absurd e
node_written d document part rest after (Tagged lexical language) no_blank e = absurd e

iri_term_written : (part rest after : List ℕ) (term : Term) → IsIriTerm part rest term → IsIriTerm (term_text term) after term
iri_term_written part rest after (Iri name) e = iri_written part name e
iri_term_written part rest after (Blank number name) e = absurd e
iri_term_written part rest after (Literal lexical name) e = absurd e
iri_term_written part rest after (Tagged lexical language) e = absurd e

object_written : (scanned : FollowRules) → (d document : ℕ) (part rest after : List ℕ) (term : Term) → IsNotBlank term → IsObject d part rest term
    → IsObject document (term_text term) (32 ∷ after) term
object_written scanned d document part rest after term no_blank (inl e) = inl (node_written d document part rest (32 ∷ after) term no_blank e)
object_written scanned d document part rest after term no_blank (inr e) = inr (literal_written scanned part rest after term e)

-- ---- the line

-- what stands behind the object begins with a space
record Tail (graph : Option Term) : Type 0 where
  after : List ℕ
  is : graph_text graph ++ codes " ." ≡ 32 ∷ after

tail_of : (graph : Option Term) → Tail graph
tail_of None = record { after = codes "."; is = refl }
tail_of (Some name) = record { after = term_text name ++ codes " ."; is = refl }

graph_written : (d document : ℕ) (text rest : List ℕ) (graph : Option Term) → IsNotBlankIn graph → IsGraph d text rest graph
    → IsGraph document (graph_text graph ++ codes " .") (codes " .") graph
graph_written d document text rest None no_blank e = refl
graph_written d document text rest (Some name) no_blank e =
    behind_space (IsNode document) (term_text name) (codes " .") name (node_written d document e.part rest (codes " .") name no_blank e.is)

pub read_back : (scanned : FollowRules) → (d document : ℕ) (line : List ℕ) (quad : Quad) → Says d line quad → AreNotBlank quad → Says document (line_of quad) quad
read_back scanned d document line quad h no_blank =
    let tail = tail_of quad.graph in
    let s = h.statement in
    record {
      statement = record {
        after_subject = codes " " ++ (term_text quad.triple.predicate ++ (codes " " ++ (term_text quad.triple.object ++ (graph_text quad.graph ++ codes " ."))));
        after_predicate = codes " " ++ (term_text quad.triple.object ++ (graph_text quad.graph ++ codes " ."));
        after_object = graph_text quad.graph ++ codes " .";
        after_graph = codes " .";
        after_dot = [];
        subject = at_front (IsNode document) (term_text quad.triple.subject) (codes " " ++ (term_text quad.triple.predicate ++ (codes " " ++ (term_text quad.triple.object ++ (graph_text quad.graph ++ codes " ."))))) quad.triple.subject
            (node_written d document s.subject.part s.after_subject (codes " " ++ (term_text quad.triple.predicate ++ (codes " " ++ (term_text quad.triple.object ++ (graph_text quad.graph ++ codes " ."))))) quad.triple.subject no_blank.0 s.subject.is);
        predicate = behind_space IsIriTerm (term_text quad.triple.predicate) (codes " " ++ (term_text quad.triple.object ++ (graph_text quad.graph ++ codes " ."))) quad.triple.predicate
            (iri_term_written s.predicate.part s.after_predicate (codes " " ++ (term_text quad.triple.object ++ (graph_text quad.graph ++ codes " ."))) quad.triple.predicate s.predicate.is);
        object = behind_space (IsObject document) (term_text quad.triple.object) (graph_text quad.graph ++ codes " .") quad.triple.object
            (subst (λ r. IsObject document (term_text quad.triple.object) r quad.triple.object) (sym tail.is)
            (object_written scanned d document s.object.part s.after_object tail.after quad.triple.object no_blank.1 s.object.is));
        graph = graph_written d document s.after_object s.after_graph quad.graph no_blank.2 s.graph;
        dot = record { blanks = 32 ∷ []; part = codes "."; are_blanks = refl; text_is = refl; is = refl };
        ends = record { blanks = []; comment = []; are_blanks = refl; text_is = refl; is_comment = inl refl };
      };
      absolute = h.absolute;
    }

pub says_again : (scanned : FollowRules) → (d : ℕ) (line : List ℕ) (quad : Quad) → statement_of d line ≡ statement quad → HasNoBlank quad → (document : ℕ)
    → statement_of document (line_of quad) ≡ statement quad
says_again scanned d line quad is no_blank document = says_to scanned document (line_of quad) quad (read_back scanned d document line quad (says_from scanned d line quad is) (no_blank_from quad no_blank))
