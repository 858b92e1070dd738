-- What a line says, by the grammar: the answers of `statement_of` and the relation `Says` agree.
use Rattle.std.proofs.Common.{◌≡◌, ℕ, Bool, true, false, true≢false, cond, List, map, [], ◌∷◌, ◌++◌, length, take, refl, sym, ap, subst, ◌∙◌, Option, Some, None, Result, Ok, Err, codes, if◌then◌else◌, IsUtf8}
use Rattle.std.specs.Prelude.{◌&&◌, ◌||◌, ◌==◌, ◌⊎◌}
use mathlib.Core.Logic.{inl, inr}
use Rattle.std.specs.List.{prefix_len, find, list_any, cons_option}
use Rattle.std.specs.Option.{option_map, option_map_or}
use Rattle.std.specs.Str.{is_utf8}
use Rattle.std.proofs.lemmas.Str.{is_utf8-from_IsUtf8, IsUtf8-from_is_utf8}
use Rattle.rsp_spec.proofs.Truths.{and_left, and_right, equal_from}
use Rattle.rsp_terms.specs.declared.term.Term.{Term}
use Rattle.rsp_terms.specs.declared.term.Term.TheVariants.{Iri, Blank, Literal, Tagged}
use Rattle.rsp_terms.specs.declared.statement.Quad.{Quad}
use Rattle.rsp_scan.specs.Following.{FollowRules}
use Rattle.rsp_nquads.specs.declared.statements.Part.{Part}
use Rattle.rsp_nquads.specs.declared.statements.Parts.{Parts}
use Rattle.rsp_scan.specs.Enclosed.{sign}
use Rattle.rsp_scan.specs.Readers.{PartReader, enclosed, label, tag, iri, string}
use Rattle.rsp_nquads.specs.Parts.{iri_term, datatype, node, object}
use Rattle.rsp_text.specs.Fronts.{is_blank, behind_blanks}
use Rattle.rsp_nquads.specs.Grammar.{Stands, IsIriTerm, IsNode, IsObject, IsGraph, IsEnd, IsDot, IsStatement, is_relative, terms_of, terms_in, Says, SaysNothing}
use Rattle.rsp_nquads.specs.Statements.{part_of, optional_part, is_end, ends, closes, onward, parts_of, quad_of, column, first_relative, judged, answer, statement_of}
use Rattle.rsp_nquads.specs.Answers.{Answer, nothing, statement, relative_iri}
use Rattle.rsp_scan.proofs.Pieces.{all_run}
use Rattle.rsp_scan.proofs.RuleLaws.{sign_found, sign_finds}
use Rattle.rsp_nquads.proofs.TermLaws.{blank_first, behind_onto, blanks_split, StartsWell, stands_sound, stands_full, stands_behind, IsFree, iri_term_reads, iri_term_starts, node_reads, node_starts, object_sound, object_full, object_starts}

-- ---- one part

abbrev read_as : Part → List ℕ → Result (Part × List ℕ) ℕ
read_as part rest = Ok (part, rest)

read_same : (a b : Part) (xs ys : List ℕ) → read_as a xs ≡ read_as b ys → (a ≡ b) × (xs ≡ ys)
read_same a b xs ys is =
    let same : ◌≡◌ {A = Part × List ℕ} (a, xs) (b, ys) = cc in
    (ap (λ (y : Part × List ℕ). y.0) same, ap (λ (y : Part × List ℕ). y.1) same)

abbrev term_of : Term → List ℕ → Option (Term × List ℕ)
term_of term rest = Some (term, rest)

abbrev pub at_place : Term → List ℕ → Part
at_place term text = record { term = term; left = length (behind_blanks text) }

-- a part that was read, beside the place where it stands
record PartFound (reader : PartReader Term) (text rest : List ℕ) (part : Part) : Type 0 where
  read : reader (behind_blanks text) ≡ term_of part.term rest
  place : part ≡ at_place part.term text

part_found : (reader : PartReader Term) (text rest : List ℕ) (part : Part) → part_of reader text ≡ read_as part rest
    → PartFound reader text rest part
part_found reader text rest part is = by (reader (behind_blanks text)) refl is
  where
    by : (o : Option (Term × List ℕ)) → reader (behind_blanks text) ≡ o
        → option_map_or (λ x. read_as (at_place x.0 text) x.1) o (Err (length (behind_blanks text))) ≡ read_as part rest
        → PartFound reader text rest part
    by None read is = absurd (cc)
    by (Some x) read is =
        let same = read_same (at_place x.0 text) part x.1 rest is in
        record {
          read = read ∙ (ap (λ r. term_of x.0 r) same.1 ∙ ap (λ (p : Part). term_of p.term rest) same.0);
          place = sym same.0 ∙ ap (λ (p : Part). at_place p.term text) same.0;
        }

part_finds : (reader : PartReader Term) (text rest : List ℕ) (term : Term) → reader (behind_blanks text) ≡ term_of term rest
    → part_of reader text ≡ read_as (record { term = term; left = length (behind_blanks text) }) rest
part_finds reader text rest term is = rw is refl

-- ---- the end

abbrev is_comment : List ℕ → Type 0
is_comment comment = (comment ≡ []) ⊎ ((characters : List ℕ) × (comment ≡ codes "#" ++ characters) × IsUtf8 characters)

comment_found : (text : List ℕ) → is_end text ≡ true → is_comment text
unfolding is_end
comment_found [] is = inl refl
comment_found (c ∷ cs) is =
    inr (cs, ap (λ d. d ∷ cs) (equal_from c 35 (and_left (c == 35) (is_utf8 cs) is)), IsUtf8-from_is_utf8 cs (and_right (c == 35) (is_utf8 cs) is))

comment_finds : (text : List ℕ) → is_comment text → is_end text ≡ true
unfolding is_end
comment_finds text (inl none) = rw none refl
comment_finds text (inr e) = rw (e.1, is_utf8-from_IsUtf8 e.0 e.2) refl

comment_first : (text : List ℕ) → is_comment text → blank_first text ≡ false
comment_first text (inl none) = rw none refl
comment_first text (inr e) = rw e.1 refl

pub end_found : (text : List ℕ) → is_end (behind_blanks text) ≡ true → IsEnd text
end_found text is = record {
  blanks = take (prefix_len is_blank text) text;
  comment = behind_blanks text;
  are_blanks = all_run is_blank text;
  text_is = blanks_split text;
  is_comment = comment_found (behind_blanks text) is;
}

pub end_finds : (text : List ℕ) → IsEnd text → is_end (behind_blanks text) ≡ true
end_finds text e =
    ap (λ t. is_end (behind_blanks t)) e.text_is
    ∙ (ap is_end (behind_onto e.blanks e.comment e.are_blanks (comment_first e.comment e.is_comment)) ∙ comment_finds e.comment e.is_comment)

-- ---- the dot

dot_starts : StartsWell IsDot
dot_starts part rest v is = rw is refl

pub dot_stands : (text rest : List ℕ) → sign 46 (behind_blanks text) ≡ Some rest → Stands IsDot text rest tt
dot_stands text rest read = record {
  blanks = take (prefix_len is_blank text) text;
  part = 46 ∷ [];
  are_blanks = all_run is_blank text;
  text_is = blanks_split text ∙ ap (λ ys. take (prefix_len is_blank text) text ++ ys) (sign_found 46 (behind_blanks text) rest read);
  is = refl;
}

pub dot_behind : (text rest : List ℕ) → Stands IsDot text rest tt → behind_blanks text ≡ 46 ∷ rest
dot_behind text rest s =
    ap behind_blanks s.text_is ∙ (behind_onto s.blanks (s.part ++ rest) s.are_blanks (dot_starts s.part rest tt s.is) ∙ ap (λ p. p ++ rest) s.is)

record Closed (text : List ℕ) : Type 0 where
  rest : List ℕ
  dot : Stands IsDot text rest tt
  ends : IsEnd rest

closed_found : (text : List ℕ) (b : Bool) → closes text ≡ Ok b → Closed text
closed_found text b is = by (sign 46 (behind_blanks text)) refl is
  where
    ended : (rest : List ℕ) (e : Bool) → is_end (behind_blanks rest) ≡ e → (if e then Ok true else Err (length (behind_blanks rest))) ≡ Ok b
        → is_end (behind_blanks rest) ≡ true
    ended rest true test is = test
    ended rest false test is = absurd (cc)

    by : (o : Option (List ℕ)) → sign 46 (behind_blanks text) ≡ o → option_map_or ends o (Err (length (behind_blanks text))) ≡ Ok b → Closed text
    by None read is = absurd (cc)
    by (Some rest) read is = record {
      rest = rest;
      dot = dot_stands text rest read;
      ends = end_found rest (ended rest (is_end (behind_blanks rest)) refl is);
    }

closed_finds : (text rest : List ℕ) → Stands IsDot text rest tt → IsEnd rest → closes text ≡ Ok true
closed_finds text rest s e = rw (dot_behind text rest s, sign_finds 46 rest, end_finds rest e) refl

-- ---- the graph

abbrev pub graph_read : List ℕ → Option (Term × List ℕ) → Option Part × List ℕ
graph_read text o = option_map_or (λ x. (Some (record { term = x.0; left = length (behind_blanks text) }), x.1)) o (None, text)

graph_found : (scanned : FollowRules) → (document : ℕ) (text : List ℕ)
    → IsGraph document text (graph_read text (node document (behind_blanks text))).1
    (option_map (λ (part : Part). part.term) (graph_read text (node document (behind_blanks text))).0)
graph_found scanned document text = by (node document (behind_blanks text)) refl
  where
    by : (o : Option (Term × List ℕ)) → node document (behind_blanks text) ≡ o
        → IsGraph document text (graph_read text o).1 (option_map (λ (part : Part). part.term) (graph_read text o).0)
    by None read = refl
    by (Some x) read = stands_sound (node document) (IsNode document) (node_reads scanned document) text x.1 x.0 read

no_node_at_dot : (document : ℕ) (rest : List ℕ) → node document (46 ∷ rest) ≡ None
unfolding node iri string enclosed label sign
no_node_at_dot document rest = refl

abbrev pub graph_at : List ℕ → Option Term → Option Part
graph_at text graph = option_map (λ term. at_place term text) graph

abbrev term_in : Option Part → Option Term
term_in part = option_map (λ (p : Part). p.term) part

graph_placed : (document : ℕ) (text : List ℕ) (o : Option (Term × List ℕ)) → (graph_read text o).0 ≡ graph_at text (term_in (graph_read text o).0)
graph_placed document text None = refl
graph_placed document text (Some x) = refl

graph_again : (text : List ℕ) (graph : Option Term) → term_in (graph_at text graph) ≡ graph
graph_again text None = refl
graph_again text (Some term) = refl

graph_finds : (scanned : FollowRules) → (document : ℕ) (text rest after : List ℕ) (graph : Option Term) → IsGraph document text rest graph → Stands IsDot rest after tt
    → optional_part (node document) text ≡ (graph_at text graph, rest)
graph_finds scanned document text rest after None same dot =
    let here = dot_behind text after (subst (λ t. Stands IsDot t after tt) same dot) in
    let none : node document (behind_blanks text) ≡ None = ap (node document) here ∙ no_node_at_dot document after in
    rw (none, same) refl
graph_finds scanned document text rest after (Some term) stands dot =
    let read = stands_full (node document) (IsNode document) (node_reads scanned document) (node_starts scanned document) text rest term stands in
    rw read refl

-- ---- what may follow an object

no_datatype_at : (c : ℕ) (cs : List ℕ) → (94 == c) ≡ false → datatype (c ∷ cs) ≡ None
unfolding datatype sign
no_datatype_at c cs other = rw other refl

no_tag_at : (c : ℕ) (cs : List ℕ) → (64 == c) ≡ false → tag (c ∷ cs) ≡ None
unfolding tag sign
no_tag_at c cs other = rw other refl

free_at : (text : List ℕ) (c : ℕ) (cs : List ℕ) → behind_blanks text ≡ c ∷ cs → (94 == c) ≡ false → (64 == c) ≡ false → IsFree text
free_at text c cs is first second = record {
  no_datatype = ap datatype is ∙ no_datatype_at c cs first;
  no_tag = ap tag is ∙ no_tag_at c cs second;
}

record Node (text : List ℕ) : Type 0 where
  first : ℕ
  others : List ℕ
  is : text ≡ first ∷ others
  kind : (first ≡ 60) ⊎ (first ≡ 95)

node_first : (document : ℕ) (part rest : List ℕ) (term : Term) → IsNode document part rest term → Node (part ++ rest)
node_first document part rest (Iri name) e = record { first = 60; others = _; is = ap (λ p. p ++ rest) e.part_is; kind = inl refl }
node_first document part rest (Blank number name) e = record { first = 95; others = _; is = ap (λ p. p ++ rest) e.1.part_is; kind = inr refl }
node_first document part rest (Literal lexical name) e = absurd e
node_first document part rest (Tagged lexical language) e = absurd e

node_free : (text : List ℕ) (n : Node (behind_blanks text)) → IsFree text
node_free text n = by n.kind
  where
    by : (n.first ≡ 60) ⊎ (n.first ≡ 95) → IsFree text
    by (inl is) = free_at text 60 n.others (n.is ∙ ap (λ c. c ∷ n.others) is) refl refl
    by (inr is) = free_at text 95 n.others (n.is ∙ ap (λ c. c ∷ n.others) is) refl refl

graph_free : (scanned : FollowRules) → (document : ℕ) (text rest after : List ℕ) (graph : Option Term) → IsGraph document text rest graph → Stands IsDot rest after tt → IsFree text
graph_free scanned document text rest after None same dot =
    free_at text 46 after (dot_behind text after (subst (λ t. Stands IsDot t after tt) same dot)) refl refl
graph_free scanned document text rest after (Some term) s dot =
    let here = stands_behind (node document) (IsNode document) (node_reads scanned document) (node_starts scanned document) text rest term s in
    node_free text (subst Node (sym here) (node_first document s.part rest term s.is))

not_end : (text : List ℕ) → Node text → is_end text ≡ false
unfolding is_end
not_end text n = rw n.is (by n.kind)
  where
    by : (n.first ≡ 60) ⊎ (n.first ≡ 95) → ((n.first == 35) && is_utf8 n.others) ≡ false
    by (inl is) = rw is refl
    by (inr is) = rw is refl

-- ---- all parts

pub object_stands : (scanned : FollowRules) → (document : ℕ) (text rest : List ℕ) (term : Term) → object document (behind_blanks text) ≡ term_of term rest
    → Stands (IsObject document) text rest term
object_stands scanned document text rest term is =
    let p = object_sound scanned document (behind_blanks text) rest term is in
    record {
      blanks = take (prefix_len is_blank text) text;
      part = p.0;
      are_blanks = all_run is_blank text;
      text_is = blanks_split text ∙ ap (λ ys. take (prefix_len is_blank text) text ++ ys) p.1.0;
      is = p.1.1;
    }

object_finds : (scanned : FollowRules) → (document : ℕ) (text rest : List ℕ) (term : Term) → IsFree rest → Stands (IsObject document) text rest term
    → object document (behind_blanks text) ≡ term_of term rest
object_finds scanned document text rest term free s =
    let here : behind_blanks text ≡ s.part ++ rest
    = ap behind_blanks s.text_is ∙ behind_onto s.blanks (s.part ++ rest) s.are_blanks (object_starts scanned document s.part rest term s.is) in
    ap (object document) here ∙ object_full scanned document s.part rest term free s.is

-- the parts of a quad, each where it stands
abbrev pub parts_at : (line after_subject after_predicate after_object : List ℕ) → Quad → Parts
parts_at line after_subject after_predicate after_object quad = record {
  subject = at_place quad.triple.subject line;
  predicate = at_place quad.triple.predicate after_subject;
  object = at_place quad.triple.object after_predicate;
  graph = graph_at after_object quad.graph;
}

pub record PartsRead (document : ℕ) (line : List ℕ) (parts : Parts) : Type 0 where
  pub statement : IsStatement document line (quad_of parts)
  pub place : parts ≡ parts_at line statement.after_subject statement.after_predicate statement.after_object (quad_of parts)

abbrev pub given : Part → Part → Part → Option Part → Parts
given s p o g = record { subject = s; predicate = p; object = o; graph = g }

abbrev pub last_step : Part → Part → Part → Option Part → Bool → Result Parts ℕ
last_step s p o g _ = Ok (given s p o g)

abbrev pub graph_step : ℕ → Part → Part → Part × List ℕ → Result Parts ℕ
graph_step document s p o =
    onward (closes (optional_part (node document) o.1).1) (last_step s p o.0 (optional_part (node document) o.1).0)

abbrev pub object_step : ℕ → Part → Part × List ℕ → Result Parts ℕ
object_step document s p = onward (part_of (object document) p.1) (graph_step document s p.0)

abbrev pub predicate_step : ℕ → Part × List ℕ → Result Parts ℕ
predicate_step document s = onward (part_of iri_term s.1) (object_step document s.0)

abbrev pub all_read : Parts → Result Parts ℕ
all_read parts = Ok parts

ok_same : (a b : Parts) → all_read a ≡ all_read b → a ≡ b
ok_same a b h = cc

pub parts_found : (scanned : FollowRules) → (document : ℕ) (line : List ℕ) (parts : Parts) → parts_of document line ≡ Ok parts → PartsRead document line parts
unfolding parts_of
parts_found scanned document line parts is = by_subject (part_of (node document) line) refl is
  where
    by_end : (s p o : Part × List ℕ) → part_of (node document) line ≡ Ok s → part_of iri_term s.1 ≡ Ok p → part_of (object document) p.1 ≡ Ok o
        → (r : Result Bool ℕ) → closes (optional_part (node document) o.1).1 ≡ r
        → onward r (last_step s.0 p.0 o.0 (optional_part (node document) o.1).0) ≡ Ok parts → PartsRead document line parts
    by_end s p o hs hp ho (Err left) hc is = absurd (cc)
    by_end s p o hs hp ho (Ok b) hc is =
        let same = ok_same (given s.0 p.0 o.0 (optional_part (node document) o.1).0) parts is in
        let c = closed_found (optional_part (node document) o.1).1 b hc in
        let fs = part_found (node document) line s.1 s.0 hs in
        let fp = part_found iri_term s.1 p.1 p.0 hp in
        let fo = part_found (object document) p.1 o.1 o.0 ho in
        let fg = graph_placed document o.1 (node document (behind_blanks o.1)) in
        subst (PartsRead document line) same
        (record {
          statement = record {
            after_subject = s.1;
            after_predicate = p.1;
            after_object = o.1;
            after_graph = (optional_part (node document) o.1).1;
            after_dot = c.rest;
            subject = stands_sound (node document) (IsNode document) (node_reads scanned document) line s.1 s.0.term fs.read;
            predicate = stands_sound iri_term IsIriTerm (iri_term_reads scanned) s.1 p.1 p.0.term fp.read;
            object = object_stands scanned document p.1 o.1 o.0.term fo.read;
            graph = graph_found scanned document o.1;
            dot = c.dot;
            ends = c.ends;
          };
          place = λ i. given (fs.place i) (fp.place i) (fo.place i) (fg i);
        })

    by_object : (s p : Part × List ℕ) → part_of (node document) line ≡ Ok s → part_of iri_term s.1 ≡ Ok p
        → (r : Result (Part × List ℕ) ℕ) → part_of (object document) p.1 ≡ r → onward r (graph_step document s.0 p.0) ≡ Ok parts → PartsRead document line parts
    by_object s p hs hp (Err left) ho is = absurd (cc)
    by_object s p hs hp (Ok o) ho is = by_end s p o hs hp ho (closes (optional_part (node document) o.1).1) refl is

    by_predicate : (s : Part × List ℕ) → part_of (node document) line ≡ Ok s
        → (r : Result (Part × List ℕ) ℕ) → part_of iri_term s.1 ≡ r → onward r (object_step document s.0) ≡ Ok parts → PartsRead document line parts
    by_predicate s hs (Err left) hp is = absurd (cc)
    by_predicate s hs (Ok p) hp is = by_object s p hs hp (part_of (object document) p.1) refl is

    by_subject : (r : Result (Part × List ℕ) ℕ) → part_of (node document) line ≡ r → onward r (predicate_step document) ≡ Ok parts → PartsRead document line parts
    by_subject (Err left) hs is = absurd (cc)
    by_subject (Ok s) hs is = by_predicate s hs (part_of iri_term s.1) refl is

pub parts_given : (scanned : FollowRules) → (document : ℕ) (line : List ℕ) (quad : Quad) → (h : IsStatement document line quad)
    → parts_of document line ≡ all_read (parts_at line h.after_subject h.after_predicate h.after_object quad)
unfolding parts_of
parts_given scanned document line quad h =
    let free = graph_free scanned document h.after_object h.after_graph h.after_dot quad.graph h.graph h.dot in
    let s = part_finds (node document) line h.after_subject quad.triple.subject
    (stands_full (node document) (IsNode document) (node_reads scanned document) (node_starts scanned document) line h.after_subject quad.triple.subject h.subject) in
    let p = part_finds iri_term h.after_subject h.after_predicate quad.triple.predicate
    (stands_full iri_term IsIriTerm (iri_term_reads scanned) iri_term_starts h.after_subject h.after_predicate quad.triple.predicate h.predicate) in
    let o = part_finds (object document) h.after_predicate h.after_object quad.triple.object
    (object_finds scanned document h.after_predicate h.after_object quad.triple.object free h.object) in
    let g = graph_finds scanned document h.after_object h.after_graph h.after_dot quad.graph h.graph h.dot in
    let c = closed_finds h.after_graph h.after_dot h.dot h.ends in
    rw (s, p, o, g, c) refl

pub quad_again : (line after_subject after_predicate after_object : List ℕ) (quad : Quad)
    → quad_of (parts_at line after_subject after_predicate after_object quad) ≡ quad
quad_again line after_subject after_predicate after_object quad = λ i. record {
  triple = quad.triple;
  graph = graph_again after_object quad.graph i;
}

-- ---- relative IRIs

find_map : {X Y : Type 0} (p : Y → Bool) (f : X → Y) (xs : List X) → find p (map f xs) ≡ option_map f (find (λ x. p (f x)) xs)
find_map p f [] = refl
find_map p f (x ∷ xs) = by (p (f x)) (find_map p f xs)
  where
    by : (b : Bool) → find p (map f xs) ≡ option_map f (find (λ y. p (f y)) xs)
        → cond b (Some (f x)) (find p (map f xs)) ≡ option_map f (cond b (Some x) (find (λ y. p (f y)) xs))
    by true more = refl
    by false more = more

abbrev pub placed : List ℕ × Term → Part
placed x = at_place x.1 x.0

abbrev pub holds_relative : List ℕ × Term → Bool
holds_relative x = is_relative x.1

relative_at : (s p o : Term) (g : Option Term) (a b c d : List ℕ)
    → find (λ part. is_relative part.term) (at_place s a ∷ at_place p b ∷ at_place o c ∷ cons_option (graph_at d g) [])
    ≡ option_map placed (find holds_relative ((a, s) ∷ (b, p) ∷ (c, o) ∷ cons_option (option_map (λ name. (d, name)) g) []))
relative_at s p o None a b c d = find_map (λ (part : Part). is_relative part.term) placed ((a, s) ∷ (b, p) ∷ (c, o) ∷ [])
relative_at s p o (Some name) a b c d =
    find_map (λ (part : Part). is_relative part.term) placed ((a, s) ∷ (b, p) ∷ (c, o) ∷ (d, name) ∷ [])

-- the first part that holds a relative IRI, by the terms
pub first_in : (quad : Quad) (a b c d : List ℕ)
    → first_relative (parts_at a b c d quad) ≡ option_map placed (find holds_relative (terms_in a b c d quad))
first_in quad a b c d = relative_at quad.triple.subject quad.triple.predicate quad.triple.object quad.graph a b c d

any_found : {X : Type 0} (p : X → Bool) (xs : List X) → find p xs ≡ None → list_any p xs ≡ false
any_found p [] h = refl
any_found p (x ∷ xs) h = by (p x) refl h (any_found p xs)
  where
    by : (b : Bool) → p x ≡ b → cond b (Some x) (find p xs) ≡ None → (find p xs ≡ None → list_any p xs ≡ false) → (b || list_any p xs) ≡ false
    by true is h more = absurd (cc)
    by false is h more = more h

none_finds : {X : Type 0} (p : X → Bool) (xs : List X) → list_any p xs ≡ false → find p xs ≡ None
none_finds p [] h = refl
none_finds p (x ∷ xs) h = by (p x) h (none_finds p xs)
  where
    by : (b : Bool) → (b || list_any p xs) ≡ false → (list_any p xs ≡ false → find p xs ≡ None) → cond b (Some x) (find p xs) ≡ None
    by true h more = absurd (true≢false h)
    by false h more = more h

any_same : (a b c d : List ℕ) (s p o : Term) (g : Option Term)
    → list_any holds_relative ((a, s) ∷ (b, p) ∷ (c, o) ∷ cons_option (option_map (λ name. (d, name)) g) [])
    ≡ list_any is_relative (s ∷ p ∷ o ∷ cons_option g [])
any_same a b c d s p o None = refl
any_same a b c d s p o (Some name) = refl

any_in : (a b c d : List ℕ) (quad : Quad) → list_any holds_relative (terms_in a b c d quad) ≡ list_any is_relative (terms_of quad)
any_in a b c d quad = any_same a b c d quad.triple.subject quad.triple.predicate quad.triple.object quad.graph

pub absolute_found : (a b c d : List ℕ) (quad : Quad) → find holds_relative (terms_in a b c d quad) ≡ None → list_any is_relative (terms_of quad) ≡ false
absolute_found a b c d quad h = sym (any_in a b c d quad) ∙ any_found holds_relative (terms_in a b c d quad) h

absolute_finds : (a b c d : List ℕ) (quad : Quad) → list_any is_relative (terms_of quad) ≡ false → find holds_relative (terms_in a b c d quad) ≡ None
absolute_finds a b c d quad h = none_finds holds_relative (terms_in a b c d quad) (any_in a b c d quad ∙ h)

-- ---- lines

pub statement_same : (a b : Quad) → statement a ≡ statement b → a ≡ b
statement_same a b h = cc

-- what is said of a statement, by its first term with a relative IRI
abbrev pub judged_by : List ℕ → Quad → Option (List ℕ × Term) → Answer
judged_by line quad found = option_map_or (λ x. relative_iri (column line (length (behind_blanks x.0)))) found (statement quad)

judged_placed : (line : List ℕ) (quad : Quad) (found : Option (List ℕ × Term))
    → option_map_or (λ part. relative_iri (column line part.left)) (option_map placed found) (statement quad) ≡ judged_by line quad found
judged_placed line quad None = refl
judged_placed line quad (Some x) = refl

pub judged_in : (line : List ℕ) (quad : Quad) (a b c d : List ℕ)
    → judged line (parts_at a b c d quad) ≡ judged_by line quad (find holds_relative (terms_in a b c d quad))
judged_in line quad a b c d =
    ap (λ found. option_map_or (λ part. relative_iri (column line part.left)) found (statement (quad_of (parts_at a b c d quad)))) (first_in quad a b c d)
    ∙ (ap (λ q. option_map_or (λ part. relative_iri (column line part.left)) (option_map placed (find holds_relative (terms_in a b c d quad))) (statement q))
    (quad_again a b c d quad)
    ∙ judged_placed line quad (find holds_relative (terms_in a b c d quad)))

-- a line that isn't blank and no comment
pub answer_at : (document : ℕ) (line : List ℕ) → is_end (behind_blanks line) ≡ false → statement_of document line ≡ answer line (parts_of document line)
unfolding statement_of
answer_at document line end = rw end refl

pub nothing_at : (document : ℕ) (line : List ℕ) → is_end (behind_blanks line) ≡ true → statement_of document line ≡ nothing
unfolding statement_of
nothing_at document line end = rw end refl

pub statement_goes_on : (scanned : FollowRules) → (document : ℕ) (line : List ℕ) (quad : Quad) → IsStatement document line quad → is_end (behind_blanks line) ≡ false
statement_goes_on scanned document line quad h =
    let here = stands_behind (node document) (IsNode document) (node_reads scanned document) (node_starts scanned document) line h.after_subject quad.triple.subject h.subject in
    not_end (behind_blanks line) (subst Node (sym here) (node_first document h.subject.part h.after_subject quad.triple.subject h.subject.is))

-- the answer to a statement
pub statement_answer : (scanned : FollowRules) → (document : ℕ) (line : List ℕ) (quad : Quad) (h : IsStatement document line quad)
    → statement_of document line
    ≡ judged_by line quad (find holds_relative (terms_in line h.after_subject h.after_predicate h.after_object quad))
statement_answer scanned document line quad h =
    answer_at document line (statement_goes_on scanned document line quad h)
    ∙ (ap (answer line) (parts_given scanned document line quad h) ∙ judged_in line quad line h.after_subject h.after_predicate h.after_object)

-- a line is blank or a comment, has a first fault, or is a statement
pub data Reading (document : ℕ) (line : List ℕ) : Type 0 where
  blank : is_end (behind_blanks line) ≡ true → Reading document line
  fault : (left : ℕ) → is_end (behind_blanks line) ≡ false → parts_of document line ≡ Err left → Reading document line
  whole : (quad : Quad) → IsStatement document line quad → Reading document line

pub reading : (scanned : FollowRules) → (document : ℕ) (line : List ℕ) → Reading document line
reading scanned document line = by (is_end (behind_blanks line)) refl (parts_of document line) refl
  where
    by : (b : Bool) → is_end (behind_blanks line) ≡ b → (r : Result Parts ℕ) → parts_of document line ≡ r → Reading document line
    by true end r read = blank end
    by false end (Err left) read = fault left end read
    by false end (Ok parts) read = whole (quad_of parts) (parts_found scanned document line parts read).statement

pub says_to : (scanned : FollowRules) → (document : ℕ) (line : List ℕ) (quad : Quad) → Says document line quad → statement_of document line ≡ statement quad
says_to scanned document line quad h =
    let s = h.statement in
    statement_answer scanned document line quad s
    ∙ ap (judged_by line quad) (absolute_finds line s.after_subject s.after_predicate s.after_object quad h.absolute)

pub says_from : (scanned : FollowRules) → (document : ℕ) (line : List ℕ) (quad : Quad) → statement_of document line ≡ statement quad → Says document line quad
says_from scanned document line quad is = by (reading scanned document line)
  where
    by_found : (q : Quad) (s : IsStatement document line q) (o : Option (List ℕ × Term))
        → find holds_relative (terms_in line s.after_subject s.after_predicate s.after_object q) ≡ o → judged_by line q o ≡ statement quad
        → Says document line quad
    by_found q s (Some x) found said = absurd (cc)
    by_found q s None found said =
        subst (Says document line) (statement_same q quad said)
        (record { statement = s; absolute = absolute_found line s.after_subject s.after_predicate s.after_object q found })

    by : Reading document line → Says document line quad
    by (blank end) = absurd (let said = sym (nothing_at document line end) ∙ is in cc)
    by (fault left end read) = absurd (let said = sym (answer_at document line end ∙ ap (answer line) read) ∙ is in cc)
    by (whole q s) =
        by_found q s (find holds_relative (terms_in line s.after_subject s.after_predicate s.after_object q)) refl
        (sym (statement_answer scanned document line q s) ∙ is)

pub nothing_from : (scanned : FollowRules) → (document : ℕ) (line : List ℕ) → statement_of document line ≡ nothing → SaysNothing line
nothing_from scanned document line is = by (reading scanned document line)
  where
    by_found : (q : Quad) (o : Option (List ℕ × Term)) → judged_by line q o ≡ nothing → SaysNothing line
    by_found q (Some x) said = absurd (cc)
    by_found q None said = absurd (cc)

    by : Reading document line → SaysNothing line
    by (blank end) = end_found line end
    by (fault left end read) = absurd (let said = sym (answer_at document line end ∙ ap (answer line) read) ∙ is in cc)
    by (whole q s) =
        by_found q (find holds_relative (terms_in line s.after_subject s.after_predicate s.after_object q)) (sym (statement_answer scanned document line q s) ∙ is)

pub nothing_to : (document : ℕ) (line : List ℕ) → SaysNothing line → statement_of document line ≡ nothing
nothing_to document line h = nothing_at document line (end_finds line h)
