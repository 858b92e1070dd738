-- The first fault of a line, by the grammar: what is left where reading halts.
use Rattle.std.proofs.Common.{◌≡◌, ℕ, Bool, true, false, true≢false, List, [], ◌∷◌, ◌++◌, length, take, refl, sym, ap, subst, ◌∙◌, arith, append_assoc, length-append, Option, Some, None, Result, Ok, Err, if◌then◌else◌}
use mathlib.Core.Logic.{inl, inr}
use Rattle.std.specs.List.{prefix_len}
use Rattle.std.specs.Option.{option_map_or}
use Rattle.rsp_terms.specs.declared.term.Term.{Term}
use Rattle.rsp_nquads.specs.declared.statements.Part.{Part}
use Rattle.rsp_text.specs.Fronts.{is_blank, behind_blanks}
use Rattle.rsp_scan.specs.Enclosed.{Rule, sign}
use Rattle.rsp_nquads.specs.Grammar.{Stands, IsIriTerm, IsNode, IsObject, IsDot, StandsNowhere, IsLongestPart, Fault, FaultHere, FaultIn, FaultAtEnd, FaultFromDot, FaultFromSubject, IsAtColumn}
use Rattle.rsp_nquads.specs.Faults.{FaultFromGraph, FaultFromObject, FaultFromPredicate}
use Rattle.rsp_scan.specs.Readers.{PartReader}
use Rattle.rsp_nquads.specs.Parts.{iri_term, node, object}
use Rattle.rsp_nquads.specs.Statements.{part_of, optional_part, is_end, ends, closes, onward, parts_of, column}
use Rattle.rsp_scan.specs.Following.{Reads, FollowRules}
use Rattle.rsp_nquads.proofs.TermLaws.{blanks_split, behind_onto, StartsWell, stands_sound, stands_full, node_reads, node_starts, object_less, object_starts, iri_term_reads, iri_term_starts}
use Rattle.rsp_nquads.proofs.StatementLaws.{at_place, dot_stands, dot_behind, end_found, end_finds, object_stands, graph_read, predicate_step, object_step, graph_step, last_step}

abbrev term_of : Term → List ℕ → Option (Term × List ℕ)
term_of term rest = Some (term, rest)

rest_same : (a b : Term) (xs ys : List ℕ) → term_of a xs ≡ term_of b ys → xs ≡ ys
rest_same a b xs ys is = let same : ◌≡◌ {A = Term × List ℕ} (a, xs) (b, ys) = cc in ap (λ (y : Term × List ℕ). y.1) same

-- ---- what is left behind the longest part

append_same : (a b xs ys : List ℕ) → a ++ xs ≡ b ++ ys → length xs ≡ length ys → xs ≡ ys
append_same [] [] xs ys is size = is
append_same [] (y ∷ b) xs ys is size =
    let all = ap length is in let more = length-append b ys in absurd (omega arith)
append_same (x ∷ a) [] xs ys is size =
    let all = ap length is in let more = length-append a xs in absurd (omega arith)
append_same (x ∷ a) (y ∷ b) xs ys is size = append_same a b xs ys (let tails : a ++ xs ≡ b ++ ys = cc in tails) size

longest_same : {A : Type 0} (rule : Rule A) (text xs ys : List ℕ) (v w : A) → IsLongestPart rule text xs v → IsLongestPart rule text ys w → xs ≡ ys
longest_same rule text xs ys v w p q =
    let one = p.longest ys w q.stands in
    let two = q.longest xs v p.stands in
    let s = p.stands in
    let t = q.stands in
    append_same (s.blanks ++ s.part) (t.blanks ++ t.part) xs ys
    (append_assoc s.blanks s.part xs ∙ (sym s.text_is ∙ (t.text_is ∙ sym (append_assoc t.blanks t.part ys)))) (omega arith)

-- what a reader finds is the longest part, and it finds none only where none stands
record Finds (reader : PartReader Term) (rule : Rule Term) : Type 0 where
  none : (text : List ℕ) → reader (behind_blanks text) ≡ None → StandsNowhere rule text
  longest : (text rest : List ℕ) (term : Term) → reader (behind_blanks text) ≡ term_of term rest → IsLongestPart rule text rest term

found_by : (reader : PartReader Term) (rule : Rule Term) → Reads reader rule → StartsWell rule → Finds reader rule
found_by reader rule h starts = record {
  none = λ text is rest term s. let read = stands_full reader rule h starts text rest term s in absurd (cc);
  longest = λ text rest term is. record {
    stands = stands_sound reader rule h text rest term is;
    longest = λ other another s.
        let same = rest_same term another rest other (sym is ∙ stands_full reader rule h starts text other another s) in
        let size = ap length same in
        omega arith;
  };
}

module _ (scanned : FollowRules) (document : ℕ) where
  object_here : (text rest : List ℕ) (term : Term) → (s : Stands (IsObject document) text rest term) → behind_blanks text ≡ s.part ++ rest
  object_here text rest term s =
      ap behind_blanks s.text_is ∙ behind_onto s.blanks (s.part ++ rest) s.are_blanks (object_starts scanned document s.part rest term s.is)

  object_found : Finds (object document) (IsObject document)
  object_found = record {
    none = λ text is rest term s.
        let read = object_less scanned document s.part rest term s.is in
        let some = ap (object document) (object_here text rest term s) ∙ read.is in
        absurd (cc);
    longest = λ text rest term is. record {
      stands = object_stands scanned document text rest term is;
      longest = λ other another s.
          let read = object_less scanned document s.part other another s.is in
          let same = rest_same term read.term rest read.behind (sym is ∙ (ap (object document) (object_here text other another s) ∙ read.is)) in
          let size = ap length same in
          let less = read.less in
          omega arith;
    };
  }

-- ---- one part

-- a fault with so many bytes left, behind blanks
pub record LeftAt (fault : Fault) (text : List ℕ) (n : ℕ) : Type 0 where
  pub left : List ℕ
  pub is : fault text left
  pub size : n ≡ length (behind_blanks left)

abbrev pub halt : {A : Type 0} → ℕ → Result A ℕ
halt n = Err n

halt_same : {A : Type 0} (m n : ℕ) → halt {A = A} m ≡ halt n → m ≡ n
halt_same m n is = cc

module _ {B : Type 0} (reader : PartReader Term) (rule : Rule Term) (h : Finds reader rule) (next : Part × List ℕ → Result B ℕ) (behind : Fault) where
  part_halts : ((x : Part × List ℕ) (n : ℕ) → next x ≡ halt n → LeftAt behind x.1 n) → (text : List ℕ) (n : ℕ)
      → onward (part_of reader text) next ≡ halt n → LeftAt (FaultIn rule FaultHere behind) text n
  part_halts later text n is = by (reader (behind_blanks text)) refl is
    where
      by : (o : Option (Term × List ℕ)) → reader (behind_blanks text) ≡ o
          → onward (option_map_or (λ x. Ok (at_place x.0 text, x.1)) o (Err (length (behind_blanks text)))) next ≡ halt n
          → LeftAt (FaultIn rule FaultHere behind) text n
      by None read is = record { left = text; is = inl (h.none text read, refl); size = sym (halt_same (length (behind_blanks text)) n is) }
      by (Some x) read is =
          let more = later (at_place x.0 text, x.1) n is in
          record { left = more.left; is = inr (x.1, x.0, h.longest text x.1 x.0 read, more.is); size = more.size }

  fault_halts : ((x : Part × List ℕ) (left : List ℕ) → behind x.1 left → next x ≡ halt (length (behind_blanks left))) → (text left : List ℕ)
      → FaultIn rule FaultHere behind text left → onward (part_of reader text) next ≡ halt (length (behind_blanks left))
  fault_halts later text left (inl e) = by (reader (behind_blanks text)) refl
    where
      by : (o : Option (Term × List ℕ)) → reader (behind_blanks text) ≡ o
          → onward (option_map_or (λ x. Ok (at_place x.0 text, x.1)) o (Err (length (behind_blanks text)))) next ≡ halt (length (behind_blanks left))
      by None read = ap (λ t. halt (length (behind_blanks t))) (sym e.1)
      by (Some x) read = absurd (e.0 x.1 x.0 (h.longest text x.1 x.0 read).stands)
  fault_halts later text left (inr e) = by (reader (behind_blanks text)) refl
    where
      by : (o : Option (Term × List ℕ)) → reader (behind_blanks text) ≡ o
          → onward (option_map_or (λ x. Ok (at_place x.0 text, x.1)) o (Err (length (behind_blanks text)))) next ≡ halt (length (behind_blanks left))
      by None read = absurd (h.none text read e.0 e.1 e.2.stands)
      by (Some x) read =
          let same = longest_same rule text e.0 x.1 e.1 x.0 e.2 (h.longest text x.1 x.0 read) in
          later (at_place x.0 text, x.1) left (subst (λ t. behind t left) same e.3)

-- ---- the dot and the end

dot_nowhere : (text : List ℕ) → sign 46 (behind_blanks text) ≡ None → StandsNowhere IsDot text
unfolding sign
dot_nowhere text none rest v s = let read = sym (ap (sign 46) (dot_behind text rest s)) ∙ none in absurd (cc)

dot_longest : (text rest : List ℕ) → sign 46 (behind_blanks text) ≡ Some rest → IsLongestPart IsDot text rest tt
unfolding sign
dot_longest text rest is = record {
  stands = dot_stands text rest is;
  longest = λ other v s.
      let read : Some other ≡ Some rest = sym (ap (sign 46) (dot_behind text other s)) ∙ is in
      let same : other ≡ rest = cc in
      let size = ap length same in
      omega arith;
}

end_halts : (text : List ℕ) (n : ℕ) → ends text ≡ halt n → LeftAt FaultAtEnd text n
end_halts text n is = by (is_end (behind_blanks text)) refl is
  where
    by : (b : Bool) → is_end (behind_blanks text) ≡ b → (if b then Ok true else Err (length (behind_blanks text))) ≡ halt n → LeftAt FaultAtEnd text n
    by true end is = absurd (cc)
    by false end is = record {
      left = text;
      is = (λ e. true≢false (sym (end_finds text e) ∙ end), refl);
      size = sym (halt_same {A = Bool} (length (behind_blanks text)) n is);
    }

fault_at_end : (text left : List ℕ) → FaultAtEnd text left → ends text ≡ halt (length (behind_blanks left))
fault_at_end text left e = by (is_end (behind_blanks text)) refl
  where
    by : (b : Bool) → is_end (behind_blanks text) ≡ b
        → (if b then Ok true else Err (length (behind_blanks text))) ≡ halt (length (behind_blanks left))
    by true end = absurd (e.0 (end_found text end))
    by false end = ap (λ t. halt (length (behind_blanks t))) (sym e.1)

dot_halts : (text : List ℕ) (n : ℕ) → closes text ≡ halt n → LeftAt FaultFromDot text n
dot_halts text n is = by (sign 46 (behind_blanks text)) refl is
  where
    by : (o : Option (List ℕ)) → sign 46 (behind_blanks text) ≡ o → option_map_or ends o (Err (length (behind_blanks text))) ≡ halt n
        → LeftAt FaultFromDot text n
    by None read is =
        record { left = text; is = inl (dot_nowhere text read, refl); size = sym (halt_same {A = Bool} (length (behind_blanks text)) n is) }
    by (Some rest) read is =
        let more = end_halts rest n is in
        record { left = more.left; is = inr (rest, tt, dot_longest text rest read, more.is); size = more.size }

fault_from_dot : (text left : List ℕ) → FaultFromDot text left → closes text ≡ halt (length (behind_blanks left))
fault_from_dot text left (inl e) = by (sign 46 (behind_blanks text)) refl
  where
    by : (o : Option (List ℕ)) → sign 46 (behind_blanks text) ≡ o
        → option_map_or ends o (Err (length (behind_blanks text))) ≡ halt (length (behind_blanks left))
    by None read = ap (λ t. halt (length (behind_blanks t))) (sym e.1)
    by (Some rest) read = absurd (e.0 rest tt (dot_stands text rest read))
fault_from_dot text left (inr e) = by (sign 46 (behind_blanks text)) refl
  where
    by : (o : Option (List ℕ)) → sign 46 (behind_blanks text) ≡ o
        → option_map_or ends o (Err (length (behind_blanks text))) ≡ halt (length (behind_blanks left))
    by None read = absurd (dot_nowhere text read e.0 e.1 e.2.stands)
    by (Some rest) read =
        let same = longest_same IsDot text e.0 rest e.1 tt e.2 (dot_longest text rest read) in
        fault_at_end rest left (subst (λ t. FaultAtEnd t left) same e.3)

-- ---- all parts

module _ (scanned : FollowRules) (document : ℕ) where
  node_found : Finds (node document) (IsNode document)
  node_found = found_by (node document) (IsNode document) (node_reads scanned document) (node_starts scanned document)

  graph_halts : (text : List ℕ) (n : ℕ) → closes (optional_part (node document) text).1 ≡ halt n → LeftAt (FaultFromGraph document) text n
  graph_halts text n is = by (node document (behind_blanks text)) refl is
    where
      by : (o : Option (Term × List ℕ)) → node document (behind_blanks text) ≡ o → closes (graph_read text o).1 ≡ halt n
          → LeftAt (FaultFromGraph document) text n
      by None read is =
          let more = dot_halts text n is in
          record { left = more.left; is = inl (node_found.none text read, more.is); size = more.size }
      by (Some x) read is =
          let more = dot_halts x.1 n is in
          record { left = more.left; is = inr (x.1, x.0, node_found.longest text x.1 x.0 read, more.is); size = more.size }

  fault_from_graph : (text left : List ℕ) → FaultFromGraph document text left
      → closes (optional_part (node document) text).1 ≡ halt (length (behind_blanks left))
  fault_from_graph text left (inl e) = by (node document (behind_blanks text)) refl
    where
      by : (o : Option (Term × List ℕ)) → node document (behind_blanks text) ≡ o → closes (graph_read text o).1 ≡ halt (length (behind_blanks left))
      by None read = fault_from_dot text left e.1
      by (Some x) read = absurd (e.0 x.1 x.0 (node_found.longest text x.1 x.0 read).stands)
  fault_from_graph text left (inr e) = by (node document (behind_blanks text)) refl
    where
      by : (o : Option (Term × List ℕ)) → node document (behind_blanks text) ≡ o → closes (graph_read text o).1 ≡ halt (length (behind_blanks left))
      by None read = absurd (node_found.none text read e.0 e.1 e.2.stands)
      by (Some x) read =
          let same = longest_same (IsNode document) text e.0 x.1 e.1 x.0 e.2 (node_found.longest text x.1 x.0 read) in
          fault_from_dot x.1 left (subst (λ t. FaultFromDot t left) same e.3)

  last_halts : (r : Result Bool ℕ) (s p o : Part) (g : Option Part) (n : ℕ) → onward r (last_step s p o g) ≡ halt n → r ≡ halt n
  last_halts (Ok b) s p o g n is = absurd (cc)
  last_halts (Err m) s p o g n is = ap (λ k. halt k) (halt_same m n is)

  iri_term_found : Finds iri_term IsIriTerm
  iri_term_found = found_by iri_term IsIriTerm (iri_term_reads scanned) iri_term_starts

  pub halts : (line : List ℕ) (n : ℕ) → parts_of document line ≡ halt n → LeftAt (FaultFromSubject document) line n
  unfolding parts_of
  halts line n is =
      part_halts (node document) (IsNode document) node_found (predicate_step document) (FaultFromPredicate document)
      (λ s k at_s.
      part_halts iri_term IsIriTerm iri_term_found (object_step document s.0) (FaultFromObject document)
      (λ p m at_p.
      part_halts (object document) (IsObject document) (object_found scanned document) (graph_step document s.0 p.0) (FaultFromGraph document)
      (λ o l at_o. graph_halts o.1 l (last_halts (closes (optional_part (node document) o.1).1) s.0 p.0 o.0 (optional_part (node document) o.1).0 l at_o))
      p.1 m at_p)
      s.1 k at_s)
      line n is

  pub faults : (line left : List ℕ) → FaultFromSubject document line left → parts_of document line ≡ halt (length (behind_blanks left))
  unfolding parts_of
  faults line left e =
      fault_halts (node document) (IsNode document) node_found (predicate_step document) (FaultFromPredicate document)
      (λ s t at_s.
      fault_halts iri_term IsIriTerm iri_term_found (object_step document s.0) (FaultFromObject document)
      (λ p u at_p.
      fault_halts (object document) (IsObject document) (object_found scanned document) (graph_step document s.0 p.0) (FaultFromGraph document)
      (λ o v at_o. ap (λ r. onward r (last_step s.0 p.0 o.0 (optional_part (node document) o.1).0)) (fault_from_graph o.1 v at_o))
      p.1 u at_p)
      s.1 t at_s)
      line left e

-- ---- columns

abbrev pub EndsWith : List ℕ → List ℕ → Type 0
EndsWith text left = (front : List ℕ) × (text ≡ front ++ left)

abbrev pub IsWithin : Fault → Type 0
IsWithin fault = (text left : List ℕ) → fault text left → EndsWith text left

pub ends_behind : {A : Type 0} (rule : Rule A) (text rest left : List ℕ) (v : A) → Stands rule text rest v → EndsWith rest left → EndsWith text left
ends_behind rule text rest left v s e = (
  s.blanks ++ (s.part ++ e.0),
  s.text_is ∙ (ap (λ ys. s.blanks ++ (s.part ++ ys)) e.1
      ∙ (ap (λ ys. s.blanks ++ ys) (sym (append_assoc s.part e.0 left)) ∙ sym (append_assoc s.blanks (s.part ++ e.0) left))),
)

here_within : IsWithin FaultHere
here_within text left is = ([], sym is)

fault_within : {A : Type 0} (rule : Rule A) (without behind : Fault) → IsWithin without → IsWithin behind → IsWithin (FaultIn rule without behind)
fault_within rule without behind p q text left (inl e) = p text left e.1
fault_within rule without behind p q text left (inr e) = ends_behind rule text e.0 left e.1 e.2.stands (q e.0 left e.3)

pub subject_within : (document : ℕ) → IsWithin (FaultFromSubject document)
subject_within document =
    let dot = fault_within IsDot FaultHere FaultAtEnd here_within (λ text left e. here_within text left e.1) in
    let graph = fault_within (IsNode document) FaultFromDot FaultFromDot dot dot in
    let object = fault_within (IsObject document) FaultHere (FaultFromGraph document) here_within graph in
    let predicate = fault_within IsIriTerm FaultHere (FaultFromObject document) here_within object in
    fault_within (IsNode document) FaultHere (FaultFromPredicate document) here_within predicate

pub column_at : (line text : List ℕ) → EndsWith line text → IsAtColumn line text (column line (length (behind_blanks text)))
column_at line text e =
    let split : line ≡ (e.0 ++ take (prefix_len is_blank text) text) ++ behind_blanks text
    = e.1 ∙ (ap (λ ys. e.0 ++ ys) (blanks_split text) ∙ sym (append_assoc e.0 (take (prefix_len is_blank text) text) (behind_blanks text))) in
    let size = ap length split ∙ length-append (e.0 ++ take (prefix_len is_blank text) text) (behind_blanks text) in
    record { before = e.0 ++ take (prefix_len is_blank text) text; line_is = split; column_is = omega arith }

pub column_of : (line text : List ℕ) (n : ℕ) → IsAtColumn line text n → column line (length (behind_blanks text)) ≡ n
column_of line text n c =
    let size = ap length c.line_is ∙ length-append c.before (behind_blanks text) in
    let is = c.column_is in
    omega arith
