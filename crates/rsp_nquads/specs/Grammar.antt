-- Definitions: the grammar of a line (RDF 1.1 N-Quads, section 4): which lines say which quad, which say nothing, and
-- where each other line has its first fault.
use Rattle.std.specs.Prelude.{◌≡◌, ℕ, ◌+◌, ◌≤◌, Bool, true, false, not, ◌⊎◌, ⊤, List, [], ◌∷◌, ◌++◌, length, codes, Option}
use Rattle.std.specs.Prelude.{None, Some}
use Rattle.std.specs.List.{list_all, list_any, find, cons_option}
use Rattle.std.specs.Option.{option_map}
use Rattle.std.specs.Str.{IsUtf8}
use Rattle.rsp_text.specs.Fronts.{is_blank, behind_blanks}
use Rattle.rsp_terms.specs.declared.term.Term.{Term}
use Rattle.rsp_terms.specs.declared.term.Term.TheVariants.{Iri, Blank, Literal, Tagged}
use Rattle.rsp_terms.specs.declared.statement.Quad.{Quad}
use Rattle.rsp_terms.specs.Terms.{xsd_string}
use Rattle.rsp_terms.specs.Characters.{is_absolute}
use Rattle.rsp_scan.specs.Enclosed.{Rule, IsIri, IsString}
use Rattle.rsp_scan.specs.Names.{IsLabel, IsTag}

-- a field that is an IRIREF, and its IRI is absolute (RFC 3986, section 4.3)
abbrev pub IsAbsoluteIri : List ℕ → List ℕ → Type 0
IsAbsoluteIri field name = IsIri field [] name × (is_absolute name ≡ true)

-- ---- literals

-- the rule's part stands in a text, behind blanks and before the rest
pub record Stands {A : Type 0} (rule : Rule A) (text rest : List ℕ) (value : A) : Type 0 where
  pub blanks : List ℕ
  pub part : List ℕ
  pub are_blanks : list_all is_blank blanks ≡ true
  pub text_is : text ≡ blanks ++ (part ++ rest)
  pub is : rule part rest value

-- `^^` and an IRI
pub record IsDatatype (part rest name : List ℕ) : Type 0 where
  pub behind : List ℕ
  pub part_is : part ≡ codes "^^" ++ behind
  pub name_is : Stands IsIri (behind ++ rest) rest name

-- a string, and its datatype or tag
pub record IsQualified (qualifier : Rule (List ℕ)) (part rest lexical name : List ℕ) : Type 0 where
  pub string : List ℕ
  pub behind : List ℕ
  pub part_is : part ≡ string ++ behind
  pub is_string : IsString string (behind ++ rest) lexical
  pub name_is : Stands qualifier (behind ++ rest) rest name

-- literal ::= STRING_LITERAL_QUOTE ('^^' IRIREF | LANGTAG)?
abbrev pub IsLiteral : Rule Term
IsLiteral part rest (Literal lexical name) =
    IsQualified IsDatatype part rest lexical name ⊎ ((name ≡ xsd_string) × IsString part rest lexical)
IsLiteral part rest (Tagged lexical language) = IsQualified IsTag part rest lexical language
IsLiteral part rest _ = ⊥

-- ---- terms of a statement

abbrev pub IsIriTerm : Rule Term
IsIriTerm part rest (Iri name) = IsIri part rest name
IsIriTerm part rest _ = ⊥

-- subject and graph ::= IRIREF | BLANK_NODE_LABEL
abbrev pub IsNode : ℕ → Rule Term
IsNode document part rest (Iri name) = IsIri part rest name
IsNode document part rest (Blank number name) = (number ≡ document) × IsLabel part rest name
IsNode document part rest _ = ⊥

-- object ::= IRIREF | BLANK_NODE_LABEL | literal
abbrev pub IsObject : ℕ → Rule Term
IsObject document part rest term = IsNode document part rest term ⊎ IsLiteral part rest term

abbrev pub IsGraph : ℕ → List ℕ → List ℕ → Option Term → Type 0
IsGraph document text rest None = rest ≡ text
IsGraph document text rest (Some name) = Stands (IsNode document) text rest name

abbrev pub IsDot : Rule ⊤
IsDot part rest _ = part ≡ codes "."

-- blanks to the end of the line, or to a comment
pub record IsEnd (text : List ℕ) : Type 0 where
  pub blanks : List ℕ
  pub comment : List ℕ
  pub are_blanks : list_all is_blank blanks ≡ true
  pub text_is : text ≡ blanks ++ comment
  pub is_comment : (comment ≡ []) ⊎ ((characters : List ℕ) × (comment ≡ codes "#" ++ characters) × IsUtf8 characters)

-- ---- lines

-- a line that says nothing: blank, or a comment
abbrev pub SaysNothing : List ℕ → Type 0
SaysNothing line = IsEnd line

-- statement ::= subject predicate object graphLabel? '.'
pub record IsStatement (document : ℕ) (line : List ℕ) (quad : Quad) : Type 0 where
  pub after_subject : List ℕ
  pub after_predicate : List ℕ
  pub after_object : List ℕ
  pub after_graph : List ℕ
  pub after_dot : List ℕ
  pub subject : Stands (IsNode document) line after_subject quad.triple.subject
  pub predicate : Stands IsIriTerm after_subject after_predicate quad.triple.predicate
  pub object : Stands (IsObject document) after_predicate after_object quad.triple.object
  pub graph : IsGraph document after_object after_graph quad.graph
  pub dot : Stands IsDot after_graph after_dot tt
  pub ends : IsEnd after_dot

-- the term holds an IRI that isn't absolute (RFC 3986, section 4.3): a scheme is ASCII, so bytes tell it
abbrev pub is_relative : Term → Bool
is_relative (Iri name) = not (is_absolute name)
is_relative (Literal lexical name) = not (is_absolute name)
is_relative _ = false

abbrev pub terms_of : Quad → List Term
terms_of quad = quad.triple.subject ∷ quad.triple.predicate ∷ quad.triple.object ∷ cons_option quad.graph []

-- the line is a statement, and each of its IRIs is absolute
pub record Says (document : ℕ) (line : List ℕ) (quad : Quad) : Type 0 where
  pub statement : IsStatement document line quad
  pub absolute : list_any is_relative (terms_of quad) ≡ false

-- ---- faults

-- the text begins, behind blanks, at this column of the line that it ends; columns count bytes from 1
pub record IsAtColumn (line text : List ℕ) (column : ℕ) : Type 0 where
  pub before : List ℕ
  pub line_is : line ≡ before ++ behind_blanks text
  pub column_is : column ≡ length before + 1

-- no part of the rule stands in the text, behind blanks
abbrev pub StandsNowhere : {A : Type 0} → Rule A → List ℕ → Type 0
StandsNowhere {A} rule text = (rest : List ℕ) (value : A) → ¬ (Stands rule text rest value)

-- the longest part of the rule that stands there: a literal and its datatype or tag are one part
pub record IsLongestPart {A : Type 0} (rule : Rule A) (text rest : List ℕ) (value : A) : Type 0 where
  pub stands : Stands rule text rest value
  pub longest : (other : List ℕ) (another : A) → Stands rule text other another → length rest ≤ length other

-- what is left of a text at its fault
abbrev pub Fault : Type 1
Fault = List ℕ → List ℕ → Type 0

abbrev pub FaultHere : Fault
FaultHere text left = left ≡ text

-- where a part of the rule may stand: the fault comes behind the longest, or no such part stands, and it comes without
abbrev pub FaultIn : {A : Type 0} → Rule A → Fault → Fault → Fault
FaultIn {A} rule without behind text left =
    (StandsNowhere rule text × without text left)
    ⊎ ((rest : List ℕ) × (value : A) × IsLongestPart rule text rest value × behind rest left)

abbrev pub FaultAtEnd : Fault
FaultAtEnd text left = ¬ (IsEnd text) × FaultHere text left

abbrev pub FaultFromDot : Fault
FaultFromDot = FaultIn IsDot FaultHere FaultAtEnd

-- subject, predicate, object, and a graph where one stands
abbrev pub FaultFromSubject : ℕ → Fault
FaultFromSubject document =
    FaultIn (IsNode document) FaultHere (FaultIn IsIriTerm FaultHere (FaultIn (IsObject document) FaultHere
    (FaultIn (IsNode document) FaultFromDot FaultFromDot)))

-- a line that isn't a statement: parts stand in it, in order, up to this column, and there no wanted part stands
pub record IsFirstFault (document : ℕ) (line : List ℕ) (column : ℕ) : Type 0 where
  pub says_something : ¬ (SaysNothing line)
  pub left : List ℕ
  pub fault : FaultFromSubject document line left
  pub column_is : IsAtColumn line left column

-- the terms of a statement, each beside the text in which it stands, behind blanks
abbrev pub terms_in : (line after_subject after_predicate after_object : List ℕ) → Quad → List (List ℕ × Term)
terms_in line after_subject after_predicate after_object quad =
    (line, quad.triple.subject) ∷ (after_subject, quad.triple.predicate) ∷ (after_predicate, quad.triple.object)
    ∷ cons_option (option_map (λ name. (after_object, name)) quad.graph) []

-- a line that is a statement: its first term that holds a relative IRI stands at this column
pub record IsFirstRelative (document : ℕ) (line : List ℕ) (column : ℕ) : Type 0 where
  pub quad : Quad
  pub statement : IsStatement document line quad
  pub text : List ℕ
  pub term : Term
  pub first : find (λ x. is_relative x.1)
      (terms_in line statement.after_subject statement.after_predicate statement.after_object quad)
      ≡ Some (text, term)
  pub column_is : IsAtColumn line text column
