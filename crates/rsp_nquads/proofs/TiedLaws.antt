-- What a line says, for every line: the answer that is read off it is the grammar's, and no other.
use Rattle.std.proofs.Common.{◌≡◌, ℕ, Bool, true, false, cond, List, [], ◌∷◌, length, refl, sym, ap, subst, ◌∙◌, Option, Some, None, Result, Ok, Err}
use Rattle.std.specs.List.{find, cons_option, AllByRecursion}
use Rattle.std.specs.Option.{option_map}
use Rattle.rsp_terms.specs.declared.term.Term.{Term}
use Rattle.rsp_terms.specs.declared.statement.Quad.{Quad}
use Rattle.rsp_scan.specs.Following.{FollowRules}
use Rattle.rsp_nquads.specs.declared.fault.LineFault.{LineFault}
use Rattle.rsp_nquads.specs.declared.fault.LineFault.TheVariants.{BadStatement, RelativeIri, OutOfMemory}
use Rattle.rsp_text.specs.Fronts.{behind_blanks}
use Rattle.rsp_nquads.specs.Grammar.{IsIriTerm, IsNode, IsObject, IsStatement, terms_in, IsAtColumn, IsFirstFault, IsFirstRelative}
use Rattle.rsp_nquads.specs.Answers.{Answer, nothing, statement, bad_statement, relative_iri, IsTied, IsAnswer, IsByGrammar}
use Rattle.rsp_nquads.specs.Statements.{is_end, column, answer, statement_of}
use Rattle.rsp_nquads.proofs.StatementLaws.{Reading, blank, fault, whole, reading, holds_relative, judged_by, answer_at, nothing_at, statement_answer, statement_same, says_from, says_to, nothing_from, nothing_to}
use Rattle.rsp_nquads.proofs.FaultLaws.{EndsWith, ends_behind, halts, faults, subject_within, column_at, column_of}

bad_same : (m n : ℕ) → bad_statement m ≡ bad_statement n → m ≡ n
bad_same m n is = cc

relative_same : (m n : ℕ) → relative_iri m ≡ relative_iri n → m ≡ n
relative_same m n is = cc

-- ---- the first fault

fault_from : (scanned : FollowRules) → (document : ℕ) (line : List ℕ) (n : ℕ) → statement_of document line ≡ bad_statement n → IsFirstFault document line n
fault_from scanned document line n is = by (reading scanned document line)
  where
    by_found : (q : Quad) (o : Option (List ℕ × Term)) → judged_by line q o ≡ bad_statement n → IsFirstFault document line n
    by_found q (Some x) said = absurd (cc)
    by_found q None said = absurd (cc)

    by : Reading document line → IsFirstFault document line n
    by (blank end) = absurd (let said = sym (nothing_at document line end) ∙ is in cc)
    by (fault left end read) =
        let h = halts scanned document line left read in
        let said = sym (answer_at document line end ∙ ap (answer line) read) ∙ is in
        record {
          says_something = λ blank. let none = sym (nothing_to document line blank) ∙ is in cc;
          left = h.left;
          fault = h.is;
          column_is = subst (IsAtColumn line h.left) (ap (column line) (sym h.size) ∙ bad_same (column line left) n said)
              (column_at line h.left (subject_within document line h.left h.is));
        }
    by (whole q s) =
        by_found q (find holds_relative (terms_in line s.after_subject s.after_predicate s.after_object q)) (sym (statement_answer scanned document line q s) ∙ is)

fault_to : (scanned : FollowRules) → (document : ℕ) (line : List ℕ) (n : ℕ) → IsFirstFault document line n → statement_of document line ≡ bad_statement n
fault_to scanned document line n h = by (is_end (behind_blanks line)) refl
  where
    by : (b : Bool) → is_end (behind_blanks line) ≡ b → statement_of document line ≡ bad_statement n
    by true end = absurd (h.says_something (nothing_from scanned document line (nothing_at document line end)))
    by false end =
        answer_at document line end
        ∙ (ap (answer line) (faults scanned document line h.left h.fault) ∙ ap bad_statement (column_of line h.left n h.column_is))

-- ---- the first relative IRI

found_in : {X : Type 0} (Q : X → Type 0) (p : X → Bool) (xs : List X) (x : X) → AllByRecursion Q xs → find p xs ≡ Some x → Q x
found_in Q p [] x each is = absurd (cc)
found_in Q p (y ∷ ys) x each is = by (p y) is (found_in Q p ys x each.1)
  where
    by : (b : Bool) → cond b (Some y) (find p ys) ≡ Some x → (find p ys ≡ Some x → Q x) → Q x
    by true is more = let same : y ≡ x = cc in subst Q same each.0
    by false is more = more is

-- each term of a statement stands in an end of the line
place_within : (document : ℕ) (line : List ℕ) (quad : Quad) (s : IsStatement document line quad) (x : List ℕ × Term)
    → find holds_relative (terms_in line s.after_subject s.after_predicate s.after_object quad) ≡ Some x → EndsWith line x.0
place_within document line quad s x found = by quad.graph found
  where
    all : EndsWith line line
    all = ([], refl)

    second : EndsWith line s.after_subject
    second = ends_behind (IsNode document) line s.after_subject s.after_subject quad.triple.subject s.subject ([], refl)

    third : EndsWith line s.after_predicate
    third =
        ends_behind (IsNode document) line s.after_subject s.after_predicate quad.triple.subject s.subject
        (ends_behind IsIriTerm s.after_subject s.after_predicate s.after_predicate quad.triple.predicate s.predicate ([], refl))

    fourth : EndsWith line s.after_object
    fourth =
        ends_behind (IsNode document) line s.after_subject s.after_object quad.triple.subject s.subject
        (ends_behind IsIriTerm s.after_subject s.after_predicate s.after_object quad.triple.predicate s.predicate
        (ends_behind (IsObject document) s.after_predicate s.after_object s.after_object quad.triple.object s.object ([], refl)))

    by : (graph : Option Term)
        → find holds_relative ((line, quad.triple.subject) ∷ (s.after_subject, quad.triple.predicate) ∷ (s.after_predicate, quad.triple.object)
        ∷ cons_option (option_map (λ name. (s.after_object, name)) graph) []) ≡ Some x → EndsWith line x.0
    by None is =
        found_in (λ y. EndsWith line y.0) holds_relative
        ((line, quad.triple.subject) ∷ (s.after_subject, quad.triple.predicate) ∷ (s.after_predicate, quad.triple.object) ∷ [])
        x (all, (second, (third, tt))) is
    by (Some name) is =
        found_in (λ y. EndsWith line y.0) holds_relative
        ((line, quad.triple.subject) ∷ (s.after_subject, quad.triple.predicate) ∷ (s.after_predicate, quad.triple.object) ∷ (s.after_object, name) ∷ [])
        x (all, (second, (third, (fourth, tt)))) is

relative_from : (scanned : FollowRules) → (document : ℕ) (line : List ℕ) (n : ℕ) → statement_of document line ≡ relative_iri n → IsFirstRelative document line n
relative_from scanned document line n is = by (reading scanned document line)
  where
    by_found : (q : Quad) (s : IsStatement document line q) (o : Option (List ℕ × Term))
        → find holds_relative (terms_in line s.after_subject s.after_predicate s.after_object q) ≡ o → judged_by line q o ≡ relative_iri n
        → IsFirstRelative document line n
    by_found q s None found said = absurd (cc)
    by_found q s (Some x) found said = record {
      quad = q;
      statement = s;
      text = x.0;
      term = x.1;
      first = found;
      column_is = subst (IsAtColumn line x.0) (relative_same (column line (length (behind_blanks x.0))) n said)
          (column_at line x.0 (place_within document line q s x found));
    }

    by : Reading document line → IsFirstRelative document line n
    by (blank end) = absurd (let said = sym (nothing_at document line end) ∙ is in cc)
    by (fault left end read) = absurd (let said = sym (answer_at document line end ∙ ap (answer line) read) ∙ is in cc)
    by (whole q s) =
        by_found q s (find holds_relative (terms_in line s.after_subject s.after_predicate s.after_object q)) refl
        (sym (statement_answer scanned document line q s) ∙ is)

relative_to : (scanned : FollowRules) → (document : ℕ) (line : List ℕ) (n : ℕ) → IsFirstRelative document line n → statement_of document line ≡ relative_iri n
relative_to scanned document line n h =
    statement_answer scanned document line h.quad h.statement
    ∙ (ap (judged_by line h.quad) h.first ∙ ap relative_iri (column_of line h.text n h.column_is))

-- ---- every line

pub tied : (scanned : FollowRules) → (document : ℕ) (line : List ℕ) → IsTied document line (statement_of document line)
tied scanned document line = record {
  says_nothing = (nothing_from scanned document line, nothing_to document line);
  says = λ quad. (says_from scanned document line quad, says_to scanned document line quad);
  first_fault = λ n. (fault_from scanned document line n, fault_to scanned document line n);
  first_relative = λ n. (relative_from scanned document line n, relative_to scanned document line n);
}

-- ---- what the call answers

only : (scanned : FollowRules) → (document : ℕ) (line : List ℕ) (given : Answer) → IsTied document line given → statement_of document line ≡ given
only scanned document line nothing t = nothing_to document line (t.says_nothing.0 refl)
only scanned document line (statement quad) t = says_to scanned document line quad ((t.says quad).0 refl)
only scanned document line (bad_statement column) t = fault_to scanned document line column ((t.first_fault column).0 refl)
only scanned document line (relative_iri column) t = relative_to scanned document line column ((t.first_relative column).0 refl)

pub by_grammar : (scanned : FollowRules) → (document : ℕ) (line : List ℕ) (result : Result (Option Quad) LineFault) → IsAnswer result (statement_of document line)
    → IsByGrammar document line result
by_grammar scanned document line result is = λ given t. subst (IsAnswer result) (only scanned document line given t) is
