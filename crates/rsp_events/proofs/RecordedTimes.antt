-- The times of recorded items are instants.
use Rattle.std.proofs.Common.{ℕ, Bool, true, false, List, [], ◌∷◌, ◌++◌}
use Rattle.std.specs.Prelude.{Option, None, Some, ◌&&◌, bytes_eq, codes, if◌then◌else◌}
use Rattle.std.specs.List.{AllByRecursion}
use Rattle.std.specs.Option.{is_none, option_map}
use Rattle.rsp_terms.specs.declared.term.Term.{Term}
use Rattle.rsp_terms.specs.declared.term.Term.TheVariants.{Iri, Blank, Literal, Tagged}
use Rattle.rsp_terms.specs.Same.{term_eq}
use Rattle.rsp_text.specs.Digits.{read_u64}
use Rattle.rsp_text.specs.Instants.{instant}
use Rattle.rsp_nquads.specs.Answers.{Answer, nothing, statement, bad_statement, relative_iri}
use Rattle.rsp_events.specs.declared.event.Event.{Event}
use Rattle.rsp_events.specs.Directives.{number_of}
use Rattle.rsp_events.specs.Instants.{IsInstant}
use Rattle.rsp_events.specs.FileLines.{FileLine, said}
use Rattle.rsp_events.specs.Recorded.{generated_at_time, time_in, time_stated}
use Rattle.rsp_events.specs.Openings.{item_opened, items, opening_in}
use Rattle.rsp_events.proofs.Times.{AtMost, chosen, instant_at_most, number_within}

abbrev pub AreInstants : List Event → Type 0
AreInstants events = AllByRecursion IsInstant events

pub AreInstants-append : (xs ys : List Event) → AreInstants xs → AreInstants ys → AreInstants (xs ++ ys)
AreInstants-append [] ys hx hy = hy
AreInstants-append (x ∷ xs) ys hx hy = (hx.0, AreInstants-append xs ys (hx.1) hy)

either : (b : Bool) (o p : Option ℕ) → AtMost o → AtMost p → AtMost (if b then o else p)
either true o p ho hp = ho
either false o p ho hp = hp

time_within : (term : Term) → AtMost (time_in term)
time_within (Iri text) = tt
time_within (Blank document label) = tt
time_within (Literal lexical datatype) =
    either (bytes_eq datatype (codes "http://www.w3.org/2001/XMLSchema#dateTime")) (instant lexical) _ (instant_at_most lexical)
    (chosen (bytes_eq datatype (codes "http://www.w3.org/2001/XMLSchema#integer")) (number_of lexical) (number_within (read_u64 lexical)))
time_within (Tagged lexical language) = tt

opened_timed : (stream : List ℕ) (document : ℕ) (name : Term) (behind : List FileLine) (o : Option ℕ) → AtMost o
    → AreInstants (item_opened stream document (option_map (λ time. record { name = name; time = time }) o) behind)
opened_timed stream document name behind None h = tt
opened_timed stream document name behind (Some time) h = (h, tt)

answer_timed : (stream : List ℕ) (document : ℕ) (behind : List FileLine) (answer : Answer)
    → AreInstants (item_opened stream document (opening_in answer) behind)
answer_timed stream document behind nothing = tt
answer_timed stream document behind (statement quad) =
    opened_timed stream document (quad.triple.subject) behind (time_stated quad)
    (chosen (is_none (quad.graph) && term_eq (quad.triple.predicate) generated_at_time) (time_in (quad.triple.object)) (time_within (quad.triple.object)))
answer_timed stream document behind (bad_statement column) = tt
answer_timed stream document behind (relative_iri column) = tt

pub items_timed : (stream : List ℕ) (document : ℕ) (lines : List FileLine) → AreInstants (items stream document lines)
items_timed stream document [] = tt
items_timed stream document (line ∷ behind) =
    AreInstants-append _ _ (answer_timed stream document behind (said document line)) (items_timed stream document behind)
