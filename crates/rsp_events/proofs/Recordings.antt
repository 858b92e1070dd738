-- What a line changes of what is kept of a stream's file: the lines behind it come to the same.
use Rattle.std.proofs.Common.{◌≡◌, ℕ, suc, ◌+◌, Bool, true, false, List, [], ◌∷◌, ◌++◌, refl, sym, ap, ◌∙◌, append_assoc, append-nil, arith, inl, inr}
use Rattle.std.proofs.lemmas.Bool.{cases_Bool}
use Rattle.std.specs.Prelude.{Option, None, Some, ◌||◌, if◌then◌else◌}
use Rattle.std.specs.List.{before_first, flat_map, position_or_len}
use Rattle.std.specs.Option.{is_some}
use Rattle.rsp_terms.specs.declared.term.Term.{Term}
use Rattle.rsp_terms.specs.declared.statement.Quad.{Quad}
use Rattle.rsp_nquads.specs.Answers.{Answer, nothing, statement, bad_statement, relative_iri}
use Rattle.rsp_nquads.specs.Statements.{statement_of}
use Rattle.rsp_events.specs.declared.event.Event.{Event}
use Rattle.rsp_events.specs.declared.event.Event.TheVariants.{Item}
use Rattle.rsp_events.specs.declared.refused.LineRefused.{LineRefused}
use Rattle.rsp_events.specs.declared.refused.RefusedAs.{RefusedAs}
use Rattle.rsp_events.specs.declared.refused.RefusedAs.TheVariants.{BadStatement, RelativeIri, NoTimeLine}
use Rattle.rsp_events.specs.declared.recording.RecordedItems.{RecordedItems}
use Rattle.rsp_events.specs.declared.recording.Recording.{Recording}
use Rattle.rsp_events.specs.declared.recording.OpenItem.{OpenItem}
use Rattle.rsp_events.specs.FileLines.{FileLine, refused_line, said}
use Rattle.rsp_events.specs.Recorded.{is_of, time_stated}
use Rattle.rsp_events.specs.Openings.{graph, is_time_line, items, opening, opening_in, refusal, refused, triples_of}
use Rattle.rsp_events.specs.Recording.{behind_line, behind_quad, behind_statement, behind_time_line, closed, items_ahead, open_name, outcome, with_refusal, with_triple}

-- ---- the lines before the first time line

pub first_fails : {X : Type 0} (p : X → Bool) (x : X) (xs : List X) → p x ≡ false → before_first p (x ∷ xs) ≡ x ∷ before_first p xs
first_fails p x xs shut =
    let next : 1 + position_or_len p xs ≡ suc (position_or_len p xs) = omega arith in
    rw (shut, next) refl

pub first_passes : {X : Type 0} (p : X → Bool) (x : X) (xs : List X) → p x ≡ true → before_first p (x ∷ xs) ≡ []
first_passes p x xs met = rw met refl

pub graph_on : (document : ℕ) (name : Term) (line : FileLine) (lines : List FileLine) → is_time_line document line ≡ false
    → graph document name (line ∷ lines) ≡ triples_of name (said document line) ++ graph document name lines
graph_on document name line lines shut =
    ap (λ ls. flat_map (λ (l : FileLine). triples_of name (said document l)) ls) (first_fails (is_time_line document) line lines shut)

pub graph_ends : (document : ℕ) (name : Term) (line : FileLine) (lines : List FileLine) → is_time_line document line ≡ true
    → graph document name (line ∷ lines) ≡ []
graph_ends document name line lines met =
    ap (λ ls. flat_map (λ (l : FileLine). triples_of name (said document l)) ls) (first_passes (is_time_line document) line lines met)

-- ---- one line

abbrev SameOutcome : List ℕ → ℕ → Recording → Recording → FileLine → List FileLine → Type 0
SameOutcome stream document new old line lines = outcome stream document new lines ≡ outcome stream document old (line ∷ lines)

-- two readings come to the same where their items and their refused lines do
abbrev made : List Event → List LineRefused → RecordedItems
made events lines = record { items = events; refused = lines }

both_same : {cs bs : List Event} {xs ys : List LineRefused} → cs ≡ bs → xs ≡ ys → made cs xs ≡ made bs ys
both_same p q i = made (p i) (q i)

-- a line that opens no item and adds nothing
items_past : (stream : List ℕ) (document : ℕ) (item : Option OpenItem) (line : FileLine) (lines : List FileLine)
    → opening document line ≡ None → ((name : Term) → open_name item ≡ Some name → triples_of name (said document line) ≡ [])
    → items_ahead stream document item lines ≡ items_ahead stream document item (line ∷ lines)
items_past stream document None line lines shut none = rw shut refl
items_past stream document (Some item) line lines shut none =
    let past = graph_on document (item.name) line lines (ap is_some shut) ∙ ap (λ ts. ts ++ graph document (item.name) lines) (none (item.name) refl) in
    rw (past, shut) refl

-- the refused lines from a line on that opens no item
refused_on : (document : ℕ) (name : Option Term) (line : FileLine) (lines : List FileLine) (o : Option RefusedAs)
    → opening document line ≡ None → refusal name (said document line) ≡ o
    → refused_line line o ++ refused document name lines ≡ refused document name (line ∷ lines)
refused_on document name line lines o shut is = rw (shut, is) refl

-- a line that is refused
refuses : (stream : List ℕ) (document : ℕ) (reading : Recording) (line : FileLine) (lines : List FileLine) (fault : RefusedAs)
    → opening document line ≡ None
    → ((name : Term) → open_name (reading.opened) ≡ Some name → triples_of name (said document line) ≡ [])
    → refusal (open_name (reading.opened)) (said document line) ≡ Some fault
    → SameOutcome stream document (with_refusal (line.number) fault reading) reading line lines
refuses stream document reading line lines fault shut none is =
    both_same
    (ap (λ es. reading.items ++ es) (items_past stream document (reading.opened) line lines shut none))
    (append_assoc (reading.refused) (refused_line line (Some fault)) (refused document (open_name (reading.opened)) lines)
    ∙ ap (λ ls. reading.refused ++ ls) (refused_on document (open_name (reading.opened)) line lines (Some fault) shut is))

either_way : (b : Bool) → (if b || true then None else Some NoTimeLine) ≡ None
either_way true = refl
either_way false = refl

-- a quad of the open item
adds : (stream : List ℕ) (document : ℕ) (events : List Event) (item : OpenItem) (faults : List LineRefused) (line : FileLine)
    (lines : List FileLine) (quad : Quad) → opening document line ≡ None → said document line ≡ statement quad
    → is_of (Some (item.name)) quad ≡ true
    → SameOutcome stream document
    (record { items = events; opened = with_triple (quad.triple) (Some item); refused = faults })
    (record { items = events; opened = Some item; refused = faults }) line lines
adds stream document events item faults line lines quad shut is of =
    let triple : triples_of (item.name) (said document line) ≡ quad.triple ∷ [] = rw (is, of) refl in
    let longer : graph document (item.name) (line ∷ lines) ≡ (quad.triple ∷ []) ++ graph document (item.name) lines
    = graph_on document (item.name) line lines (ap is_some shut) ∙ ap (λ ts. ts ++ graph document (item.name) lines) triple in
    let taken : refusal (Some (item.name)) (said document line) ≡ None = rw (is, of) (either_way (is_some (time_stated quad))) in
    both_same
    (ap (λ es. events ++ es)
    (rw (longer, shut) (ap (λ ts. Item stream (item.time) ts ∷ items stream document lines)
    (append_assoc (item.graph) (quad.triple ∷ []) (graph document (item.name) lines)))))
    (ap (λ ls. faults ++ ls) (refused_on document (Some (item.name)) line lines None shut taken))

-- the items from a time line on: the open one, which ends there, and those that it opens
opens_items : (stream : List ℕ) (document : ℕ) (item : Option OpenItem) (line : FileLine) (lines : List FileLine) (name : Term) (time : ℕ)
    → opening document line ≡ Some (record { name = name; time = time })
    → closed stream item ++ (Item stream time (graph document name lines) ∷ items stream document lines)
    ≡ items_ahead stream document item (line ∷ lines)
opens_items stream document None line lines name time opened = rw opened refl
opens_items stream document (Some item) line lines name time opened =
    let ends = graph_ends document (item.name) line lines (ap is_some opened) in
    rw (ends, opened, append-nil (item.graph)) refl

-- a time line
opens : (stream : List ℕ) (document : ℕ) (reading : Recording) (line : FileLine) (lines : List FileLine) (quad : Quad) (time : ℕ)
    → said document line ≡ statement quad → time_stated quad ≡ Some time
    → SameOutcome stream document (behind_time_line stream (quad.triple.subject) time reading) reading line lines
opens stream document reading line lines quad time is at =
    let opened : opening document line ≡ Some (record { name = quad.triple.subject; time = time }) = rw (is, at) refl in
    let taken : refusal (open_name (reading.opened)) (said document line) ≡ None = rw (is, at) refl in
    both_same
    (append_assoc (reading.items) (closed stream (reading.opened)) _
    ∙ ap (λ es. reading.items ++ es) (opens_items stream document (reading.opened) line lines (quad.triple.subject) time opened))
    (ap (λ ls. reading.refused ++ ls) (rw (opened, taken) refl))

-- a quad without graph, or of another graph than the open item's
foreign : (stream : List ℕ) (document : ℕ) (reading : Recording) (line : FileLine) (lines : List FileLine) (quad : Quad)
    → opening document line ≡ None → said document line ≡ statement quad → time_stated quad ≡ None
    → is_of (open_name (reading.opened)) quad ≡ false
    → SameOutcome stream document (with_refusal (line.number) NoTimeLine reading) reading line lines
foreign stream document reading line lines quad shut is at other =
    refuses stream document reading line lines NoTimeLine shut
    (λ name h. let not_its : is_of (Some name) quad ≡ false = ap (λ n. is_of n quad) (sym h) ∙ other in rw (is, not_its) refl)
    (rw (is, at, other) refl)

quad_taken : (stream : List ℕ) (document : ℕ) (events : List Event) (item : Option OpenItem) (faults : List LineRefused)
    (line : FileLine) (lines : List FileLine) (quad : Quad)
    → opening document line ≡ None → said document line ≡ statement quad → time_stated quad ≡ None
    → SameOutcome stream document
    (behind_quad (line.number) quad (record { items = events; opened = item; refused = faults }))
    (record { items = events; opened = item; refused = faults }) line lines
quad_taken stream document events None faults line lines quad shut is at =
    foreign stream document (record { items = events; opened = None; refused = faults }) line lines quad shut is at refl
quad_taken stream document events (Some item) faults line lines quad shut is at =
    elim (cases_Bool (is_of (Some (item.name)) quad)) [
      | inl of ↦ rw of (adds stream document events item faults line lines quad shut is of)
      | inr other ↦ rw other (foreign stream document (record { items = events; opened = Some item; refused = faults }) line lines quad shut is at other)
    ]

statement_taken : (stream : List ℕ) (document : ℕ) (reading : Recording) (line : FileLine) (lines : List FileLine) (quad : Quad)
    (o : Option ℕ) → said document line ≡ statement quad → time_stated quad ≡ o
    → SameOutcome stream document (behind_statement stream (line.number) quad o reading) reading line lines
statement_taken stream document reading line lines quad (Some time) is at = opens stream document reading line lines quad time is at
statement_taken stream document reading line lines quad None is at =
    let shut : opening document line ≡ None = rw (is, at) refl in
    quad_taken stream document (reading.items) (reading.opened) (reading.refused) line lines quad shut is at

pub line_taken : (stream : List ℕ) (document : ℕ) (reading : Recording) (line : FileLine) (lines : List FileLine) (answer : Answer)
    → said document line ≡ answer
    → SameOutcome stream document (behind_line stream (line.number) answer reading) reading line lines
line_taken stream document reading line lines nothing is =
    both_same
    (ap (λ es. reading.items ++ es)
    (items_past stream document (reading.opened) line lines (ap opening_in is) (λ name h. ap (triples_of name) is)))
    (ap (λ ls. reading.refused ++ ls)
    (refused_on document (open_name (reading.opened)) line lines None (ap opening_in is) (ap (refusal (open_name (reading.opened))) is)))
line_taken stream document reading line lines (statement quad) is =
    statement_taken stream document reading line lines quad (time_stated quad) is refl
line_taken stream document reading line lines (bad_statement column) is =
    refuses stream document reading line lines (BadStatement column) (ap opening_in is) (λ name h. ap (triples_of name) is)
    (ap (refusal (open_name (reading.opened))) is)
line_taken stream document reading line lines (relative_iri column) is =
    refuses stream document reading line lines (RelativeIri column) (ap opening_in is) (λ name h. ap (triples_of name) is)
    (ap (refusal (open_name (reading.opened))) is)

last_items : (stream : List ℕ) (document : ℕ) (item : Option OpenItem) → items_ahead stream document item [] ≡ closed stream item
last_items stream document None = refl
last_items stream document (Some item) = ap (λ ts. Item stream (item.time) ts ∷ []) (append-nil (item.graph))

-- no line is left
pub none_left : (stream : List ℕ) (document : ℕ) (reading : Recording)
    → outcome stream document reading [] ≡ made (reading.items ++ closed stream (reading.opened)) (reading.refused)
none_left stream document reading =
    both_same (ap (λ es. reading.items ++ es) (last_items stream document (reading.opened))) (append-nil (reading.refused))

-- ---- the loop

pub line_read : (stream : List ℕ) (document number : ℕ) (text : List ℕ) (old new : Recording) (lines behind : List FileLine) (all : RecordedItems)
    → outcome stream document old lines ≡ all → lines ≡ record { number = number; text = text } ∷ behind
    → new ≡ behind_line stream number (statement_of document text) old → outcome stream document new behind ≡ all
line_read stream document number text old new lines behind all whole first is =
    ap (λ reading. outcome stream document reading behind) is
    ∙ line_taken stream document old (record { number = number; text = text }) behind (statement_of document text) refl
    ∙ ap (λ ls. outcome stream document old ls) (sym first)
    ∙ whole

pub all_read : (stream : List ℕ) (document : ℕ) (reading : Recording) (lines : List FileLine) (all read : RecordedItems)
    → outcome stream document reading lines ≡ all → lines ≡ []
    → read ≡ record { items = reading.items ++ closed stream (reading.opened); refused = reading.refused } → read ≡ all
all_read stream document reading lines all read whole none is =
    is ∙ sym (none_left stream document reading) ∙ ap (λ ls. outcome stream document reading ls) (sym none) ∙ whole
