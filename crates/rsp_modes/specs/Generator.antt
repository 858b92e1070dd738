-- Definitions: the events of the generator: one query, readings of a stream that only the count decides, and a tick.
use Rattle.std.specs.Prelude.{ℕ, zero, suc, ◌+◌, ◌*◌, ◌/◌, ◌%◌, ◌^◌, ◌==◌, if◌then◌else◌, List, [], ◌∷◌, ◌++◌, map, codes}
use Rattle.std.specs.Fmt.{decimal}
use Rattle.std.specs.List.{range_with_len}
use Rattle.rsp_terms.specs.declared.statement.Triple.{Triple}
use Rattle.rsp_terms.specs.declared.term.Term.{Term}
use Rattle.rsp_terms.specs.declared.term.Term.TheVariants.{Iri, Literal}
use Rattle.rsp_events.specs.declared.event.Event.{Event}
use Rattle.rsp_events.specs.declared.event.Event.TheVariants.{Register, Item, Tick}

-- how often each sensor was read in the last minute, and the sum of its readings, without what was off; every ten seconds what
-- is new of it
abbrev pub query_text : List ℕ
query_text =
    codes "PREFIX ex: <http://example.org/>\n"
    ++ (codes "REGISTER ISTREAM ex:out AS SELECT ?s (COUNT(*) AS ?n) (SUM(?v) AS ?t)\n"
    ++ (codes "FROM NAMED WINDOW ex:w ON ex:in [RANGE PT60S STEP PT10S]\n"
    ++ codes "WHERE { WINDOW ex:w { ?s ex:v ?v OPTIONAL { ?s ex:off ?f } } FILTER(!BOUND(?f)) } GROUP BY ?s\n"))

-- the pseudo-random number of item i, from 1; a linear congruential generator
abbrev pub next_random : ℕ → ℕ
next_random x = (6364136223846793005 * x + 1442695040888963407) % 2 ^ 64

unfoldable pub random : ℕ → ℕ
random zero = 1
random (suc i) = next_random (random i)

-- the sensor and its reading
abbrev pub sensor : ℕ → List ℕ
sensor x = codes "http://example.org/s" ++ decimal (x / 2 ^ 32 % 100)

abbrev pub reading : ℕ → List ℕ
reading x = decimal (x / 2 ^ 40 % 1000)

abbrev pub triple_of : ℕ → List ℕ → Term → Triple
triple_of x predicate object = record { subject = Iri (sensor x); predicate = Iri predicate; object = object }

abbrev pub measured : ℕ → Triple
measured x =
    triple_of x (codes "http://example.org/v") (Literal (reading x) (codes "http://www.w3.org/2001/XMLSchema#integer"))

abbrev pub switched_off : ℕ → Triple
switched_off x = triple_of x (codes "http://example.org/off") (Iri (codes "http://example.org/x"))

-- each fiftieth sensor is off
abbrev pub graph_of : ℕ → ℕ → List Triple
graph_of i x = if i % 50 == 0 then measured x ∷ switched_off x ∷ [] else measured x ∷ []

abbrev pub item_of : ℕ → ℕ → Event
item_of i x = Item (codes "http://example.org/in") (100 * i) (graph_of i x)

abbrev pub item : ℕ → Event
item i = item_of i (random i)

-- all of them, for so many items
abbrev pub generated : ℕ → List Event
generated count =
    Register (codes "g") query_text ∷ (map item (range_with_len 1 count) ++ (Tick (100 * count) ∷ []))
