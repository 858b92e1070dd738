-- Words of the way: the derived tests of equality decide identity: terms, triples, quads and facts that test equal are the same.
use Rattle.std.specs.Prelude.{◌≡◌, Bool, true, false, ◌&&◌, Decides, refl}
use Rattle.std.specs.Cmp.{unsigned_Decides}
use Rattle.std.specs.Cmp.Lexicographic.{bytes_decides}
use Rattle.std.proofs.Common.{ap, sym, true≢false}
use Rattle.rsp_multiset.specs.RowSame.{cell_decides}
use Rattle.rsp_terms.specs.declared.term.Term.{Term}
use Rattle.rsp_terms.specs.declared.term.Term.TheVariants.{Iri, Blank, Literal, Tagged}
use Rattle.rsp_terms.specs.declared.statement.Triple.{Triple}
use Rattle.rsp_terms.specs.declared.statement.Quad.{Quad}
use Rattle.rsp_terms.specs.declared.statement.Fact.{Fact}
use Rattle.rsp_terms.specs.declared.statement.Spot.{Spot}
use Rattle.rsp_terms.specs.declared.statement.Spot.TheVariants.{Default, Named, Window}
use Rattle.rsp_terms.specs.contracts.term.TermPartialEq.TheImpl.{ghosts as term}
use Rattle.rsp_terms.specs.contracts.statement.TriplePartialEq.TheImpl.{ghosts as triple}
use Rattle.rsp_terms.specs.contracts.statement.QuadPartialEq.TheImpl.{ghosts as quad}
use Rattle.rsp_terms.specs.contracts.statement.SpotPartialEq.TheImpl.{ghosts as spot}
use Rattle.rsp_terms.specs.contracts.statement.FactPartialEq.TheImpl.{ghosts as fact}

-- the tests that the program computes
abbrev pub term_eq : Term → Term → Bool
term_eq = term.eq

abbrev pub triple_eq : Triple → Triple → Bool
triple_eq = triple.eq

abbrev pub quad_eq : Quad → Quad → Bool
quad_eq = quad.eq

abbrev pub spot_eq : Spot → Spot → Bool
spot_eq = spot.eq

abbrev pub fact_eq : Fact → Fact → Bool
fact_eq = fact.eq

all_parts : (a b : Bool) → (a && b) ≡ true → (a ≡ true) × (b ≡ true)
all_parts true b h = (refl, h)
all_parts false b h = absurd (true≢false (sym h))

joined : (a b : Bool) → a ≡ true → b ≡ true → (a && b) ≡ true
joined a b p q = λ i. p i && q i

both : {a b : Bool} {P Q : Type 0} → Decides a P → Decides b Q → Decides (a && b) (P × Q)
both {a} {b} p q =
    (λ h. (p.0 (all_parts a b h).0, q.0 (all_parts a b h).1), λ h. joined a b (p.1 h.0) (q.1 h.1))

along : {a : Bool} {P Q : Type 0} → Decides a P → (P → Q) → (Q → P) → Decides a Q
along p there back = (λ h. there (p.0 h), λ h. p.1 (back h))

pub term_same : (a b : Term) → Decides (term_eq a b) (a ≡ b)
term_same (Iri text) (Iri other) = along (bytes_decides text other) (ap Iri) (λ h. cc)
term_same (Blank document label) (Blank number other) =
    along (both (unsigned_Decides document number) (bytes_decides label other)) (λ h i. Blank (h.0 i) (h.1 i)) (λ h. (cc, cc))
term_same (Literal lexical datatype) (Literal other kind) =
    along (both (bytes_decides lexical other) (bytes_decides datatype kind)) (λ h i. Literal (h.0 i) (h.1 i)) (λ h. (cc, cc))
term_same (Tagged lexical language) (Tagged other tag) =
    along (both (bytes_decides lexical other) (bytes_decides language tag)) (λ h i. Tagged (h.0 i) (h.1 i)) (λ h. (cc, cc))
term_same a b = (λ h. absurd (true≢false (sym h)), λ h. cc)

pub triple_same : (a b : Triple) → Decides (triple_eq a b) (a ≡ b)
triple_same a b =
    along (both (term_same a.subject b.subject) (both (term_same a.predicate b.predicate) (term_same a.object b.object)))
    (λ h i. record { subject = h.0 i; predicate = h.1.0 i; object = h.1.1 i })
    (λ h. (ap (λ (t : Triple). t.subject) h, (ap (λ (t : Triple). t.predicate) h, ap (λ (t : Triple). t.object) h)))

pub quad_same : (a b : Quad) → Decides (quad_eq a b) (a ≡ b)
quad_same a b =
    along (both (triple_same a.triple b.triple) (cell_decides term_same a.graph b.graph))
    (λ h i. record { triple = h.0 i; graph = h.1 i })
    (λ h. (ap (λ (q : Quad). q.triple) h, ap (λ (q : Quad). q.graph) h))

pub spot_same : (a b : Spot) → Decides (spot_eq a b) (a ≡ b)
spot_same Default Default = (λ h. refl, λ h. refl)
spot_same (Named name) (Named other) = along (term_same name other) (ap Named) (λ h. cc)
spot_same (Window index) (Window other) = along (unsigned_Decides index other) (ap Window) (λ h. cc)
spot_same a b = (λ h. absurd (true≢false (sym h)), λ h. cc)

pub fact_same : (a b : Fact) → Decides (fact_eq a b) (a ≡ b)
fact_same a b =
    along (both (spot_same a.spot b.spot) (triple_same a.triple b.triple))
    (λ h i. record { spot = h.0 i; triple = h.1 i })
    (λ h. (ap (λ (f : Fact). f.spot) h, ap (λ (f : Fact). f.triple) h))
