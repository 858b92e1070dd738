-- A field that is an absolute IRI, by the grammar.
use Rattle.std.proofs.Common.{◌≡◌, ℕ, Bool, true, false, List, [], ◌∷◌, ◌++◌, length, refl, sym, ap, subst, ◌∙◌, append-nil, Option, Some, None, if◌then◌else◌}
use Rattle.std.specs.Prelude.{◌==◌, ◌&&◌, ◌↔◌}
use Rattle.std.specs.Option.{option_and_then}
use Rattle.rsp_spec.proofs.Truths.{and_left, and_right, equal_from}
use Rattle.rsp_terms.specs.Characters.{is_absolute}
use Rattle.rsp_scan.specs.Enclosed.{IsIri}
use Rattle.rsp_scan.specs.Following.{FollowRules}
use Rattle.rsp_nquads.specs.Grammar.{IsAbsoluteIri}
use Rattle.rsp_scan.specs.Readers.{iri}
use Rattle.rsp_nquads.specs.Fields.{absolute_iri}

abbrev some_name : List ℕ → Option (List ℕ)
some_name name = Some name

nothing_behind : (xs : List ℕ) → (length xs == 0) ≡ true → xs ≡ []
nothing_behind [] h = refl
nothing_behind (x ∷ xs) h = absurd (let size = equal_from (length (x ∷ xs)) 0 h in cc)

name_same : (a b : List ℕ) → some_name a ≡ some_name b → a ≡ b
name_same a b is = cc

iri_from : (scanned : FollowRules) → (field name : List ℕ) → absolute_iri field ≡ some_name name → IsAbsoluteIri field name
unfolding absolute_iri
iri_from scanned field name is = by (iri field) refl is
  where
    by_test : (x : List ℕ × List ℕ) → iri field ≡ Some x → (b : Bool) → ((length x.1 == 0) && is_absolute x.0) ≡ b
        → (if b then some_name x.0 else None) ≡ some_name name → IsAbsoluteIri field name
    by_test x read false test is = absurd (cc)
    by_test x read true test is =
        let same = name_same x.0 name is in
        let p = scanned.iris.sound field x.1 x.0 read in
        let none = nothing_behind x.1 (and_left (length x.1 == 0) (is_absolute x.0) test) in
        let whole : field ≡ p.0 = p.1.0 ∙ (ap (λ r. p.0 ++ r) none ∙ append-nil p.0) in
        let stands : IsIri p.0 [] x.0 = p.1.1 in
        subst (IsAbsoluteIri field) same (subst (λ f. IsIri f [] x.0) (sym whole) stands, and_right (length x.1 == 0) (is_absolute x.0) test)

    by : (o : Option (List ℕ × List ℕ)) → iri field ≡ o
        → option_and_then (λ x. if (length x.1 == 0) && is_absolute x.0 then Some x.0 else None) o ≡ some_name name → IsAbsoluteIri field name
    by None read is = absurd (cc)
    by (Some x) read is = by_test x read ((length x.1 == 0) && is_absolute x.0) refl is

iri_to : (scanned : FollowRules) → (field name : List ℕ) → IsAbsoluteIri field name → absolute_iri field ≡ some_name name
unfolding absolute_iri
iri_to scanned field name h =
    let read = sym (ap iri (append-nil field)) ∙ scanned.iris.full field [] name h.0 in
    rw (read, h.1) refl

pub field_by_grammar : (scanned : FollowRules) → (field name : List ℕ) → (absolute_iri field ≡ Some name) ↔ IsAbsoluteIri field name
field_by_grammar scanned field name = (iri_from scanned field name, iri_to scanned field name)
