-- Prefixes by their names.
use Rattle.std.proofs.Common.{◌≡◌, ℕ, List, Option, refl, ap}
use Rattle.rsp_written.specs.declared.said.Kind.{Kind}
use Rattle.rsp_written.specs.declared.said.Kind.TheVariants as kind
use Rattle.rsp_written.specs.declared.said.Said.{Said}
use Rattle.rsp_written.specs.Grammar.{declared_iri, resolved, resolved_as, resolved_by}
use Rattle.rsp_read_registrations.specs.Heads.{resolved_with}

by_kind : (iris : List ℕ → Option (List ℕ)) (prefixes : List (List ℕ × List ℕ))
    → ((x : List ℕ) → iris x ≡ declared_iri prefixes x) → (k : Kind) (said : Said)
    → resolved_with iris k said ≡ resolved_by prefixes k said
by_kind iris prefixes h kind.Prefixed said = ap (resolved_as said) (h said.text)
by_kind iris prefixes h _ said = refl

pub resolved_is : (iris : List ℕ → Option (List ℕ)) (prefixes : List (List ℕ × List ℕ))
    → ((x : List ℕ) → iris x ≡ declared_iri prefixes x)
    → (λ (said : Said). resolved_with iris said.kind said) ≡ resolved prefixes
resolved_is iris prefixes h = λ i said. by_kind iris prefixes h said.kind said i
