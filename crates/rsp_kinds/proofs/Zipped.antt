-- Two lists that go together place by place, as the one grows.
use Rattle.std.proofs.Common.{◌≤◌, ℕ, List, [], ◌++◌, map, length, drop, sym, subst}
use Rattle.std.specs.List.{AllZip}
use Rattle.std.proofs.lemmas.List.{append-nil, drop_all}

module _ {A B : Type 0} (P : A → B → Type 0) where
  -- when all have come
  pub zip-end : {C : Type 0} (f : C → B) (made : List A) (entries : List C) (i : ℕ) → length entries ≤ i
      → ((rest : List A) → AllZip P rest (map f (drop i entries)) → AllZip P (made ++ rest) (map f entries)) → AllZip P made (map f entries)
  zip-end f made entries i past so_far =
      subst (λ (items : List A). AllZip P items (map f entries)) (append-nil made)
      (so_far [] (subst (λ left. AllZip P [] (map f left)) (sym (drop_all i entries past)) tt))
