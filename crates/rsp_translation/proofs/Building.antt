-- The trees of a group don't depend on its EXISTS, and these stand in the order of the text.
use Rattle.std.proofs.Common.{◌≡◌, ℕ, ◌+◌, ◌<◌, List, [], ◌∷◌, ◌++◌, length, get_or, drop, map, refl, sym, ◌∙◌, ap, append_assoc}
use Rattle.std.specs.List.{fold}
use Rattle.std.proofs.lemmas.List.{at_drop_more}
use Rattle.rsp_query.specs.declared.select.Element.{Element}
use Rattle.rsp_query.specs.Groups.{Part, Parts, triple, optional, minus, union, graph, window, filter, exists, bind, values, sub, no_part, part_then, parts_in}
use Rattle.rsp_query.specs.Meanings.{part_of}
use Rattle.rsp_algebra.specs.declared.tree.Place.{Place}
use Rattle.rsp_algebra.specs.Nodes.{Node}
use Rattle.rsp_translation.specs.Building.{bare, own_node, with_own, tests_of, tests_in}
use Rattle.rsp_translation.specs.Begun.{Setting, Begun, Test, nothing, with_part, with_parts, slashes_of, filters, filtered, tested, elements_node, group_node}

pub bare_part : (s : Setting) (at : Place) (fresh : ℕ) (group : Begun) (part : Part) → bare (with_part s at fresh (bare group) part) ≡ bare (with_part s at fresh group part)
bare_part s at fresh group (triple subject verb object) = refl
bare_part s at fresh group (optional body) = refl
bare_part s at fresh group (minus body) = refl
bare_part s at fresh group (union groups) = refl
bare_part s at fresh group (graph name word body) = refl
bare_part s at fresh group (window name word body) = refl
bare_part s at fresh group (filter condition) = refl
bare_part s at fresh group (exists negated word body) = refl
bare_part s at fresh group (bind v formula) = refl
bare_part s at fresh group (values variables rows) = refl
bare_part s at fresh group (sub inner) = refl

pub bare_parts : (s : Setting) (at : Place) (fresh : ℕ) (group : Begun) (parts : Parts) → bare (with_parts s at fresh (bare group) parts) ≡ bare (with_parts s at fresh group parts)
bare_parts s at fresh group no_part = refl
bare_parts s at fresh group (part_then part more) =
    sym (bare_parts s at (fresh + slashes_of part) (with_part s at fresh (bare group) part) more)
    ∙ (ap (λ begun. bare (with_parts s at (fresh + slashes_of part) begun more)) (bare_part s at fresh group part)
    ∙ bare_parts s at (fresh + slashes_of part) (with_part s at fresh group part) more)

-- one more part of a group whose EXISTS aren't kept
pub bare_step : (s : Setting) (at : Place) (fresh : ℕ) (group next : Begun) (part : Part) (more : Parts) → next ≡ bare (with_part s at fresh group part)
    → bare (with_parts s at (fresh + slashes_of part) next more) ≡ bare (with_parts s at fresh group (part_then part more))
bare_step s at fresh group next part more is =
    ap (λ begun. bare (with_parts s at (fresh + slashes_of part) begun more)) is
    ∙ bare_parts s at (fresh + slashes_of part) (with_part s at fresh group part) more

no_more : (tests : List Test) → tests ≡ tests ++ []
no_more [] = refl
no_more (test ∷ others) = ap (λ ts. test ∷ ts) (no_more others)

pub tests_part : (s : Setting) (at : Place) (fresh : ℕ) (group : Begun) (part : Part) → (with_part s at fresh group part).tests ≡ group.tests ++ tests_of s at fresh part
tests_part s at fresh group (triple subject verb object) = no_more group.tests
tests_part s at fresh group (optional body) = no_more group.tests
tests_part s at fresh group (minus body) = no_more group.tests
tests_part s at fresh group (union groups) = no_more group.tests
tests_part s at fresh group (graph name word body) = no_more group.tests
tests_part s at fresh group (window name word body) = no_more group.tests
tests_part s at fresh group (filter condition) = no_more group.tests
tests_part s at fresh group (exists negated word body) = refl
tests_part s at fresh group (bind v formula) = no_more group.tests
tests_part s at fresh group (values variables rows) = no_more group.tests
tests_part s at fresh group (sub inner) = no_more group.tests

pub tests_parts : (s : Setting) (at : Place) (fresh : ℕ) (group : Begun) (parts : Parts) → (with_parts s at fresh group parts).tests ≡ group.tests ++ tests_in s at fresh parts
tests_parts s at fresh group no_part = no_more group.tests
tests_parts s at fresh group (part_then part more) =
    tests_parts s at (fresh + slashes_of part) (with_part s at fresh group part) more
    ∙ (ap (λ tests. tests ++ tests_in s at (fresh + slashes_of part) more) (tests_part s at fresh group part)
    ∙ append_assoc group.tests (tests_of s at fresh part) (tests_in s at (fresh + slashes_of part) more))

-- ---- one more element by its own tree

pub with_own_is : (s : Setting) (at : Place) (fresh : ℕ) (group : Begun) (part : Part) → bare (with_own group (own_node s at fresh part) part) ≡ bare (with_part s at fresh group part)
with_own_is s at fresh group (triple subject verb object) = refl
with_own_is s at fresh group (optional body) = refl
with_own_is s at fresh group (minus body) = refl
with_own_is s at fresh group (union groups) = refl
with_own_is s at fresh group (graph name word body) = refl
with_own_is s at fresh group (window name word body) = refl
with_own_is s at fresh group (filter condition) = refl
with_own_is s at fresh group (exists negated word body) = refl
with_own_is s at fresh group (bind v formula) = refl
with_own_is s at fresh group (values variables rows) = refl
with_own_is s at fresh group (sub inner) = refl

pub element_added : (s : Setting) (at : Place) (fresh : ℕ) (group after : Begun) (tree : Node) (part : Part) → tree ≡ own_node s at fresh part
    → bare after ≡ bare (with_own group tree part) → bare after ≡ bare (with_part s at fresh group part)
element_added s at fresh group after tree part own made =
    made ∙ (ap (λ (t : Node). bare (with_own group t part)) own ∙ with_own_is s at fresh group part)

-- ---- a step of the code's loop over elements

pub elements_step : (s : Setting) (at : Place) (fresh next number : ℕ) (group after : Begun) (elements : List Element) (i : ℕ) (element : Element)
    → i < length elements → element ≡ get_or elements i element → after ≡ bare (with_part s at fresh group (part_of element))
    → number ≡ slashes_of (part_of element) → next ≡ fresh + number
    → bare (with_parts s at next after (parts_in (map part_of (drop (i + 1) elements)))) ≡ bare (with_parts s at fresh group (parts_in (map part_of (drop i elements))))
elements_step s at fresh next number group after elements i element below is made counted behind =
    let rest = parts_in (map part_of (drop (i + 1) elements)) in
    let here = rw (← is) at (at_drop_more (λ (es : List Element). bare (with_parts s at fresh group (parts_in (map part_of es)))) elements i element below) in
    ap (λ (n : ℕ). bare (with_parts s at n after rest)) (behind ∙ ap (λ (m : ℕ). fresh + m) counted)
    ∙ (bare_step s at fresh group after (part_of element) rest made ∙ sym here)

-- ---- a whole group

pub whole_group : (s : Setting) (at : Place) (fresh : ℕ) (parts : Parts) (elements under whole : Node) → elements ≡ elements_node s at fresh parts
    → under ≡ filtered (filters parts) elements → whole ≡ fold tested under (tests_in s at fresh parts) → whole ≡ group_node s at fresh parts
whole_group s at fresh parts elements under whole is below above =
    above
    ∙ (ap (λ (tree : Node). fold tested tree (tests_in s at fresh parts)) (below ∙ ap (filtered (filters parts)) is)
    ∙ ap (λ (tests : List Test). fold tested (filtered (filters parts) (elements_node s at fresh parts)) tests) (sym (tests_parts s at fresh nothing parts)))
