-- A tree laid flat builds the tree, and what stood on the stack on the way are its subtrees.
use Rattle.std.proofs.Common.{◌≡◌, Bool, true, false, ◌||◌, List, [], ◌∷◌, ◌++◌, refl, sym, ap, ◌∙◌}
use Rattle.std.specs.List.{fold, list_any}
use Rattle.std.proofs.lemmas.List.{append_assoc}
use Rattle.std.proofs.lemmas.List.Sums.{fold-append}
use Rattle.rsp_algebra.specs.Flat.{Part, leaf, above, pair, flat, built, top, tops}
use Rattle.rsp_algebra.specs.Nodes as node
use Rattle.rsp_algebra.specs.Nodes.{Node}
use Rattle.rsp_algebra.specs.Overfull.{subtrees}
use Rattle.rsp_algebra.proofs.Subtrees.{any-append}

pub flat-builds : (tree : Node) (stack : List Node) → fold built stack (flat tree) ≡ tree ∷ stack
flat-builds node.unit stack = refl
flat-builds (node.pattern place triple) stack = refl
flat-builds (node.values rows) stack = refl
flat-builds (node.over single child) stack =
    fold-append built stack (flat child) (above single ∷ []) ∙ ap (λ s. fold built s (above single ∷ [])) (flat-builds child stack)
flat-builds (node.of_two double left right) stack =
    fold-append built stack (flat left) (flat right ++ pair double ∷ [])
    ∙ (ap (λ s. fold built s (flat right ++ pair double ∷ [])) (flat-builds left stack)
    ∙ (fold-append built (left ∷ stack) (flat right) (pair double ∷ []) ∙ ap (λ s. fold built s (pair double ∷ [])) (flat-builds right (left ∷ stack))))

tops-append : (stack : List Node) (parts more : List Part) → tops stack (parts ++ more) ≡ tops stack parts ++ tops (fold built stack parts) more
tops-append stack [] more = refl
tops-append stack (part ∷ parts) more =
    ap (λ nodes. top (built stack part) ++ nodes) (tops-append (built stack part) parts more)
    ∙ sym (append_assoc (top (built stack part)) (tops (built stack part) parts) (tops (fold built (built stack part) parts) more))

or-turned : (a b : Bool) → (a || (b || false)) ≡ (b || a)
or-turned true true = refl
or-turned true false = refl
or-turned false true = refl
or-turned false false = refl

or-rolled : (a b c : Bool) → (a || (b || (c || false))) ≡ (c || (a || b))
or-rolled true true true = refl
or-rolled true true false = refl
or-rolled true false true = refl
or-rolled true false false = refl
or-rolled false true true = refl
or-rolled false true false = refl
or-rolled false false true = refl
or-rolled false false false = refl

-- some of them passes a test exactly where some subtree does
pub flat-subtrees : (test : Node → Bool) (tree : Node) (stack : List Node) → list_any test (tops stack (flat tree)) ≡ list_any test (subtrees tree)
flat-subtrees test node.unit stack = refl
flat-subtrees test (node.pattern place triple) stack = refl
flat-subtrees test (node.values rows) stack = refl
flat-subtrees test (node.over single child) stack =
    let tree = node.over single child in
    ap (list_any test) (tops-append stack (flat child) (above single ∷ []) ∙ ap (λ s. tops stack (flat child) ++ tops s (above single ∷ [])) (flat-builds child stack))
    ∙ (any-append test (tops stack (flat child)) (tree ∷ [])
    ∙ (ap (λ b. b || (test tree || false)) (flat-subtrees test child stack) ∙ or-turned (list_any test (subtrees child)) (test tree)))
flat-subtrees test (node.of_two double left right) stack =
    let tree = node.of_two double left right in
    let lasts = tops-append (left ∷ stack) (flat right) (pair double ∷ []) ∙ ap (λ s. tops (left ∷ stack) (flat right) ++ tops s (pair double ∷ [])) (flat-builds right (left ∷ stack)) in
    ap (list_any test)
    (tops-append stack (flat left) (flat right ++ pair double ∷ [])
    ∙ (ap (λ s. tops stack (flat left) ++ tops s (flat right ++ pair double ∷ [])) (flat-builds left stack) ∙ ap (λ nodes. tops stack (flat left) ++ nodes) lasts))
    ∙ (any-append test (tops stack (flat left)) (tops (left ∷ stack) (flat right) ++ tree ∷ [])
    ∙ (ap (λ b. list_any test (tops stack (flat left)) || b) (any-append test (tops (left ∷ stack) (flat right)) (tree ∷ []))
    ∙ ((λ i. flat-subtrees test left stack i || (flat-subtrees test right (left ∷ stack) i || (test tree || false)))
    ∙ (or-rolled (list_any test (subtrees left)) (list_any test (subtrees right)) (test tree)
    ∙ ap (λ b. test tree || b) (sym (any-append test (subtrees left) (subtrees right)))))))
