-- A tree is overfull where it has too many rows or one of its children is overfull.
use Rattle.std.proofs.Common.{◌≡◌, ℕ, Bool, true, false, ◌||◌, nat_lt, List, [], ◌∷◌, ◌++◌, refl, sym, ◌∙◌, ap}
use Rattle.std.specs.List.{list_any}
use Rattle.std.proofs.lemmas.List.{length-map}
use Rattle.rsp_terms.specs.declared.statement.Fact.{Fact}
use Rattle.rsp_algebra.specs.Nodes as node
use Rattle.rsp_algebra.specs.Nodes.{Node, join, project, over, of_two}
use Rattle.rsp_algebra.specs.Solutions.{eval, joins, projection}
use Rattle.rsp_algebra.specs.Overfull.{most_rows, too_many, subtrees, overfull}

or-assoc : (a b c : Bool) → (a || (b || c)) ≡ ((a || b) || c)
or-assoc true b c = refl
or-assoc false b c = refl

pub any-append : {X : Type 0} (test : X → Bool) (xs ys : List X) → list_any test (xs ++ ys) ≡ (list_any test xs || list_any test ys)
any-append test [] ys = refl
any-append test (x ∷ xs) ys = ap (λ b. test x || b) (any-append test xs ys) ∙ or-assoc (test x) (list_any test xs) (list_any test ys)

pub overfull-join : (width : ℕ) (left right : Node) (facts : List Fact) → overfull width (of_two join left right) facts ≡ (too_many (joins (eval width left facts) (eval width right facts)) || (overfull width left facts || overfull width right facts))
overfull-join width left right facts =
    ap
    (λ b. too_many (joins (eval width left facts) (eval width right facts)) || b)
    (any-append (λ (subtree : Node). too_many (eval width subtree facts)) (subtrees left) (subtrees right))

-- a tree is a subtree of itself
pub overfull-itself : (width : ℕ) (node : Node) (facts : List Fact) → too_many (eval width node facts) ≡ true → overfull width node facts ≡ true
overfull-itself width node.unit facts many = ap (λ b. b || false) many
overfull-itself width (node.pattern place triple) facts many = ap (λ b. b || false) many
overfull-itself width (node.of_two node.join left right) facts many =
    ap (λ b. b || list_any (λ (subtree : Node). too_many (eval width subtree facts)) (subtrees left ++ subtrees right)) many
overfull-itself width (node.of_two (node.left_join condition) left right) facts many =
    ap (λ b. b || list_any (λ (subtree : Node). too_many (eval width subtree facts)) (subtrees left ++ subtrees right)) many
overfull-itself width (node.of_two node.union left right) facts many =
    ap (λ b. b || list_any (λ (subtree : Node). too_many (eval width subtree facts)) (subtrees left ++ subtrees right)) many
overfull-itself width (node.of_two node.minus left right) facts many =
    ap (λ b. b || list_any (λ (subtree : Node). too_many (eval width subtree facts)) (subtrees left ++ subtrees right)) many
overfull-itself width (node.of_two (node.exists condition) left right) facts many =
    ap (λ b. b || list_any (λ (subtree : Node). too_many (eval width subtree facts)) (subtrees left ++ subtrees right)) many
overfull-itself width (node.of_two (node.not_exists condition) left right) facts many =
    ap (λ b. b || list_any (λ (subtree : Node). too_many (eval width subtree facts)) (subtrees left ++ subtrees right)) many
overfull-itself width (node.over (node.filter condition) child) facts many = ap (λ b. b || overfull width child facts) many
overfull-itself width (node.over (node.extend variable formula) child) facts many = ap (λ b. b || overfull width child facts) many
overfull-itself width (node.values rows) facts many = ap (λ b. b || false) many
overfull-itself width (node.over (node.project variables) child) facts many = ap (λ b. b || overfull width child facts) many
overfull-itself width (node.over node.distinct child) facts many = ap (λ b. b || overfull width child facts) many
overfull-itself width (node.over (node.group keys aggregates) child) facts many = ap (λ b. b || overfull width child facts) many

or-known : (a b : Bool) → (a ≡ true → b ≡ true) → (a || b) ≡ b
or-known true b h = sym (h refl)
or-known false b h = refl

-- a projection has as many rows as its child
pub overfull-project : (width : ℕ) (child : Node) (variables : List ℕ) (facts : List Fact) → overfull width (over (project variables) child) facts ≡ overfull width child facts
overfull-project width child variables facts =
    ap
    (λ n. nat_lt most_rows n || overfull width child facts)
    (length-map (eval width child facts) (projection width variables))
    ∙ or-known (too_many (eval width child facts)) (overfull width child facts) (overfull-itself width child facts)
