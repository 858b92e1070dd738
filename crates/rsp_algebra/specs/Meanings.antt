-- Words of the way: the node that a tree of the code is.
use Rattle.std.specs.Prelude.{ℕ, List, map}
use Rattle.rsp_expr.specs.Formulas.{Aggregation}
use Rattle.rsp_expr.specs.Meanings.{formula_of, aggregation_of}
use Rattle.rsp_expr.specs.declared.aggregate.Aggregate.{Aggregate}
use Rattle.rsp_algebra.specs.declared.tree.Tree.{Tree}
use Rattle.rsp_algebra.specs.declared.tree.Tree.TheVariants.{Unit, Pattern, Join', LeftJoin', Union', Minus', Exists', NotExists'}
use Rattle.rsp_algebra.specs.declared.tree.Tree.TheVariants.{Filter', Extend', Values, Project', Distinct', Group'}
use Rattle.rsp_algebra.specs.Nodes as node
use Rattle.rsp_algebra.specs.Nodes.{Node}

-- the aggregates of a group, each with its variable
abbrev pub aggregations_of : List (ℕ × Aggregate) → List (ℕ × Aggregation)
aggregations_of aggregates = map {B = ℕ × Aggregation} (λ entry. (entry.0, aggregation_of entry.1)) aggregates

-- the node that a tree of the code is
abbrev pub node_of : Tree → Node
node_of Unit = node.unit
node_of (Pattern place subject predicate object) =
    node.pattern place (record { subject = subject; predicate = predicate; object = object })
node_of (Join' _ left _ right) = node.of_two node.join (node_of left) (node_of right)
node_of (LeftJoin' _ left _ right condition) = node.of_two (node.left_join (formula_of condition)) (node_of left) (node_of right)
node_of (Union' _ left _ right) = node.of_two node.union (node_of left) (node_of right)
node_of (Minus' _ left _ right) = node.of_two node.minus (node_of left) (node_of right)
node_of (Exists' _ left _ right condition) = node.of_two (node.exists (formula_of condition)) (node_of left) (node_of right)
node_of (NotExists' _ left _ right condition) =
    node.of_two (node.not_exists (formula_of condition)) (node_of left) (node_of right)
node_of (Filter' _ child condition) = node.over (node.filter (formula_of condition)) (node_of child)
node_of (Extend' _ child variable expression) = node.over (node.extend variable (formula_of expression)) (node_of child)
node_of (Values rows) = node.values rows.items
node_of (Project' _ child variables) = node.over (node.project variables.items) (node_of child)
node_of (Distinct' _ child) = node.over node.distinct (node_of child)
node_of (Group' _ child keys aggregates) = node.over (node.group keys.items (aggregations_of aggregates.items)) (node_of child)
