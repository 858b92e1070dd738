-- Words of the way: the code's scopes, aggregates and branches as the definitions have them.
use Rattle.std.specs.Prelude.{ℕ, Bool, ◌||◌, List, map}
use Rattle.std.specs.List.{list_any}
use Rattle.std.specs.Str.{bytes_eq}
use Rattle.rsp_expr.specs.declared.aggregate.Aggregate.{Aggregate}
use Rattle.rsp_expr.specs.declared.expression.Expression.{Expression}
use Rattle.rsp_functions.specs.declared.function.Sign.{Sign}
use Rattle.rsp_expr.specs.Formulas.{Aggregation, Formula}
use Rattle.rsp_expr.specs.Meanings.{formula_of}
use Rattle.rsp_query.specs.Meanings.{numbered_aggregation, part_of}
use Rattle.std.specs.formers.vec.Vec.{mapped}
use Rattle.std.specs.Prelude.{Vec}
use Rattle.std.specs.Global.{Global}
use Rattle.rsp_query.specs.declared.select.Element.{Element}
use Rattle.rsp_query.specs.Groups.{Part}
use Rattle.rsp_written.specs.declared.group.Element as written
use Rattle.rsp_written.specs.Trees as trees
use Rattle.rsp_written.specs.GroupMeanings.{element_of}
use Rattle.rsp_numbering.specs.declared.scopes.Scope as code
use Rattle.rsp_numbering.specs.Naming.{Scope}

abbrev pub scope_by : ℕ → (List ℕ → Bool) → Scope
scope_by number shares = record { number = number; shares = shares }

abbrev pub scope_of : code.Scope → Scope
scope_of scope = scope_by scope.number (λ x. scope.every || list_any (bytes_eq x) scope.shown.value.keys)

abbrev pub scopes_of : List code.Scope → List Scope
scopes_of scopes = map scope_of scopes

abbrev pub aggregations_of : List (ℕ × Aggregate) → List (ℕ × Aggregation)
aggregations_of aggregates = map numbered_aggregation aggregates

abbrev pub signed_formula : Sign × Expression → Sign × Formula
signed_formula x = (x.0, formula_of x.1)

abbrev pub signed_formulas : List (Sign × Expression) → List (Sign × Formula)
signed_formulas parts = map signed_formula parts

abbrev pub branches_of : List (Vec Element Global) → List (List Part)
branches_of branches = map (λ branch. branch.items) (map (mapped part_of) branches)

abbrev pub written_branches_of : List (Vec written.Element Global) → List (List trees.Element)
written_branches_of branches = map (λ branch. branch.items) (map (mapped element_of) branches)
