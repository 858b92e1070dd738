-- Words of the way: what the code knows.
use Rattle.std.specs.Prelude.{ℕ, Bool, not, map}
use Rattle.rsp_query.specs.Meanings.{item_of, numbered_aggregation}
use Rattle.rsp_shapes.specs.declared.known.Known as code_known
use Rattle.rsp_shapes.specs.Scopes.{is_known}

-- a variable that isn't known
abbrev pub stranger : code_known.Known → ℕ → Bool
stranger known v =
    not (is_known (map item_of known.keys.now) (map item_of known.before.now) (map numbered_aggregation known.aggregates.now) v)
