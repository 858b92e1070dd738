-- Definitions: property paths as plain trees (SPARQL 1.1 Query, section 18.2.2.3).
use Rattle.std.specs.Prelude.{ℕ, suc, ◌+◌, ◌-◌, List, [], ◌∷◌}
use Rattle.rsp_expr.specs.declared.slot.Slot.{Slot}

mutual
  pub data Way : Type 0 where
    step : Slot → Way
    inverse : Way → Way
    sequence : Ways → Way
    choice : Ways → Way

  pub data Ways : Type 0 where
    no_way : Ways
    way_then : Way → Ways → Ways

-- ---- the `/` of a path

abbrev mutual
  pub slashes : Way → ℕ
  slashes (step s) = 0
  slashes (inverse way) = slashes way
  slashes (sequence ways) = slashes_following ways - 1
  slashes (choice ways) = slashes_among ways

  pub slashes_among : Ways → ℕ
  slashes_among no_way = 0
  slashes_among (way_then way more) = slashes way + slashes_among more

  -- each with a `/` before it
  pub slashes_following : Ways → ℕ
  slashes_following no_way = 0
  slashes_following (way_then way more) = suc (slashes way + slashes_following more)

-- ---- the ways of a list

abbrev pub ways_in : List Way → Ways
ways_in [] = no_way
ways_in (way ∷ others) = way_then way (ways_in others)
