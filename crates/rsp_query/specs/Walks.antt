-- Definitions: the parts of a group at every depth, in the order of the text, each with whether it stands at the top of the group
-- of an OPTIONAL.
use Rattle.std.specs.Prelude.{ℕ, Bool, true, false, List, [], ◌∷◌, ◌++◌, sum_by}
use Rattle.rsp_query.specs.Paths.{slashes}
use Rattle.rsp_query.specs.Groups.{Part, Parts, Groups, triple, optional, minus, union, graph, window, exists, sub, no_part}
use Rattle.rsp_query.specs.Groups.{part_then, no_group, group_then, selection}

abbrev mutual
  -- of those of a group, which may be that of an OPTIONAL
  pub parts_within : Bool → Parts → List (Bool × Part)
  parts_within top no_part = []
  parts_within top (part_then part more) = (top, part) ∷ (below part ++ parts_within top more)

  pub groups_within : Groups → List (Bool × Part)
  groups_within no_group = []
  groups_within (group_then group more) = parts_within false group ++ groups_within more

  -- what stands within a part
  pub below : Part → List (Bool × Part)
  below (optional body) = parts_within true body
  below (minus body) = parts_within false body
  below (union groups) = groups_within groups
  below (graph name at body) = parts_within false body
  below (window name at body) = parts_within false body
  below (exists negated at body) = parts_within false body
  below (sub (selection distinct star items body grouped keys having aggregates)) = parts_within false body
  below _ = []

-- the sum over all parts of a group of what each counts by itself
abbrev pub counted : (Part → ℕ) → Parts → ℕ
counted f body = sum_by (λ x. f x.1) (parts_within false body)

-- the `/` of a part by itself, and those of a group
abbrev pub own_slashes : Part → ℕ
own_slashes (triple subject verb object) = slashes verb
own_slashes _ = 0

abbrev pub slashes_in : Parts → ℕ
slashes_in body = counted own_slashes body
