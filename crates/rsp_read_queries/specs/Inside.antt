-- Words of the way: groups within themselves, at most so deep.
use Rattle.std.specs.Prelude.{ℕ, List}
use Rattle.rsp_phrases.specs.Readers.{Reader, nested_read}
use Rattle.rsp_written.specs.declared.said.Said.{Said}
use Rattle.rsp_written.specs.Trees.{Element}
use Rattle.rsp_written.specs.GroupReadings.{group_rule_read, optional_rule_read, minus_rule_read, graph_rule_read}
use Rattle.rsp_written.specs.GroupReadings.{window_rule_read}
use Rattle.rsp_read_queries.specs.declared.groups.Opening.{Opening}
use Rattle.rsp_read_queries.specs.declared.groups.Opening.TheVariants as opening

-- what stands behind the '{' of a group
unfoldable pub inside_read : ℕ → Reader Said (List Element)
inside_read depth = nested_read group_rule_read depth

-- an element that a word opens and a group ends
abbrev pub opened_read : Opening → Reader Said (List Element) → Reader Said Element
opened_read opening.Optional s = optional_rule_read s
opened_read opening.Minus s = minus_rule_read s
opened_read opening.Graph s = graph_rule_read s
opened_read opening.Window s = window_rule_read s

-- elements that were found together, as they are
abbrev pub found_together : {A : Type 0} → List A → List A
found_together found = found
