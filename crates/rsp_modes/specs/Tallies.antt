-- Words of the way: counts of reports and of their rows; and the events of the generator that are left.
use Rattle.std.specs.Prelude.{◌≡◌, ℕ, ◌+◌, ◌≤◌, List, count_by, drop, map, sum_by}
use Rattle.rsp_spec.specs.Limits.{most_items}
use Rattle.rsp_modes.specs.declared.voice.Tally.{Tally}
use Rattle.rsp_modes.specs.Generator.{generated, random}
use Rattle.rsp_modes.specs.Output.{Given, Saying, a_block}
use Rattle.rsp_modes.specs.Summaries.{is_report, numbered, rows_said}

-- what is said is counted
pub record Counts (before now : Tally) (said : List Saying) : Type 0 where
  pub reports : now.reports ≡ before.reports + count_by is_report said
  pub rows : now.rows ≡ before.rows + sum_by rows_said said

-- what is left of the generator's events for so many items, behind some that were given
abbrev pub gen_left : ℕ → ℕ → List Given
gen_left count given = drop given (map a_block (numbered 1 (generated count)))

-- so many events were given, and x is the pseudo-random number of this place
pub record IsMaking (count given x : ℕ) : Type 0 where
  pub few : count ≤ most_items
  pub within : given ≤ count + 2
  pub random : x ≡ random given
