-- Words of the way: the mode that the words' reader answers, whose names are borrowed; its limits, and the one value of a mode.
use Rattle.std.specs.Prelude.{ℕ, ◌≤◌, ⊤, Option, Some, None, List, [], ◌∷◌}
use Rattle.rsp_spec.specs.Limits.{most_items, most_slack}
use Rattle.rsp_words.specs.Words as words
use Rattle.rsp_words.specs.declared.words.Mode.{Mode}
use Rattle.rsp_words.specs.declared.words.Mode.TheVariants.{Events, Run, Check, Generate}
use Rattle.rsp_words.specs.Playing.{replay_for}

abbrev pub mode_for : Mode → words.Mode
mode_for (Events log) = words.events log
mode_for (Run replay) = words.run (replay_for replay)
mode_for (Check query) = words.check query.now
mode_for (Generate count) = words.generate count

-- a log has a day of slack at most, and the generator makes a million items at most
abbrev pub IsWithinLimits : Mode → Type 0
IsWithinLimits (Events log) = log.slack ≤ most_slack
IsWithinLimits (Generate count) = count ≤ most_items
IsWithinLimits _ = ⊤

-- the value, where there is one alone
abbrev pub only_value : List (List ℕ) → Option (List ℕ)
only_value (value ∷ []) = Some value
only_value _ = None
