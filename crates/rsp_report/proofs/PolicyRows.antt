-- Worked policies and instants.
use Rattle.std.specs.Prelude.{◌≡◌, refl, true, false, Some, [], ◌∷◌}
use Rattle.rsp_report.specs.declared.contents.Watched.{Watched}
use Rattle.rsp_report.specs.declared.words.Strategy.TheVariants.{Close, Change, NonEmpty, Every}
use Rattle.rsp_report.specs.declared.words.PolicyWords.TheVariants as words
use Rattle.rsp_report.specs.Policies.{is_mixed, choice_of}
use Rattle.rsp_report.specs.Due.{changes, has_content}
use Rattle.rsp_report.specs.Leaps.{divides}

-- two periods are EVERY twice
two_periods : is_mixed (words.Listed (Every 5 ∷ Every 7 ∷ []) false) ≡ true
two_periods = refl

tuple_beside_close : is_mixed (words.Listed (Change ∷ Close ∷ []) true) ≡ true
tuple_beside_close = refl

tuple_alone : is_mixed (words.Listed (Change ∷ NonEmpty ∷ []) true) ≡ false
tuple_alone = refl

asked : choice_of (words.Listed (Every 5 ∷ Change ∷ []) false)
    ≡ record { close = false; change = true; nonempty = false; period = Some 5; tuple = false }
asked = refl

-- (0, 10], (5, 15], (10, 20], .. with items at 4, 4 and 12
abbrev overlapping : Watched
overlapping = record { window = record { width = 10; slide = 5; origin = 0 }; times = 4 ∷ 4 ∷ 12 ∷ []; fresh = false }

-- (0, 2], (5, 7], (10, 12], .. with items at 3 and 6
abbrev apart : Watched
apart = record { window = record { width = 2; slide = 5; origin = 0 }; times = 3 ∷ 6 ∷ []; fresh = false }

enters : changes 4 overlapping ≡ true
enters = refl

-- the first window has closed at 10
leaves : changes 11 overlapping ≡ true
leaves = refl

stays : changes 13 overlapping ≡ false
stays = refl

-- an item between two windows is in no content
in_gap : has_content 4 apart ≡ false
in_gap = refl

leaves_to_gap : changes 8 apart ≡ true
leaves_to_gap = refl

nothing_changes_at_first : changes 0 overlapping ≡ false
nothing_changes_at_first = refl

first_instant_is_multiple : divides (Some 7) 0 ≡ true
first_instant_is_multiple = refl
