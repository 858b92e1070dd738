-- Words of the way: what the code asks of a policy's words, strategy by strategy.
use Rattle.std.specs.Prelude.{ℕ, Bool, true, false, ◌&&◌, ◌||◌, nat_lt, Option, None, Some, List, [], ◌∷◌}
use Rattle.std.specs.List.{count_by}
use Rattle.rsp_report.specs.declared.words.Strategy.{Strategy}
use Rattle.rsp_report.specs.declared.words.Strategy.TheVariants.{Close, Change, NonEmpty, Every}
use Rattle.rsp_report.specs.declared.words.PolicyWords.{PolicyWords}
use Rattle.rsp_report.specs.declared.words.PolicyWords.TheVariants as words
use Rattle.rsp_report.specs.declared.chosen.Chosen.{Chosen}
use Rattle.rsp_report.specs.Policies.{same_kind}

-- how often a strategy is named
abbrev pub count_of : Strategy → List Strategy → ℕ
count_of kind strategies = count_by (same_kind kind) strategies

abbrev pub is_named : Strategy → List Strategy → Bool
is_named kind strategies = nat_lt 0 (count_of kind strategies)

abbrev pub is_named_twice : Strategy → List Strategy → Bool
is_named_twice kind strategies = nat_lt 1 (count_of kind strategies)

-- the period of the first EVERY
abbrev pub first_period : List Strategy → Option ℕ
first_period [] = None
first_period (Every period ∷ rest) = Some period
first_period (Close ∷ rest) = first_period rest
first_period (Change ∷ rest) = first_period rest
first_period (NonEmpty ∷ rest) = first_period rest

-- a strategy is named twice, or the tick is TUPLE beside CLOSE or EVERY
abbrev pub is_mixed_list : List Strategy → Bool → Bool
is_mixed_list strategies tuple =
    (is_named_twice Close strategies || (is_named_twice Change strategies
    || (is_named_twice NonEmpty strategies || is_named_twice (Every 0) strategies)))
    || (tuple && (is_named Close strategies || is_named (Every 0) strategies))

abbrev pub mixed_by : PolicyWords → Bool
mixed_by words.Absent = false
mixed_by words.Csparql = false
mixed_by words.Cqels = false
mixed_by (words.Listed strategies tuple) = is_mixed_list strategies tuple

-- a window closes and some content isn't empty, at every instant
abbrev pub csparql : Chosen
csparql = record { close = true; change = false; nonempty = true; period = None; tuple = false }

-- the item is in a content, on every item
abbrev pub cqels : Chosen
cqels = record { close = false; change = true; nonempty = false; period = None; tuple = true }

-- what the words ask; CSPARQL where there are none
abbrev pub asked_by : PolicyWords → Chosen
asked_by words.Absent = csparql
asked_by words.Csparql = csparql
asked_by words.Cqels = cqels
asked_by (words.Listed strategies tuple) =
    record {
      close = is_named Close strategies;
      change = is_named Change strategies;
      nonempty = is_named NonEmpty strategies;
      period = first_period strategies;
      tuple = tuple;
    }
