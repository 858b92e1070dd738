-- Definitions: what the words of a policy ask, and which are refused (SECRET, report and tick).
use Rattle.std.specs.Prelude.{Bool, true, false, ◌&&◌, ◌||◌, nat_lt, is_some, None, Some, List, [], ◌∷◌, fold}
use Rattle.std.specs.List.{count_by, list_any}
use Rattle.std.specs.Option.{option_or}
use Rattle.rsp_report.specs.declared.words.Strategy.{Strategy}
use Rattle.rsp_report.specs.declared.words.Strategy.TheVariants.{Close, Change, NonEmpty, Every}
use Rattle.rsp_report.specs.declared.words.PolicyWords.{PolicyWords}
use Rattle.rsp_report.specs.declared.words.PolicyWords.TheVariants as words
use Rattle.rsp_report.specs.declared.chosen.Chosen.{Chosen}

-- the same strategy; EVERY is the same with any period
abbrev pub same_kind : Strategy → Strategy → Bool
same_kind Close Close = true
same_kind Change Change = true
same_kind NonEmpty NonEmpty = true
same_kind (Every p) (Every q) = true
same_kind a b = false

-- the strategies that the words name, and whether the tick is TUPLE; CSPARQL where there are none
abbrev pub said : PolicyWords → List Strategy × Bool
said (words.Listed strategies tuple) = (strategies, tuple)
said words.Cqels = (Change ∷ [], true)
said _ = (Close ∷ NonEmpty ∷ [], false)

-- with one strategy more; of several EVERY the first gives the period
abbrev pub with_strategy : Chosen → Strategy → Chosen
with_strategy chosen Close = record chosen { close = true }
with_strategy chosen Change = record chosen { change = true }
with_strategy chosen NonEmpty = record chosen { nonempty = true }
with_strategy chosen (Every period) = record chosen { period = option_or chosen.period (Some period) }

abbrev pub choice_of : PolicyWords → Chosen
choice_of words =
    fold with_strategy
    (record { close = false; change = false; nonempty = false; period = None; tuple = (said words).1 })
    (said words).0

-- a strategy is named twice, or the tick is TUPLE beside CLOSE or EVERY
abbrev pub is_mixed : PolicyWords → Bool
is_mixed words =
    list_any (λ kind. nat_lt 1 (count_by (same_kind kind) (said words).0)) (Close ∷ Change ∷ NonEmpty ∷ Every 0 ∷ [])
    || ((said words).1 && ((choice_of words).close || is_some (choice_of words).period))
