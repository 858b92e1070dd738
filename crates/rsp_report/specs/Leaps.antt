-- Words of the way: the strategies by three questions, of which closings and the period are one.
use Rattle.std.specs.Prelude.{◌≡◌, ℕ, ◌%◌, ◌==◌, ◌<◌, ⊤, Bool, true, not, ◌&&◌, ◌||◌, Option, List}
use Rattle.std.specs.Bool.{beq}
use Rattle.std.specs.List.{list_any}
use Rattle.std.specs.Option.{option_map_or}
use Rattle.rsp_spec.specs.Windows.{closes_at}
use Rattle.rsp_report.specs.declared.chosen.Chosen.{Chosen}
use Rattle.rsp_report.specs.declared.contents.Watched.{Watched}
use Rattle.rsp_report.specs.declared.leaps.Question.{Question}
use Rattle.rsp_report.specs.declared.leaps.Question.TheVariants.{Close, Change, Content}
use Rattle.rsp_report.specs.Due.{changes, has_content}

-- one of two is true, and not both
abbrev pub differ : Bool → Bool → Bool
differ a b = not (beq a b)

-- some window of the query passes
abbrev pub some_window : (Watched → Bool) → List Watched → Bool
some_window test watched = list_any test watched

abbrev pub closes : ℕ → Watched → Bool
closes t w = closes_at w.window t

-- the period, where there is one, divides t
abbrev pub divides : Option ℕ → ℕ → Bool
divides period t = option_map_or (λ period. t % period == 0) period true

-- a strategy that isn't asked for, or one that holds
abbrev pub unless_asked : Bool → Bool → Bool
unless_asked asked holds = not asked || holds

-- the answer of one window
abbrev pub asks : Question → ℕ → Watched → Bool
asks (Close period) t w = closes t w && (t % period == 0)
asks Change t w = changes t w
asks Content t w = has_content t w

abbrev pub HasPeriod : Question → Type 0
HasPeriod (Close period) = 0 < period
HasPeriod Change = ⊤
HasPeriod Content = ⊤

abbrev pub HoldsByTime : Chosen → List Watched → ℕ → Type 0
HoldsByTime policy watched t = (unless_asked policy.close (some_window (closes t) watched) && divides policy.period t) ≡ true

abbrev pub HoldsByChange : Chosen → List Watched → ℕ → Type 0
HoldsByChange policy watched t = unless_asked policy.change (some_window (changes t) watched) ≡ true

abbrev pub HoldsByContent : Chosen → List Watched → ℕ → Type 0
HoldsByContent policy watched t = unless_asked policy.nonempty (some_window (has_content t) watched) ≡ true

abbrev pub AllHold : Chosen → List Watched → ℕ → Type 0
AllHold policy watched t = HoldsByTime policy watched t × HoldsByChange policy watched t × HoldsByContent policy watched t
