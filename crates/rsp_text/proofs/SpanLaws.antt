-- A span is no longer than to the last instant.
use Rattle.std.proofs.Common.{◌≡◌, ℕ, ◌≤◌, Bool, true, false, List, [], ◌∷◌, refl, sym, subst, arith, Option, Some, None, if◌then◌else◌}
use Rattle.std.specs.Prelude.{◌==◌, IfSome, nat_le, not, length, ◌+◌, ◌*◌}
use Rattle.std.specs.Bool.{then_some}
use Rattle.std.specs.Option.{option_and_then, option_map}
use Rattle.std.specs.Str.{byte}
use Rattle.std.specs.Str.Parse.{digits_value}
use Rattle.std.proofs.lemmas.Bool.Decides.{nat_tests}
use Rattle.rsp_spec.specs.Limits.{last_instant}
use Rattle.rsp_text.specs.Spans.{span, count, behind_days}

tested : (n : ℕ) (b : Bool) → nat_le n last_instant ≡ b → IfSome (then_some b n) (λ ms. ms ≤ last_instant)
tested n true is = grind (arith, nat_tests)
tested n false is = tt

within : (all : Option ℕ) → IfSome (option_and_then (λ ms. then_some (nat_le ms last_instant) ms) all) (λ ms. ms ≤ last_instant)
within None = tt
within (Some n) = tested n (nat_le n last_instant) refl

chosen : (b : Bool) (o : Option ℕ) → IfSome o (λ ms. ms ≤ last_instant) → IfSome (if b then o else None) (λ ms. ms ≤ last_instant)
chosen true o is = is
chosen false o is = tt

pub span_within : (text : List ℕ) → IfSome (span text) (λ ms. ms ≤ last_instant)
unfolding span
span_within [] = tt
span_within (c ∷ text) =
    let days = count (byte "D") text in
    chosen (c == byte "P") _
    (within (option_map (λ ms. digits_value 10 days.0 * 86400000 + ms) (behind_days (not (length days.0 == 0)) days.1)))
