-- Words of the way: white space and comments, as the code goes over them.
use Rattle.std.specs.Prelude.{ℕ, suc, Bool, true, false, not, ◌==◌, if◌then◌else◌, Option, None, Some, List, [], ◌∷◌}
use Rattle.std.specs.Option.{option_map_or}
use Rattle.std.specs.Str.{byte}
use Rattle.rsp_scan.specs.Machines.{Machine}
use Rattle.rsp_lex.specs.Forms.{is_white}

-- whether a comment goes on behind the character; nothing where the gap ends before it
abbrev pub gap_step : Bool → ℕ → Option Bool
gap_step true c = Some (not (c == byte "\n"))
gap_step false c = if is_white c then Some false else (if c == byte "#" then Some true else None)

abbrev pub gap_count : Bool → List ℕ → ℕ
gap_count comment [] = 0
gap_count comment (c ∷ cs) = option_map_or (λ next. suc (gap_count next cs)) (gap_step comment c) 0

-- it may end anywhere
abbrev pub gap_machine : Machine Bool
gap_machine = record { step = gap_step; ends = λ comment. true }
