-- Words of the way: how the longest label and the longest tag are found in one pass: by a state that tells whether what was
-- read is one.
use Rattle.std.specs.Prelude.{ℕ, suc, Bool, true, false, not, ◌&&◌, ◌||◌, ◌==◌, if◌then◌else◌, Option, None, Some, List, []}
use Rattle.std.specs.Prelude.{◌∷◌, length, take}
use Rattle.std.specs.Char.{is_ascii_alphabetic, is_ascii_digit}
use Rattle.std.specs.Option.{option_map_or}
use Rattle.std.specs.Str.{byte, encode_utf8_all}
use Rattle.rsp_terms.specs.Characters.{is_label_start, is_label_character}
use Rattle.rsp_scan.specs.Machines.{Machine}

-- of one item and so many behind it, where it alone may end or not
abbrev pub lengthened : Bool → ℕ → ℕ
lengthened ends n = if (n == 0) && not ends then 0 else suc n

-- how many items are the longest front that is accepted, of at least one
unfoldable pub scan : {S : Type 0} → Machine S → S → List ℕ → ℕ
scan m s [] = 0
scan m s (c ∷ cs) = option_map_or (λ t. lengthened (m.ends t) (scan m t cs)) (m.step s c) 0

-- the bytes of that front
abbrev pub scanned_bytes : {S : Type 0} → Machine S → S → List ℕ → ℕ
scanned_bytes m s cs = length (encode_utf8_all (take (scan m s cs) cs))

-- a label's state is the character read last
abbrev pub next_of_label : Option ℕ → ℕ → Option (Option ℕ)
next_of_label None c = if is_label_start c then Some (Some c) else None
next_of_label (Some last) c = if is_label_character c then Some (Some c) else None

abbrev pub ends_label : Option ℕ → Bool
ends_label None = false
ends_label (Some last) = not (last == byte ".")

abbrev pub label_machine : Machine (Option ℕ)
label_machine = record { step = next_of_label; ends = ends_label }

-- the bytes of the longest front behind a label's first character
abbrev pub further_bytes : List ℕ → ℕ
further_bytes cs = length (encode_utf8_all (take (scan label_machine (Some 0) cs) cs))

-- a tag's state: within the first subtag, and whether the subtag has begun
abbrev pub next_of_tag : Bool × Bool → ℕ → Option (Bool × Bool)
next_of_tag s c =
    if (c == byte "-") && s.1
    then Some (false, false)
    else (if is_ascii_alphabetic c || (not s.0 && is_ascii_digit c) then Some (s.0, true) else None)

abbrev pub tag_machine : Machine (Bool × Bool)
tag_machine = record { step = next_of_tag; ends = λ s. s.1 }
