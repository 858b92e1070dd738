-- Definitions: what stands at the front of a text: blanks, digits.
use Rattle.std.specs.Prelude.{ℕ, Bool, ◌||◌, ◌==◌, List, drop}
use Rattle.std.specs.Char.{is_ascii_digit}
use Rattle.std.specs.List.{prefix_len, take_while}
use Rattle.std.specs.Str.{byte}

-- space and tab
abbrev pub is_blank : ℕ → Bool
is_blank c = (c == byte " ") || (c == byte "\t")

abbrev pub behind_blanks : List ℕ → List ℕ
behind_blanks text = drop (prefix_len is_blank text) text

abbrev pub leading_digits : List ℕ → List ℕ
leading_digits text = take_while is_ascii_digit text
