-- Definitions: the characters of a text, and those at given places (SPARQL 1.1, sections 17.4.3.2 and 17.4.3.3).
-- A text is its bytes in UTF-8, and a character is a code point: `chars` gives those that the bytes spell, and
-- `encode_utf8_all` their bytes.
use Rattle.std.specs.Prelude.{ℕ, suc, ℤ, pos, ◌+ℤ◌, int_le, int_lt, Bool, ◌&&◌, if◌then◌else◌, List, [], ◌∷◌, length}
use Rattle.std.specs.Str.{chars, encode_utf8_all}

-- STRLEN
abbrev pub character_count : List ℕ → ℕ
character_count text = length (chars text)

-- the items at the places that pass the test, where the first item stands at the place
abbrev pub items_at : (ℕ → Bool) → ℕ → List ℕ → List ℕ
items_at test place [] = []
items_at test place (c ∷ cs) = if test place then c ∷ items_at test (suc place) cs else items_at test (suc place) cs

-- the place isn't before the start
abbrev pub is_from : ℤ → ℕ → Bool
is_from start place = int_le start (pos place)

-- nor as far behind it as the count
abbrev pub is_among : ℤ → ℤ → ℕ → Bool
is_among start count place = is_from start place && int_lt (pos place) (start +ℤ count)

-- SUBSTR with two arguments and with three: places are counted from 1
abbrev pub substring_from : List ℕ → ℤ → List ℕ
substring_from text start = encode_utf8_all (items_at (is_from start) 1 (chars text))

abbrev pub substring : List ℕ → ℤ → ℤ → List ℕ
substring text start count = encode_utf8_all (items_at (is_among start count) 1 (chars text))
