-- Worked rows: parts of a text by characters (SPARQL 1.1, sections 17.4.3.2 and 17.4.3.3; XPath fn:substring).
use Rattle.std.specs.Prelude.{◌≡◌, pos, neg_ℤ, ◌-◌, ◌^◌, List, ℕ, [], ◌∷◌, refl, codes}
use Rattle.std.specs.Str.{chars, encode_utf8_all}
use Rattle.std.specs.Char.{encode_utf8}
use Rattle.rsp_strings.specs.Substrings.{character_count, substring_from, substring}

-- `a`, `é`, `€` and U+1F600, of 1 to 4 bytes
abbrev pub mixed : List ℕ
mixed = encode_utf8_all (97 ∷ 0xE9 ∷ 0x20AC ∷ 0x1F600 ∷ [])

pub characters_are_counted : character_count mixed ≡ 4
unfolding chars encode_utf8
characters_are_counted = refl

pub parts_are_of_characters : substring mixed (pos 2) (pos 2) ≡ encode_utf8_all (0xE9 ∷ 0x20AC ∷ [])
unfolding chars encode_utf8
parts_are_of_characters = refl

pub last_character : substring_from mixed (pos 4) ≡ encode_utf8_all (0x1F600 ∷ [])
unfolding chars encode_utf8
last_character = refl

pub from_the_fourth_on : substring_from (codes "foobar") (pos 4) ≡ codes "bar"
unfolding chars encode_utf8
from_the_fourth_on = refl

pub the_fourth_alone : substring (codes "foobar") (pos 4) (pos 1) ≡ codes "b"
unfolding chars encode_utf8
the_fourth_alone = refl

-- the places from 0 to 2
pub start_of_0_shortens : substring (codes "12345") (pos 0) (pos 3) ≡ codes "12"
unfolding chars encode_utf8
start_of_0_shortens = refl

pub start_below_0_shortens : substring (codes "12345") (neg_ℤ (pos 1)) (pos 3) ≡ codes "1"
unfolding chars encode_utf8
start_below_0_shortens = refl

pub start_below_1_gives_all : substring_from (codes "12345") (neg_ℤ (pos 7)) ≡ codes "12345"
unfolding chars encode_utf8
start_below_1_gives_all = refl

pub nothing_by_a_count_below_0 : substring (codes "12345") (pos 5) (neg_ℤ (pos 3)) ≡ []
unfolding chars encode_utf8
nothing_by_a_count_below_0 = refl

-- the sum passes 64 bits
pub far_behind_the_end : substring (codes "12345") (pos (2 ^ 63 - 1)) (pos (2 ^ 63 - 1)) ≡ []
unfolding chars encode_utf8
far_behind_the_end = refl

pub far_before_the_start : substring (codes "12345") (neg_ℤ (pos (2 ^ 63 - 1))) (pos (2 ^ 63 - 1)) ≡ []
unfolding chars encode_utf8
far_before_the_start = refl

pub more_than_there_are : substring (codes "12345") (pos 2) (pos (2 ^ 63 - 1)) ≡ codes "2345"
unfolding chars encode_utf8
more_than_there_are = refl

pub nothing_of_an_empty_text : substring_from [] (pos 1) ≡ []
unfolding chars encode_utf8
nothing_of_an_empty_text = refl
