-- Worked rows: characters at the ends of their ranges, and texts.
use Rattle.std.specs.Prelude.{◌≡◌, true, false, [], refl, codes}
use Rattle.rsp_terms.specs.Characters.{is_base, is_name_start, is_name_character, is_iri_character, is_absolute, is_iri_text, is_label_text, is_tag_text}

pub multiplication_sign_is_no_letter : is_base 0xD7 ≡ false
multiplication_sign_is_no_letter = refl

pub last_base_character : is_base 0xEFFFF ≡ true
last_base_character = refl

pub nothing_behind_it : is_base 0xF0000 ≡ false
nothing_behind_it = refl

pub a_colon_begins_a_name : is_name_start 0x3A ≡ true
a_colon_begins_a_name = refl

pub a_hyphen_does_not : is_name_start 0x2D ≡ false
a_hyphen_does_not = refl

pub a_middle_dot_goes_on : is_name_character 0xB7 ≡ true
a_middle_dot_goes_on = refl

pub no_space_in_an_iri : is_iri_character 0x20 ≡ false
no_space_in_an_iri = refl

pub delete_may_stand_in_an_iri : is_iri_character 0x7F ≡ true
delete_may_stand_in_an_iri = refl

pub absolute : is_iri_text (codes "a+1:") ≡ true
absolute = refl

pub relative : is_absolute (codes "/a:b") ≡ false
relative = refl

pub digit_first : is_absolute (codes "1a:b") ≡ false
digit_first = refl

pub label_with_colon : is_label_text (codes "0:a.b-") ≡ true
label_with_colon = refl

pub label_with_last_dot : is_label_text (codes "a.") ≡ false
label_with_last_dot = refl

pub label_without_characters : is_label_text [] ≡ false
label_without_characters = refl

pub tag : is_tag_text (codes "de-CH-1996") ≡ true
tag = refl

pub tag_with_digit_first : is_tag_text (codes "d1-CH") ≡ false
tag_with_digit_first = refl

pub tag_with_last_hyphen : is_tag_text (codes "de-") ≡ false
tag_with_last_hyphen = refl
