-- Worked rows: occurrences, language ranges and the order by code points (SPARQL 1.1, section 17.4.3).
use Rattle.std.specs.Prelude.{◌≡◌, true, false, Some, None, [], ◌∷◌, refl, codes}
use Rattle.std.specs.Str.{chars, encode_utf8_all}
use Rattle.std.specs.Char.{encode_utf8}
use Rattle.std.specs.declared.cmp.Ordering.TheVariants.{Less, Equal}
use Rattle.rsp_strings.specs.Occurrences.{begins_with, finishes_with, contains, text_before, text_after}
use Rattle.rsp_strings.specs.Ranges.{is_matched_by}
use Rattle.rsp_strings.specs.CodePoints.{code_point_order}

pub it_begins : begins_with (codes "foobar") (codes "foo") ≡ true
it_begins = refl

pub it_does_not_begin : begins_with (codes "fo") (codes "foo") ≡ false
it_does_not_begin = refl

pub it_ends : finishes_with (codes "foobar") (codes "bar") ≡ true
it_ends = refl

pub it_does_not_end : finishes_with (codes "ar") (codes "bar") ≡ false
it_does_not_end = refl

pub it_contains : contains (codes "foobar") (codes "oba") ≡ true
it_contains = refl

pub it_does_not_contain : contains (codes "foobar") (codes "obar_") ≡ false
it_does_not_contain = refl

pub each_contains_the_empty_text : contains [] [] ≡ true
each_contains_the_empty_text = refl

-- the first occurrence
pub before_the_first : text_before (codes "abcb") (codes "b") ≡ Some (codes "a")
before_the_first = refl

pub behind_the_first : text_after (codes "abcb") (codes "b") ≡ Some (codes "cb")
behind_the_first = refl

pub first_of_two_that_overlap : text_before (codes "xaaa") (codes "aa") ≡ Some (codes "x")
first_of_two_that_overlap = refl

pub empty_text_stands_first : text_before (codes "abc") [] ≡ Some []
empty_text_stands_first = refl

pub all_stands_behind_it : text_after (codes "abc") [] ≡ Some (codes "abc")
all_stands_behind_it = refl

pub none_before_what_does_not_occur : text_before (codes "abc") (codes "xyz") ≡ None
none_before_what_does_not_occur = refl

pub none_behind_what_does_not_occur : text_after [] (codes "xyz") ≡ None
none_behind_what_does_not_occur = refl

-- ---- language ranges

pub range_is_the_tag : is_matched_by (codes "FR") (codes "fr") ≡ true
range_is_the_tag = refl

pub range_begins_the_tag : is_matched_by (codes "fr-be") (codes "FR") ≡ true
range_begins_the_tag = refl

pub range_ends_with_a_subtag : is_matched_by (codes "fra") (codes "fr") ≡ false
range_ends_with_a_subtag = refl

pub longer_range : is_matched_by (codes "fr") (codes "fr-BE") ≡ false
longer_range = refl

pub each_tag_but_the_empty_one : is_matched_by (codes "en") (codes "*") ≡ true
each_tag_but_the_empty_one = refl

pub empty_tag_is_matched_by_no_star : is_matched_by [] (codes "*") ≡ false
empty_tag_is_matched_by_no_star = refl

pub empty_range_is_the_empty_tag : is_matched_by [] [] ≡ true
empty_range_is_the_empty_tag = refl

pub no_tag_begins_with_nothing : is_matched_by (codes "en") [] ≡ false
no_tag_begins_with_nothing = refl

-- ---- the order by code points

-- U+FF5E is below U+1F600, which UTF-16 would turn
pub surrogates_do_not_count : code_point_order (encode_utf8_all (0xFF5E ∷ [])) (encode_utf8_all (0x1F600 ∷ [])) ≡ Less
unfolding chars encode_utf8
surrogates_do_not_count = refl

pub capital_letters_come_first : code_point_order (codes "Z") (codes "a") ≡ Less
unfolding chars
capital_letters_come_first = refl

pub front_comes_first : code_point_order (codes "ab") (codes "abc") ≡ Less
unfolding chars
front_comes_first = refl

pub same_text : code_point_order (codes "ab") (codes "ab") ≡ Equal
unfolding chars
same_text = refl
