-- Definitions: labels of blank nodes and language tags (RDF 1.1 N-Quads, section 4).
use Rattle.std.specs.Prelude.{◌≡◌, ℕ, true, List, [], ◌++◌, codes}
use Rattle.std.specs.Str.{all_scalars, encode_utf8_all}
use Rattle.rsp_terms.specs.Characters.{is_label_text, is_tag_text}

-- BLANK_NODE_LABEL, and none that is longer stands there
pub record IsLabel (part rest label : List ℕ) : Type 0 where
  pub characters : List ℕ
  pub scalars : all_scalars characters ≡ true
  pub passes : is_label_text characters ≡ true
  pub label_is : label ≡ encode_utf8_all characters
  pub part_is : part ≡ codes "_:" ++ label
  pub longest : (more others : List ℕ) → all_scalars more ≡ true → rest ≡ encode_utf8_all more ++ others
      → is_label_text (characters ++ more) ≡ true → more ≡ []

-- LANGTAG, and none that is longer stands there
pub record IsTag (part rest language : List ℕ) : Type 0 where
  pub is_tag : is_tag_text language ≡ true
  pub part_is : part ≡ codes "@" ++ language
  pub longest : (more others : List ℕ) → rest ≡ more ++ others → is_tag_text (language ++ more) ≡ true → more ≡ []
