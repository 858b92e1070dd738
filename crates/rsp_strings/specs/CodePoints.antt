-- Definitions: the order of texts by the code points of their characters (SPARQL 1.1, section 17.3; XPath fn:compare).
use Rattle.std.specs.Prelude.{ℕ, List}
use Rattle.std.specs.Ordering.{nat_cmp}
use Rattle.std.specs.Cmp.Lexicographic.{slice_cmp}
use Rattle.std.specs.Str.{chars}
use Rattle.std.specs.declared.cmp.Ordering.{Ordering}

-- the first character that differs decides, and else the shorter text is less
abbrev pub code_point_order : List ℕ → List ℕ → Ordering
code_point_order left right = slice_cmp nat_cmp (chars left) (chars right)
