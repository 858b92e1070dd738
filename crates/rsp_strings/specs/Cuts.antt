-- Words of the way: a part of a text by how many characters are cut off.
use Rattle.std.specs.Prelude.{ℕ, ◌-◌, ℤ, pos, negsuc}

-- how many places from 1 on stand before the place
abbrev pub places_before : ℤ → ℕ
places_before (pos n) = n - 1
places_before (negsuc n) = 0
