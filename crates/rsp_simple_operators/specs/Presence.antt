-- Words of the way: what a count that changes adds to the number of distinct values.
use Rattle.std.specs.Prelude.{ℤ}
use Rattle.rsp_multiset.proofs.Distincts as distinct

-- 1 for what is there, whatever its count, and 0 for what isn't
abbrev pub presence : ℤ → ℤ
presence = distinct.presence

-- what a count that changes by so much adds
abbrev pub crossing : ℤ → ℤ → ℤ
crossing = distinct.crossing
