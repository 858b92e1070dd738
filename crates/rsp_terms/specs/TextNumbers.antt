-- Words of the way: the number that a text keeps of its bytes, by which maps find it.
use Rattle.std.specs.Prelude.{ℕ, List, fold}
use Rattle.std.specs.Hash as fed
use Rattle.std.specs.Hash.FoldHasher as folding

-- what the hasher of std's maps gives for the bytes
abbrev pub text_number : List ℕ → ℕ
text_number bytes = folding.finish (fold folding.write folding.initial (fed.str bytes))
