-- The first of the generator's items, worked out by hand.
use Rattle.std.specs.Prelude.{◌≡◌, refl, ℕ, ◌++◌, length, codes}
use Rattle.std.specs.Fmt.{decimal}
use Rattle.rsp_modes.specs.Generator.{graph_of, random, reading, sensor}

pub first_random : random 1 ≡ 7806831264735756412
unfolding random
first_random = refl

pub first_sensor : sensor 7806831264735756412 ≡ codes "http://example.org/s" ++ decimal 48
first_sensor = refl

pub first_reading : reading 7806831264735756412 ≡ decimal 271
first_reading = refl

pub one_triple : (x : ℕ) → length (graph_of 49 x) ≡ 1
one_triple x = refl

pub two_triples : (x : ℕ) → length (graph_of 50 x) ≡ 2
two_triples x = refl
