-- Worked rows: what the stream operators report.
use Rattle.std.specs.Prelude.{◌≡◌, refl, ℕ, pos, nat_eq, Some, None, List, [], ◌∷◌, codes}
use Rattle.rsp_multiset.specs.Rows.{Cells}
use Rattle.rsp_terms.specs.declared.term.Term.{Term}
use Rattle.rsp_terms.specs.declared.term.Term.TheVariants.{Iri}
use Rattle.rsp_report.specs.declared.operator.Operator.TheVariants.{Rstream, Istream, Dstream}
use Rattle.rsp_streams_out.specs.Streams.{less, reported}
use Rattle.rsp_streams_out.specs.Turning.{times_reported}

-- as often as in the first beyond as often as in the second, and never below 0
less-by_counts : less nat_eq (5 ∷ 6 ∷ 5 ∷ 7 ∷ 5 ∷ []) (5 ∷ 7 ∷ 7 ∷ 8 ∷ []) ≡ 6 ∷ 5 ∷ 5 ∷ []
less-by_counts = refl

less-itself : less nat_eq (5 ∷ 6 ∷ 5 ∷ []) (5 ∷ 5 ∷ 6 ∷ []) ≡ []
less-itself = refl

abbrev row : List ℕ → Cells Term
row name = Some (Iri name) ∷ []

-- a stood there once and stands there twice; b has gone; c is new; the unbound row stays
abbrev preceding : List (Cells Term)
preceding = row (codes "b") ∷ row (codes "a") ∷ (None ∷ []) ∷ row (codes "b") ∷ []

abbrev present : List (Cells Term)
present = row (codes "c") ∷ row (codes "a") ∷ (None ∷ []) ∷ row (codes "a") ∷ []

all : reported Rstream preceding present ≡ (None ∷ []) ∷ row (codes "a") ∷ row (codes "a") ∷ row (codes "c") ∷ []
all = refl

new : reported Istream preceding present ≡ row (codes "a") ∷ row (codes "c") ∷ []
new = refl

-- both rows go at once
gone : reported Dstream preceding present ≡ row (codes "b") ∷ row (codes "b") ∷ []
gone = refl

-- before the first report there are none, and all are new
first : reported Istream [] present ≡ reported Rstream [] present
first = refl

none_gone : reported Dstream [] present ≡ []
none_gone = refl

-- the same rows in another order aren't new
nothing_new : reported Istream present (row (codes "a") ∷ row (codes "a") ∷ row (codes "c") ∷ (None ∷ []) ∷ []) ≡ []
nothing_new = refl

-- the same by counts: once more than before, never below 0
once_more : times_reported Istream preceding present (row (codes "a")) ≡ pos 1
once_more = refl

not_below : times_reported Istream preceding present (row (codes "b")) ≡ pos 0
not_below = refl
