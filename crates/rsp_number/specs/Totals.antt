-- Definitions: what is taken into a total and given back, and the value of a total (SPARQL 1.1, section 18.5.1.3, Sum).
use Rattle.std.specs.Prelude.{ℕ, ◌+◌, ◌-◌, ◌^◌, cond, ◌==◌, ℤ, pos, ◌+ℤ◌, ◌-ℤ◌, ◌*ℤ◌, int_div, Option}
use Rattle.rsp_number.specs.Numbers.{integer_result, decimal_result}
use Rattle.rsp_number.specs.Tallies.{Tally}
use Rattle.rsp_number.specs.declared.number.Number.{Number}
use Rattle.rsp_number.specs.declared.number.Number.TheVariants.{Integer, Decimal}

-- how many 10^-18 the number is: exact, since a decimal has at most 18 digits after the point
abbrev pub units : Number → ℤ
units (Integer n) = n *ℤ pos (10 ^ 18)
units (Decimal d) = d.coefficient *ℤ pos (10 ^ (18 - d.scale))

-- how many integers, and decimals, that many times the number is
abbrev pub integers_of : Number → ℕ → ℕ
integers_of (Integer n) times = times
integers_of (Decimal d) times = 0

abbrev pub decimals_of : Number → ℕ → ℕ
decimals_of (Integer n) times = 0
decimals_of (Decimal d) times = times

abbrev pub empty_tally : Tally
empty_tally = record { sum = pos 0; integers = 0; decimals = 0 }

-- the number is taken in so many times
abbrev pub after_taking : Tally → Number → ℕ → Tally
after_taking tally number times = record {
  sum = tally.sum +ℤ (units number *ℤ pos times);
  integers = tally.integers + integers_of number times;
  decimals = tally.decimals + decimals_of number times;
}

-- the number is given back so many times
abbrev pub after_giving : Tally → Number → ℕ → Tally
after_giving tally number times = record {
  sum = tally.sum -ℤ (units number *ℤ pos times);
  integers = tally.integers - integers_of number times;
  decimals = tally.decimals - decimals_of number times;
}

-- the sum: an integer where no decimal is in the total, else the decimal that it is cut to
abbrev pub value_of_total : Tally → Option Number
value_of_total tally =
    cond (tally.decimals == 0) (integer_result (int_div tally.sum (pos (10 ^ 18))))
    (decimal_result (record { numerator = tally.sum; denominator = 10 ^ 18 }))
