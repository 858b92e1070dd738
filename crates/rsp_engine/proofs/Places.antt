-- The measure of a place: behind it there are fewer places left.
use Rattle.std.proofs.Common.{◌≡◌, ℕ, ◌+◌, ◌-◌, ◌*◌, ◌<◌, ◌≤◌, inl, inr, arith}
use Rattle.std.proofs.Math.Nat.{mul-le-mul_right, mul-le-mul_left}
use Rattle.std.proofs.lemmas.Bool.{cases_lt}

-- fewer instants are left
earlier : (next at after n a b : ℕ) → at < after → after ≤ next → a ≤ n
    → (next - after) * (n + 1) + a + 1 < (next - at) * (n + 1) + b + 1
earlier next at after n a b early high low =
    let more : ((next - after) + 1) * (n + 1) ≤ (next - at) * (n + 1) = mul-le-mul_right (n + 1) (omega arith) in
    let one : ((next - after) + 1) * (n + 1) ≡ (next - after) * (n + 1) + (n + 1) = grind arith in
    omega (arith, more, one)

-- a place behind another
pub nearer : (next at query after behind n : ℕ) → at ≤ after → (after ≡ at → query + 1 ≤ behind) → behind < n → after ≤ next
    → (next - after) * (n + 1) + (n - behind) + 1 < (next - at) * (n + 1) + (n - query) + 1
nearer next at query after behind n late later within high =
    elim (cases_lt at after) [
      | inl early ↦ earlier next at after n (n - behind) (n - query) early high (omega arith)
      | inr less ↦ let same : after ≡ at = omega (arith, less, late) in
          let more = later same in
          rw same (omega (arith, more))
    ]

-- a place that isn't before another, with one query fewer
pub nearer_gone : (next at query after behind n m : ℕ) → m + 1 ≡ n → at ≤ after → (after ≡ at → query ≤ behind)
    → behind < m → after ≤ next
    → (next - after) * (m + 1) + (m - behind) + 1 < (next - at) * (n + 1) + (n - query) + 1
nearer_gone next at query after behind n m is late later within high =
    let fewer : (next - after) * (m + 1) ≤ (next - after) * (n + 1) = mul-le-mul_left (next - after) (omega arith) in
    elim (cases_lt at after) [
      | inl early ↦
          let less = earlier next at after n (m - behind) (n - query) early high (omega arith) in
          omega (arith, less, fewer)
      | inr less ↦ let same : after ≡ at = omega (arith, less, late) in
          let more = later same in
          rw (← same) (omega (arith, fewer, more))
    ]
