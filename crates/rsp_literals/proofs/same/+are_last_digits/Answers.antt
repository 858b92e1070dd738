use Rattle.std.proofs.Common.{rules, arith, ◌≡◌, ◌∙◌, suc, ◌-◌, ◌+◌, ◌%◌, [], ◌∷◌, ◌++◌, true, false, nat_eq}
use Rattle.rsp_literals.proofs.Fronts.{digit_stands, digit_differs}
use Rattle.rsp_literals.proofs.same.+are_last_digits.Goals as goal

pub returns-then-last-number : goal.returns-then-last-number
returns-then-last-number t c =
    let is : c.args.text.now ≡ c.in-Some.front.now ++ (c.in-Some.last.now ∷ []) = search rules in
    let more : c.args.count ≡ suc (c.args.count - 1) = omega (arith, c.if-count-eq0.false) in
    let equal : nat_eq c.in-Some.last.now (48 + c.args.number % 10) ≡ true = search rules in
    digit_stands _ _ _ c.args.count (c.args.count - 1) c.args.number _ is more equal c.are_last_digits.ensures

pub returns-else-last-number : goal.returns-else-last-number
returns-else-last-number t c =
    let is : c.args.text.now ≡ c.in-Some.front.now ++ (c.in-Some.last.now ∷ []) = search rules in
    let more : c.args.count ≡ suc (c.args.count - 1) = omega (arith, c.if-count-eq0.false) in
    let other : nat_eq c.in-Some.last.now (48 + c.args.number % 10) ≡ false = search rules in
    other ∙ digit_differs _ _ _ c.args.count (c.args.count - 1) c.args.number is more other
