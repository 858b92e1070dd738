use Rattle.std.proofs.Common.{◌≡◌, Bool, true, false, true≢false, not, refl, sym, ◌∙◌}
use Rattle.std.specs.Map.{keys_of}
use Rattle.std.specs.Ordering.{is_gt}
use Rattle.std.proofs.lemmas.List.Elements.{recursion_from_All}
use Rattle.rsp_scope.proofs.Tallies.{all-stay, by_place}
use Rattle.rsp_scope.proofs.tally.first_leaves.Goals as goal

passes : (b : Bool) → not b ≡ false → b ≡ true
passes true h = refl
passes false h = absurd (true≢false h)

pub returns-in-Some-clause-stays : goal.returns-in-Some-clause-stays
returns-in-Some-clause-stays c stays =
    all-stay c.args.opening c.in-Some.place.now c.args.content.now.entries
    (recursion_from_All (λ p. is_gt (by_place c.in-Some.place.now p) ≡ false) (keys_of c.args.content.now.entries) c.in-Some.ensures.all_from)
    (sym c.is_after.ensures ∙ passes c.is_after.result stays)
