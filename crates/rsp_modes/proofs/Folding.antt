-- The fold over what is worked off, cut in two.
use Rattle.std.proofs.Common.{◌≡◌, ℕ, ◌+◌, List, [], ◌∷◌, ◌++◌, refl, sym, ◌∙◌, ap, append_assoc, arith}
use Rattle.rsp_engine.specs.World.{World}
use Rattle.rsp_modes.specs.Output.{Given, followed_by, run, step}

sums : (a b c : ℕ) → a + (b + c) ≡ (a + b) + c
sums a b c = omega arith

pub run-append : (world : World) (xs ys : List Given) → run world (xs ++ ys) ≡ followed_by (run world xs) (run (run world xs).after ys)
run-append world [] ys =
    let rest = run world ys in
    let same : rest.work ≡ 0 + rest.work = omega arith in
    λ i. record { said = rest.said; work = same i; after = rest.after }
run-append world (x ∷ xs) ys =
    let first = step world x in
    let others = run first.after xs in
    let rest = run others.after ys in
    ap (followed_by first) (run-append first.after xs ys)
    ∙ (λ i. record {
      said = sym (append_assoc first.said others.said rest.said) i;
      work = sums first.work others.work rest.work i;
      after = rest.after;
    })
