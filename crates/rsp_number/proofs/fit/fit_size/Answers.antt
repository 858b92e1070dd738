use Rattle.std.proofs.Common.{◌≡◌, ◌∙◌, ap, arith, Some}
use Rattle.rsp_number.specs.Decimals.{cut}
use Rattle.rsp_number.proofs.Cutting.{fit-none, fit-before, fit-exact, fit-last, next-size, next-rest}
use Rattle.rsp_number.proofs.Laws.{law-from}
use Rattle.rsp_number.proofs.fit.fit_size.Goals as goal

pub returns-then-whole : goal.returns-then-whole
returns-then-whole c =
    let value = fit-none c.args.negative _ _ c.requires.divides c.if-whole.true in
    record { value = value; law = law-from _ _ _ _ value }

pub returns-then-rest-eq0 : goal.returns-then-rest-eq0
returns-then-rest-eq0 c =
    let value =
    ap Some c.shortest.ensures
    ∙ fit-exact _ _ _ _ _ _ c.requires.divides (omega arith) c.loop-scale.invariant.size c.loop-scale.invariant.rest
    c.loop-scale.invariant.fits c.if-rest-eq0.true in
    record { value = value; law = law-from _ _ _ _ value }

pub returns-then-next : goal.returns-then-next
returns-then-next c =
    let value =
    ap Some c.shortest-then-next.ensures
    ∙ fit-before _ _ _ _ _ _ c.requires.divides (omega arith) c.loop-scale.invariant.size c.loop-scale.invariant.rest
    c.loop-scale.invariant.fits c.if-next.true in
    record { value = value; law = law-from _ _ _ _ value }

pub loop-scale-preserved : goal.loop-scale-preserved
loop-scale-preserved c = record {
  size = next-size _ _ _ _ _ c.requires.divides c.loop-scale.invariant.size c.loop-scale.invariant.rest;
  rest = next-rest _ _ _ _ c.loop-scale.invariant.rest;
  fits = omega arith;
}

pub returns : goal.returns
returns c =
    let done : c.loop-scale.scale ≡ 18 = omega arith in
    let value =
    ap Some c.shortest-2.ensures
    ∙ fit-last _ _ _ _ (c.loop-scale.invariant.size ∙ ap (cut c.args.numerator c.args.denominator) done) c.loop-scale.invariant.fits in
    record { value = value; law = law-from _ _ _ _ value }
