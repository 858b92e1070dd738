use Rattle.std.proofs.Common.{ap, sym, ◌∙◌}
use Rattle.std.specs.Prelude.{Some}
use Rattle.rsp_aggregates.proofs.Keyed.{spoilt-extreme, no-extreme, end-extreme}
use Rattle.rsp_aggregates.proofs.extremes.ExtremeFold.result.Goals as goal

pub returns-then-has_error : goal.returns-then-has_error
returns-then-has_error c = λ values stands.
    spoilt-extreme c.args.self.now.copies.errors c.args.self.now.copies.terms c.args.self.now.keys values c.args.self.now.greatest
    (sym (c.has_error.ensures values stands.holds) ∙ c.if-has_error.true)

pub returns-in-None : goal.returns-in-None
returns-in-None c = λ values stands.
    no-extreme c.args.self.now.copies.errors c.args.self.now.copies.terms c.args.self.now.keys values
    (sym (c.has_error.ensures values stands.holds) ∙ c.if-has_error.false) stands c.args.self.now.greatest c.in-None.ensures.none

pub returns-in_ok-share-in-Some : goal.returns-in_ok-share-in-Some
returns-in_ok-share-in-Some c = λ values stands.
    ap Some (c.in_ok-share-in-Some.ensures ∙ c.term.ensures)
    ∙ end-extreme c.args.self.now.copies.errors c.args.self.now.copies.terms c.args.self.now.keys values
    (sym (c.has_error.ensures values stands.holds) ∙ c.if-has_error.false) stands c.args.self.now.greatest c.in-Some.key.now c.in-Some.ensures.end
