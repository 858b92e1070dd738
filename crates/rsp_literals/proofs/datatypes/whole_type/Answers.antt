use Rattle.std.proofs.Common.{◌∙◌, refl, sym}
use Rattle.std.specs.Prelude.{codes}
use Rattle.rsp_literals.proofs.Differing.{not_equal}
use Rattle.rsp_literals.proofs.datatypes.whole_type.Goals as goal

pub returns-in_default : goal.returns-in_default
returns-in_default c =
    let others = c.in_default in
    let iri = c.args.iri.now in
    c.unsigned_type.ensures
    ∙ sym (rw (
      not_equal iri (codes "http://www.w3.org/2001/XMLSchema#integer") others.not-text,
      not_equal iri (codes "http://www.w3.org/2001/XMLSchema#long") others.not-text-2,
      not_equal iri (codes "http://www.w3.org/2001/XMLSchema#int") others.not-text-3,
      not_equal iri (codes "http://www.w3.org/2001/XMLSchema#short") others.not-text-4,
      not_equal iri (codes "http://www.w3.org/2001/XMLSchema#byte") others.not-text-5,
      not_equal iri (codes "http://www.w3.org/2001/XMLSchema#nonPositiveInteger") others.not-text-6,
      not_equal iri (codes "http://www.w3.org/2001/XMLSchema#negativeInteger") others.not-text-7,
    )
    refl)
