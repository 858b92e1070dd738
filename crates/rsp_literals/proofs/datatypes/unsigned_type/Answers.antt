use Rattle.std.proofs.Common.{refl}
use Rattle.std.specs.Prelude.{codes}
use Rattle.rsp_literals.proofs.Differing.{not_equal}
use Rattle.rsp_literals.proofs.datatypes.unsigned_type.Goals as goal

pub returns-in_default : goal.returns-in_default
returns-in_default c =
    let others = c.in_default in
    let iri = c.args.iri.now in
    rw (
      not_equal iri (codes "http://www.w3.org/2001/XMLSchema#nonNegativeInteger") others.not-text,
      not_equal iri (codes "http://www.w3.org/2001/XMLSchema#positiveInteger") others.not-text-2,
      not_equal iri (codes "http://www.w3.org/2001/XMLSchema#unsignedLong") others.not-text-3,
      not_equal iri (codes "http://www.w3.org/2001/XMLSchema#unsignedInt") others.not-text-4,
      not_equal iri (codes "http://www.w3.org/2001/XMLSchema#unsignedShort") others.not-text-5,
      not_equal iri (codes "http://www.w3.org/2001/XMLSchema#unsignedByte") others.not-text-6,
    )
    refl
