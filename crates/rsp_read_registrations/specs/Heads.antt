-- Words of the way: what readings of heads give.
use Rattle.std.specs.Prelude.{ℕ, List, Option}
use Rattle.rsp_written.specs.declared.said.Kind.{Kind}
use Rattle.rsp_written.specs.declared.said.Kind.TheVariants as kind
use Rattle.rsp_written.specs.declared.said.Said.{Said}
use Rattle.rsp_written.specs.Grammar.{resolved_as}
use Rattle.rsp_written.specs.Trees.{Policy}
use Rattle.rsp_read_registrations.specs.declared.prefixes.Prefix.{Prefix}

-- the operator by its kind alone
abbrev pub head_of : Said × (List ℕ × Option Policy) → Kind × (List ℕ × Option Policy)
head_of v = (v.0.kind, v.1)

abbrev pub declared_as : Prefix → List ℕ × List ℕ
declared_as prefix = (prefix.name, prefix.iri)

-- what a token of this kind says where these IRIs stand for prefixes
abbrev pub resolved_with : (List ℕ → Option (List ℕ)) → Kind → Said → Said
resolved_with iris kind.Prefixed said = resolved_as said (iris said.text)
resolved_with iris _ said = said
