use Rattle.std.proofs.Common.{◌≡◌, ◌++◌, drop, map}
use Rattle.std.specs.Str.{bytes_eq}
use Rattle.indexmap.specs.IndexMap.{get}
use Rattle.rsp_read_registrations.specs.Heads.{resolved_with}
use Rattle.rsp_read_registrations.proofs.prefixes.resolved_tokens.Given as goal

abbrev pub invariant-loop-said : goal.invariant-loop-said
invariant-loop-said l =
    l.others.items ++ map (λ said. resolved_with (get bytes_eq l.iris) said.kind said) (drop l.said-index l.tokens)
    ≡ map (λ said. resolved_with (get bytes_eq l.iris) said.kind said) l.tokens
