use Rattle.std.proofs.Common.{◌≡◌, IfOk, map, subst}
use Rattle.std.specs.Str.{bytes_eq}
use Rattle.indexmap.specs.IndexMap.{get}
use Rattle.rsp_written.specs.declared.said.Said.{Said}
use Rattle.rsp_read_registrations.specs.Heads.{declared_as}
use Rattle.rsp_read_registrations.proofs.ByName.{resolved_is}
use Rattle.rsp_read_registrations.proofs.prefixes.resolve.Goals as goal

pub returns : goal.returns
returns c =
    let P : (Said → Said) → Type 0 = λ f. IfOk c.resolved_tokens.result (λ others. others.items ≡ map f c.args.tokens.now) in
    subst P (resolved_is (get bytes_eq c.in_ok-iris.iris) (map declared_as c.args.prefixes.now) c.in_ok-iris.ensures) c.resolved_tokens.ensures
