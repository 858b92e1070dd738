use Rattle.std.proofs.Common.{◌≡◌, ◌≤◌, drop}
use Rattle.rsp_syntax.specs.Parsing.{is_too_deep}
use Rattle.rsp_syntax.proofs.saying.is_too_deep.Given as goal

abbrev pub invariant-loop-token : goal.invariant-loop-token
invariant-loop-token l = record {
  few : l.depth ≤ 32;
  rest : is_too_deep l.depth (drop l.token-index l.said) ≡ is_too_deep 0 l.said;
}
