use Rattle.std.proofs.Common.{◌≡◌, ◌++◌, map, drop}
use Rattle.rsp_syntax.specs.Parsing.{said_token}
use Rattle.rsp_syntax.proofs.saying.all_said.Given as goal

abbrev pub invariant-loop-token : goal.invariant-loop-token
invariant-loop-token l =
    l.all.items ++ map (said_token l.text) (drop l.token-index l.tokens) ≡ map (said_token l.text) l.tokens
