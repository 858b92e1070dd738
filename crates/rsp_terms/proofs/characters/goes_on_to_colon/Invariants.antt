use Rattle.std.proofs.Common.{◌≡◌, drop}
use Rattle.rsp_terms.specs.Characters.{goes_on_to_colon}
use Rattle.rsp_terms.proofs.characters.goes_on_to_colon.Given as goal

abbrev pub invariant-loop-c : goal.invariant-loop-c
invariant-loop-c l = goes_on_to_colon (drop l.c-index l.text) ≡ goes_on_to_colon l.text
