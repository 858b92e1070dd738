use Rattle.std.proofs.Common.{◌≡◌, ◌++◌, List, ℕ, drop}
use Rattle.rsp_terms.specs.Terms.{escaped_text}
use Rattle.rsp_terms.proofs.printing.push_escaped.Given as goal

abbrev pub invariant-loop-byte : goal.invariant-loop-byte
invariant-loop-byte l = record {
  text : l.out.items ++ escaped_text (drop l.byte-index l.bytes) ≡ l.fn.out.items ++ escaped_text l.fn.bytes;
  begun : (rest : List ℕ) × (l.out.items ≡ l.fn.out.items ++ rest);
}
