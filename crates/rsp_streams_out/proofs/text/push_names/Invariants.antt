use Rattle.std.proofs.Common.{◌≡◌, ◌++◌, ◌∷◌, List, ℕ, map, drop}
use Rattle.std.specs.List.{join_with_byte}
use Rattle.rsp_streams_out.proofs.Tabs.{after_tabs}
use Rattle.rsp_streams_out.proofs.text.push_names.Given as goal

abbrev pub invariant-loop-variable : goal.invariant-loop-variable
invariant-loop-variable l = record {
  text : l.out.items ++ after_tabs (map (λ name. 63 ∷ name) (drop l.variable-index l.others))
      ≡ l.fn.out.items ++ join_with_byte 9 (map (λ name. 63 ∷ name) l.fn.variables);
  begun : (rest : List ℕ) × (l.out.items ≡ l.fn.out.items ++ rest);
}
