use Rattle.std.proofs.Common.{◌≡◌, map, drop}
use Rattle.rsp_said.specs.Tables.{kind_in}
use Rattle.rsp_said.proofs.tables.kind_in.Given as goal

abbrev pub invariant-loop-name : goal.invariant-loop-name
invariant-loop-name l =
    kind_in (map (λ entry. (entry.0.now, entry.1)) (drop l.name-index l.table)) l.text
    ≡ kind_in (map (λ entry. (entry.0.now, entry.1)) l.table) l.text
