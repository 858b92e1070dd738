use Rattle.std.proofs.Common.{◌≡◌, ◌+◌, ◌-◌, ◌*◌, map}
use Rattle.rsp_phrases.specs.Readers.{at_most_read, with_front}
use Rattle.rsp_written.specs.Grammar.{kind_number, numbers}
use Rattle.rsp_written.specs.Meanings.{operand_of}
use Rattle.rsp_read_expressions.specs.Levels.{inner_read, operand_read, operands_at_most, signs_of}
use Rattle.rsp_read_expressions.specs.declared.level.Parts.TheVariants.{Row}
use Rattle.rsp_read_expressions.proofs.Ranks.{part_rank}
use Rattle.rsp_read_expressions.proofs.rows.+rows.Given as goal

abbrev pub decreases-expression : goal.decreases-expression
decreases-expression g l = 32 * l.depth

abbrev pub decreases-row : goal.decreases-row
decreases-row g l = 32 * l.depth + (part_rank (Row l.level) + 3)

abbrev pub decreases-part : goal.decreases-part
decreases-part g l = 32 * l.depth + part_rank l.parts

abbrev pub decreases-operands : goal.decreases-operands
decreases-operands g l = 32 * l.depth + (part_rank l.parts + 2)

abbrev pub decreases-relation : goal.decreases-relation
decreases-relation g l = 32 * l.depth + 19

abbrev pub decreases-compared : goal.decreases-compared
decreases-compared g l = 32 * l.depth + 18

abbrev pub decreases-members : goal.decreases-members
decreases-members g l = 32 * l.depth + 18

abbrev pub decreases-primary : goal.decreases-primary
decreases-primary g l = 32 * l.depth + 8

abbrev pub decreases-call : goal.decreases-call
decreases-call g l = 32 * l.depth + 7

abbrev pub decreases-arguments : goal.decreases-arguments
decreases-arguments g l = 32 * l.depth + 6

abbrev pub decreases-bracketed_list : goal.decreases-bracketed_list
decreases-bracketed_list g l = 32 * l.depth + 5

abbrev pub decreases-list : goal.decreases-list
decreases-list g l = 32 * l.depth + 4

abbrev pub invariant-operands-loop : goal.invariant-operands-loop
invariant-operands-loop g l =
    with_front (map operand_of l.operands.items)
    (at_most_read kind_number (numbers (signs_of l.parts))
    (operand_read l.parts g.P.Primaries.first g.P.Primaries.reading (inner_read g.P.Primaries.first g.P.Primaries.reading l.depth))
    (l.most - l.counter) l.rest)
    ≡ operands_at_most l.parts l.most g.P.Primaries.first g.P.Primaries.reading
    (inner_read g.P.Primaries.first g.P.Primaries.reading l.depth) l.tokens
