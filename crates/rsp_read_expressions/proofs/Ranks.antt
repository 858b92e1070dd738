-- How far each function is from the next bracket.
use Rattle.std.proofs.Common.{ℕ}
use Rattle.rsp_read_expressions.specs.declared.level.Level.TheVariants as level
use Rattle.rsp_read_expressions.specs.declared.level.Parts.{Parts}
use Rattle.rsp_read_expressions.specs.declared.level.Parts.TheVariants.{Row, Arguments}

-- of what stands between the signs; the row itself is three above it
abbrev pub part_rank : Parts → ℕ
part_rank Arguments = 1
part_rank (Row level.Product) = 10
part_rank (Row level.Sum) = 14
part_rank (Row level.And) = 20
part_rank (Row level.Or) = 24
