-- Words of the way: rows of signs and lists of arguments as one reading, by what stands between the parts.
use Rattle.std.specs.Prelude.{ℕ, List}
use Rattle.rsp_phrases.specs.Readers.{Reader, mapped_read, both_read, nested_read, at_most_read}
use Rattle.rsp_read_expressions.specs.declared.level.Level.{Level}
use Rattle.rsp_read_expressions.specs.declared.level.Level.TheVariants as level
use Rattle.rsp_read_expressions.specs.declared.level.Parts.{Parts}
use Rattle.rsp_read_expressions.specs.declared.level.Parts.TheVariants.{Row, Arguments}
use Rattle.rsp_written.specs.declared.said.Kind.{Kind}
use Rattle.rsp_written.specs.declared.said.Said.{Said}
use Rattle.rsp_written.specs.declared.said.Symbol.TheVariants as symbol
use Rattle.rsp_written.specs.Trees.{Expr}
use Rattle.rsp_written.specs.Building.{any_row, all_row, sum_row, product_row, signed_part}
use Rattle.rsp_written.specs.Grammar.{kind_number, numbers, or_signs, and_signs, sum_signs, product_signs}
use Rattle.rsp_written.specs.Readings.{one_read, sign_kinds, row_read, and_read, relation_read, product_read, unary_read, or_read}

abbrev pub row_signs : Level → List Kind
row_signs level.Or = or_signs
row_signs level.And = and_signs
row_signs level.Sum = sum_signs
row_signs level.Product = product_signs

-- the tree of a row
abbrev pub row_of : Level → Expr × List (Kind × Expr) → Expr
row_of level.Or = any_row
row_of level.And = all_row
row_of level.Sum = sum_row
row_of level.Product = product_row

abbrev pub row_part_read : Level → List ℕ → Reader Said Expr → Reader Said Expr → Reader Said Expr
row_part_read level.Or ks x s = and_read ks x s
row_part_read level.And ks x s = relation_read ks x s
row_part_read level.Sum ks x s = product_read ks x s
row_part_read level.Product ks x s = unary_read ks x s

abbrev pub level_read : Level → List ℕ → Reader Said Expr → Reader Said Expr → Reader Said Expr
level_read at ks x s = row_read (row_signs at) (row_of at) (row_part_read at ks x s)

abbrev pub signs_of : Parts → List Kind
signs_of (Row at) = row_signs at
signs_of Arguments = sign_kinds symbol.Comma

abbrev pub part_read : Parts → List ℕ → Reader Said Expr → Reader Said Expr → Reader Said Expr
part_read (Row at) ks x s = row_part_read at ks x s
part_read Arguments ks x s = s

-- a sign and the part behind it
abbrev pub operand_read : Parts → List ℕ → Reader Said Expr → Reader Said Expr → Reader Said (Kind × Expr)
operand_read parts ks x s = mapped_read signed_part (both_read (one_read (signs_of parts)) (part_read parts ks x s))

-- at most so many of them
abbrev pub operands_at_most : Parts → ℕ → List ℕ → Reader Said Expr → Reader Said Expr → Reader Said (List (Kind × Expr))
operands_at_most parts most ks x s = at_most_read kind_number (numbers (signs_of parts)) (operand_read parts ks x s) most

-- the expression within itself at most so deep
unfoldable pub inner_read : List ℕ → Reader Said Expr → ℕ → Reader Said Expr
inner_read ks x depth = nested_read (or_read ks x) depth
