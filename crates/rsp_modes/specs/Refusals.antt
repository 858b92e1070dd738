-- Definitions: the line of a refusal: where it is, its number and its name, and its details.
use Rattle.std.specs.Prelude.{ℕ, List, [], ◌++◌, codes}
use Rattle.std.specs.Fmt.{decimal}
use Rattle.rsp_events.specs.declared.event.BlockFault.{BlockFault}
use Rattle.rsp_events.specs.declared.event.BlockFault.TheVariants.{BadBody, BadDirective, BlockTooLarge}
use Rattle.rsp_events.specs.declared.refused.RefusedAs.{RefusedAs}
use Rattle.rsp_events.specs.declared.refused.RefusedAs.TheVariants.{BadStatement, RelativeIri, NoTimeLine}
use Rattle.rsp_numbering.specs.declared.limit.LimitName.{LimitName}
use Rattle.rsp_numbering.specs.declared.limit.LimitName.TheVariants as name
use Rattle.rsp_syntax.specs.declared.fault.SyntaxFault.TheVariants as syntax
use Rattle.rsp_translation.specs.declared.shape.Shape.TheVariants as shape
use Rattle.rsp_engine.specs.declared.refused.TextFault.TheVariants.{Syntax, Shape, Policy}
use Rattle.rsp_engine.specs.declared.refused.Refused.{Refused}
use Rattle.rsp_engine.specs.declared.refused.Refused.TheVariants.{Text, Late, NameTaken, NoQuery, QueriesFull}
use Rattle.rsp_engine.specs.declared.refused.Refused.TheVariants.{HeldFull, StoreFull, ItemTooLarge, SlackTuple, StartOverfull}
use Rattle.rsp_modes.specs.declared.refusals.Place.{Place}
use Rattle.rsp_modes.specs.declared.refusals.Place.TheVariants.{Block, Query, Line}

-- why: a line of a file isn't taken, a block is no event, or its event is refused
pub data Reason : Type 0 where
  of_line : RefusedAs → Reason
  of_block : BlockFault → Reason
  of_event : Refused → Reason

-- the word of a limit
abbrev pub limit_word : LimitName → List ℕ
limit_word name.Text = codes "text"
limit_word name.Nesting = codes "nesting"
limit_word name.Windows = codes "windows"
limit_word name.Span = codes "span"
limit_word name.Variables = codes "variables"
limit_word name.Patterns = codes "patterns"
limit_word name.Operators = codes "operators"
limit_word name.Elements = codes "elements"
limit_word name.Rows = codes "rows"

-- the number, the name and the details of each; want of memory has none
abbrev pub row : Reason → ℕ × List ℕ × List ℕ
row (of_line (BadStatement column)) = (1, codes "BadStatement", codes " column=" ++ decimal column)
row (of_line (RelativeIri column)) = (2, codes "RelativeIri", codes " column=" ++ decimal column)
row (of_block BadDirective) = (3, codes "BadDirective", [])
row (of_block (BadBody line)) = (4, codes "BadBody", codes " line=" ++ decimal line)
row (of_block BlockTooLarge) = (5, codes "BlockTooLarge", [])
row (of_line NoTimeLine) = (6, codes "NoTimeLine", [])
row (of_event (Text (Syntax (syntax.BadToken at)))) = (7, codes "BadToken", codes " at=" ++ decimal at)
row (of_event (Text (Syntax (syntax.Syntax at)))) = (8, codes "Syntax", codes " at=" ++ decimal at)
row (of_event (Text (Syntax (syntax.LeftOut at what)))) =
    (9, codes "LeftOut", codes " at=" ++ (decimal at ++ (codes " what=" ++ what)))
row (of_event (Text (Syntax (syntax.Limit what)))) = (10, codes "Limit", codes " what=" ++ limit_word what)
row (of_event (Text (Shape (shape.GraphShape at)))) = (11, codes "GraphShape", codes " at=" ++ decimal at)
row (of_event (Text (Shape (shape.ExistsShape at)))) = (12, codes "ExistsShape", codes " at=" ++ decimal at)
row (of_event (Text (Shape (shape.Scope variable)))) = (13, codes "Scope", codes " variable=" ++ variable)
row (of_event (Text (Policy mix))) = (14, codes "PolicyMix", [])
row (of_event (Late time next)) = (15, codes "Late", codes " time=" ++ (decimal time ++ (codes " next=" ++ decimal next)))
row (of_event NameTaken) = (16, codes "NameTaken", [])
row (of_event NoQuery) = (17, codes "NoQuery", [])
row (of_event QueriesFull) = (18, codes "QueriesFull", [])
row (of_event (HeldFull held)) = (19, codes "HeldFull", codes " held=" ++ decimal held)
row (of_event (StoreFull quads)) = (20, codes "StoreFull", codes " quads=" ++ decimal quads)
row (of_event (ItemTooLarge triples)) = (21, codes "ItemTooLarge", codes " triples=" ++ decimal triples)
row (of_event SlackTuple) = (23, codes "SlackTuple", [])
row (of_event StartOverfull) = (25, codes "StartOverfull", [])
row (of_event _) = (0, [], [])

-- where: a block by its number, the query that is checked, or a line by its number in the file of a name
abbrev pub place_text : Place → List ℕ
place_text (Block number) = codes "block " ++ decimal number
place_text Query = codes "query"
place_text (Line file line) = codes "file " ++ (file ++ (codes " line " ++ decimal line))

-- the line
abbrev pub refusal_line : Place → Reason → List ℕ
refusal_line place reason =
    codes "# refused "
    ++ (place_text place
    ++ (codes " " ++ (decimal (row reason).0 ++ (codes " " ++ ((row reason).1 ++ ((row reason).2 ++ codes "\n"))))))
