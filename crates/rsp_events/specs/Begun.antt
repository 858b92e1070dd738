-- Words of the way: what a reader keeps of a line and of a block that have begun.
--
-- It keeps their bytes, as long as they are no more than a block may have.
use Rattle.std.specs.Prelude.{ℕ, ◌≢◌, Bool, false, not, nat_lt, if◌then◌else◌, List, [], ◌∷◌, filter, map, length}
use Rattle.std.specs.List.{AllByRecursion, before_first, flat_map, list_any}
use Rattle.std.specs.Str.Lines.{strip_carriage_return}
use Rattle.rsp_spec.specs.Limits.{most_block_bytes}
use Rattle.rsp_events.specs.declared.begun.Ending.{Ending}
use Rattle.rsp_events.specs.declared.begun.BegunLine.{BegunLine}
use Rattle.rsp_events.specs.declared.begun.BegunLine.TheVariants as line
use Rattle.rsp_events.specs.declared.begun.BegunBlock.{BegunBlock}
use Rattle.rsp_events.specs.declared.begun.BegunBlock.TheVariants as block
use Rattle.rsp_events.specs.declared.begun.HeldLine.{HeldLine}
use Rattle.rsp_events.specs.declared.begun.HeldLine.TheVariants as held
use Rattle.rsp_events.specs.Blocks.{groups, is_whole}
use Rattle.rsp_events.specs.Lines.{Line, ends_body, is_end, is_long, parts, size_of, sizes_of, text_of}

-- no line feed among the bytes
abbrev pub IsInLine : List ℕ → Type 0
IsInLine bytes = AllByRecursion (λ b. b ≢ 10) bytes

-- the groups that lack nothing
abbrev pub whole_groups : List Line → List (List Line)
whole_groups lines = filter is_whole (groups lines)

-- the lines of the group that lacks its `@end`; it is the last
abbrev pub begun_group : List Line → List Line
begun_group lines = flat_map (λ group. group) (filter (λ group. not (is_whole group)) (groups lines))

abbrev pub last_part : List (List ℕ) → List ℕ
last_part [] = []
last_part (x ∷ []) = x
last_part (x ∷ y ∷ more) = last_part (y ∷ more)

-- the bytes behind the last line feed
abbrev pub begun_line : List ℕ → List ℕ
begun_line bytes = last_part (parts bytes)

-- whether bytes are an `@end`, as the last line of a text and as a line that a line feed ends
abbrev pub ending_of : List ℕ → Ending
ending_of bytes = record { last = is_end bytes; fed = is_end (strip_carriage_return bytes) }

-- of a line with more bytes than a block may have it is kept only how it may end a body
abbrev pub begun_line_of : List ℕ → BegunLine
begun_line_of bytes = if nat_lt most_block_bytes (length bytes) then line.Long (ending_of bytes) else line.Kept bytes

-- the same of a line that has come to its end
abbrev pub held_line_of : Line → HeldLine
held_line_of l = if is_long l then held.Long (is_end (text_of l)) else held.Kept (text_of l) (size_of l)

-- of a block with more bytes than it may have nothing is kept; else its lines before an `@end`, and whether it has one
abbrev pub begun_block_of : List Line → BegunBlock
begun_block_of [] = block.Between
begun_block_of (head ∷ body) =
    if nat_lt most_block_bytes (sizes_of (head ∷ body))
    then block.TooLarge
    else
    block.Within
    head.number
    (text_of head ∷ before_first is_end (map text_of body))
    (list_any is_end (map text_of body))
    (sizes_of (head ∷ body))

-- whether a line ends the body of the group that has begun
abbrev pub ends_group : List Line → Line → Bool
ends_group [] line = false
ends_group (head ∷ body) line = ends_body line
