-- Definitions: the blocks of a whole text.
use Rattle.std.specs.Prelude.{ℕ, zero, suc, ◌+◌, Bool, true, ◌||◌, not, nat_lt, if◌then◌else◌, List, [], ◌∷◌, length, filter}
use Rattle.std.specs.Prelude.{map, take}
use Rattle.std.specs.List.{after_first, enumerate_from, list_any, position_or_len}
use Rattle.rsp_spec.specs.Limits.{most_block_bytes}
use Rattle.rsp_events.specs.declared.event.Content.{Content}
use Rattle.rsp_events.specs.declared.event.Content.TheVariants.{Fault}
use Rattle.rsp_events.specs.declared.event.BlockFault.TheVariants.{BlockTooLarge}
use Rattle.rsp_events.specs.declared.event.Block.{Block}
use Rattle.rsp_events.specs.Lines.{Line, log_lines, text_of, sizes_of, passes, begins_body, ends_body}
use Rattle.rsp_events.specs.Contents.{content_of_texts}

-- ---- groups of lines, one for each block

-- the groups of at most n lines: a line is passed over, or begins a block with its body up to the first `@end`, that one
-- included, or is a block
abbrev pub groups_within : ℕ → List Line → List (List Line)
groups_within zero lines = []
groups_within (suc n) [] = []
groups_within (suc n) (line ∷ lines) =
    if passes line
    then groups_within n lines
    else
    (if begins_body line
    then (line ∷ take (position_or_len ends_body lines + 1) lines) ∷ groups_within n (after_first ends_body lines)
    else (line ∷ []) ∷ groups_within n lines)

abbrev pub groups : List Line → List (List Line)
groups lines = groups_within (length lines) lines

-- a group that lacks nothing: it has no body, or its body has its `@end`
abbrev pub is_whole : List Line → Bool
is_whole [] = true
is_whole (head ∷ body) = not (begins_body head) || list_any ends_body body

-- ---- lines that have ended

-- the lines that end with a line feed within the bytes
abbrev pub ended_lines : List ℕ → List Line
ended_lines bytes = filter (λ (line : Line). line.ended) (log_lines bytes)

-- ---- blocks

-- what a group holds, as lines of this document: an event, or its first fault
abbrev pub content_of : ℕ → List Line → Content
content_of document [] = Fault BlockTooLarge
content_of document (head ∷ body) =
    if nat_lt most_block_bytes (sizes_of (head ∷ body))
    then Fault BlockTooLarge
    else content_of_texts document head.number (map text_of (head ∷ body))

-- blocks are numbered in order
abbrev pub numbered_from : ℕ → ℕ → List (List Line) → List Block
numbered_from document number groups =
    map (λ (x : ℕ × List Line). record { number = x.0; content = content_of document x.1 }) (enumerate_from number groups)

-- the blocks of a whole text
abbrev pub blocks : ℕ → List ℕ → List Block
blocks document bytes = numbered_from document 1 (groups (log_lines bytes))

-- the blocks whose last line has ended: all, or all but the last
abbrev pub whole_blocks : ℕ → List ℕ → List Block
whole_blocks document bytes = numbered_from document 1 (filter is_whole (groups (ended_lines bytes)))
