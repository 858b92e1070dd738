-- What a reader does with a line that has come to its end.
use Rattle.std.proofs.Common.{◌≡◌, ℕ, ◌+◌, List, [], ◌∷◌, ◌++◌, refl, ap, sym, ◌∙◌, arith}
use Rattle.rsp_events.specs.declared.event.Block.{Block}
use Rattle.rsp_events.specs.declared.begun.BegunBlock.{BegunBlock}
use Rattle.rsp_events.specs.declared.begun.BegunBlock.TheVariants as begun
use Rattle.rsp_events.specs.declared.begun.HeldLine.{HeldLine}
use Rattle.rsp_events.specs.declared.blocks.Place.{Place}
use Rattle.rsp_events.specs.declared.blocks.Place.TheVariants.{Passed, Inside, Last}
use Rattle.rsp_events.specs.Lines.{Line}
use Rattle.rsp_events.specs.Begun.{begun_block_of, held_line_of}
use Rattle.rsp_events.specs.Reader.{Reader}
use Rattle.rsp_events.specs.Blocks.{content_of}
use Rattle.rsp_events.specs.Instants.{IsTimed}
use Rattle.rsp_events.specs.Steps.{TakesLine, place_of}

abbrev pub IsPlace : BegunBlock → HeldLine → Place → Type 0
IsPlace block held place =
    (group : List Line) (l : Line) → begun_block_of group ≡ block → held_line_of l ≡ held → place ≡ place_of group l

abbrev pub IsGrown : BegunBlock → HeldLine → ℕ → BegunBlock → Type 0
IsGrown block held number new =
    (group : List Line) (l : Line) → begun_block_of group ≡ block → held_line_of l ≡ held → l.number ≡ number
    → new ≡ begun_block_of (group ++ (l ∷ []))

pub passed : (old : Reader) (held : HeldLine) (place : Place) → IsPlace (old.block) held place → place ≡ Passed
    → TakesLine old held (record old { lines = old.lines + 1 }) []
passed old held place places is = record {
  document = refl;
  line = refl;
  lines = refl;
  block = λ group l at_group at_line _.
      rw (← places group l at_group at_line, is) (sym at_group);
  blocks = λ group l at_group at_line _.
      rw (← places group l at_group at_line, is) refl;
  number = omega arith;
  ready = refl;
  timed = tt;
}

pub inside : (old : Reader) (held : HeldLine) (place : Place) (new : Reader) → IsPlace (old.block) held place
    → place ≡ Inside → new ≡ record old { lines = old.lines + 1; block = new.block }
    → IsGrown (old.block) held (old.lines + 1) (new.block) → TakesLine old held new []
inside old held place new places is same grown = record {
  document = ap (λ (r : Reader). r.document) same;
  line = ap (λ (r : Reader). r.line) same;
  lines = ap (λ (r : Reader). r.lines) same;
  block = λ group l at_group at_line number.
      rw (← places group l at_group at_line, is) (grown group l at_group at_line number);
  blocks = λ group l at_group at_line _.
      rw (← places group l at_group at_line, is) refl;
  number = ap (λ (r : Reader). r.number) same ∙ omega arith;
  ready = ap (λ (r : Reader). r.spent) same;
  timed = tt;
}

-- the block that a reader gives of the lines so far
abbrev pub IsClosed : Reader → Block → Type 0
IsClosed old block =
    (group : List Line) → begun_block_of group ≡ old.block
    → block ≡ record { number = old.number; content = content_of old.document group }

pub last : (old : Reader) (held : HeldLine) (place : Place) (mid new : Reader) (block : Block)
    → IsPlace (old.block) held place → place ≡ Last → mid ≡ record old { lines = old.lines + 1; block = mid.block }
    → IsGrown (old.block) held (old.lines + 1) (mid.block) → IsClosed mid block → IsTimed block.content
    → new ≡ record mid { block = begun.Between; number = mid.number + 1 } → TakesLine old held new (block ∷ [])
last old held place mid new block places is same grown closed timed after = record {
  document = ap (λ (r : Reader). r.document) after ∙ ap (λ (r : Reader). r.document) same;
  line = ap (λ (r : Reader). r.line) after ∙ ap (λ (r : Reader). r.line) same;
  lines = ap (λ (r : Reader). r.lines) after ∙ ap (λ (r : Reader). r.lines) same;
  block = λ group l at_group at_line number.
      rw (← places group l at_group at_line, is) (ap (λ (r : Reader). r.block) after);
  blocks = λ group l at_group at_line number.
      rw (← places group l at_group at_line, is)
      (ap (λ (b : Block). b ∷ []) (closed (group ++ (l ∷ [])) (sym (grown group l at_group at_line number)))
      ∙ rw (ap (λ (r : Reader). r.number) same, ap (λ (r : Reader). r.document) same) refl);
  number = ap (λ (r : Reader). r.number) after ∙ ap (λ (r : Reader). r.number + 1) same;
  ready = ap (λ (r : Reader). r.spent) after ∙ ap (λ (r : Reader). r.spent) same;
  timed = (timed, tt);
}
