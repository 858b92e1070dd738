use Rattle.std.proofs.Common.{◌≡◌, ◌∙◌, [], ap, arith, eqb-true, length, sym, true}
use Rattle.std.proofs.lemmas.List.{nil_from_length}
use Rattle.rsp_engine.specs.Readers.{list_of}
use Rattle.rsp_engine.proofs.ReaderLists.{forgotten}
use Rattle.rsp_engine.proofs.readers.tidy.Goals.{else-is_empty, then-is_empty+in-None-1, then-is_empty+in-Some-1}
use Rattle.rsp_engine.proofs.readers.tidy.Goals as goal

pub loop-window-preserved : goal.loop-window-preserved
loop-window-preserved g c =
    let before = c.loop-window.invariant in
    let lists = c.loop-window.lists.entries in
    let stream = c.window-item.result.stream in
    let none = λ (empty : c.is_empty.result ≡ true).
    let no_place : length c.listed.result.now ≡ 0 = eqb-true (length c.listed.result.now) 0 (sym c.is_empty.ensures ∙ empty) in
    let is_none : list_of lists stream ≡ [] = sym c.listed.ensures ∙ nil_from_length c.listed.result.now (omega (arith, no_place)) in
    is_none in
    elim c.if-is_empty.branch [
      | then-is_empty+in-Some-1 w ↦ λ s.
          ap (λ l. list_of l.entries s) w.lists-is
          ∙ (forgotten lists w.swap_remove.new.self.entries stream (none w.if-is_empty.true) w.swap_remove.ensures.updates.0 s ∙ before s)
      | then-is_empty+in-None-1 w ↦ λ s.
          ap (λ l. list_of l.entries s) w.lists-is
          ∙ (forgotten lists w.swap_remove.new.self.entries stream (none w.if-is_empty.true) w.swap_remove.ensures.updates.0 s ∙ before s)
      | else-is_empty w ↦ λ s. ap (λ l. list_of l.entries s) w.lists-is ∙ before s
    ]
