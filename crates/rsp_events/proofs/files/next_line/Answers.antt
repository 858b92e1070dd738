use Rattle.std.proofs.Common.{rules}
use Rattle.rsp_events.proofs.FileLines.{first_line, last_line}
use Rattle.rsp_events.proofs.files.next_line.Goals as goal

pub returns-in-None-clause-lines : goal.returns-in-None-clause-lines
returns-in-None-clause-lines c n =
    last_line n _ _ _ _ (λ none. search rules) c.line_end.ensures.place c.split_at.ensures.front c.split_at.ensures.back c.in-None.ensures.cases

pub returns-in-Some-clause-lines : goal.returns-in-Some-clause-lines
returns-in-Some-clause-lines c n =
    rw c.without_return.ensures
    (first_line n _ _ _ _ _ _ c.line_end.ensures.place c.split_at.ensures.front c.split_at.ensures.back c.in-Some.ensures.cases.0)
