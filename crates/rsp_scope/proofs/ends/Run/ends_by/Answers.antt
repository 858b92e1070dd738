use Rattle.rsp_scope.proofs.ends.Run.ends_by.Goals as goal

pub returns : goal.returns
returns c taken d some = rw (← c.self.view_is) (c.ends_by.ensures taken d (rw (← c.self.view_is) at some))
