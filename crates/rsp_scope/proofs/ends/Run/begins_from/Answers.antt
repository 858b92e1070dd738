use Rattle.rsp_scope.proofs.ends.Run.begins_from.Goals as goal

pub returns : goal.returns
returns c taken d some = rw (← c.self.view_is) (c.begins_from.ensures taken d (rw (← c.self.view_is) at some))
