use Rattle.rsp_windows.proofs.congruence.+divide_out.Given as goal

abbrev pub decreases-divide_out : goal.decreases-divide_out
decreases-divide_out l = l.b
