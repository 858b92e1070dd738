use Rattle.rsp_tests.proofs.steps.counts_over_brand.Given as goal

-- the ledger is the one that the blank stands for
abbrev pub ghosts-two_ticks : goal.ghosts-two_ticks
ghosts-two_ticks a = record { name = a.blank.name; parts = a.blank.parts }
