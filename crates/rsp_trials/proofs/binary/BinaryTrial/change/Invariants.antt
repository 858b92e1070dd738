use Rattle.rsp_trials.proofs.binary.BinaryTrial.change.Given as goal

-- the ledger is the one that the blank stands for
abbrev pub ghosts-answer : goal.ghosts-answer
ghosts-answer g a = record { name = a.blank.name; parts = a.blank.parts }
