use Rattle.rsp_operator_tests.proofs.facts.take_all.Given as goal

-- the ledger is the one that the blank stands for
abbrev pub ghosts-how_many : goal.ghosts-how_many
ghosts-how_many call = record { name = call.blank.name; parts = call.blank.parts }
