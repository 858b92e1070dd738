use Rattle.rsp_tests.proofs.engine.said.Given as goal

-- the ledger of a count that nobody reads
abbrev pub ghosts-answers : goal.ghosts-answers
ghosts-answers call = record { name = call.blank.name; parts = call.blank.parts }
