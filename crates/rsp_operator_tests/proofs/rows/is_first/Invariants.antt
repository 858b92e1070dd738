use Rattle.rsp_operator_tests.proofs.rows.is_first.Given as goal

-- the ledger is the one that the blank stands for
abbrev pub ghosts-first_of : goal.ghosts-first_of
ghosts-first_of call = record { name = call.blank.name; parts = call.blank.parts }
