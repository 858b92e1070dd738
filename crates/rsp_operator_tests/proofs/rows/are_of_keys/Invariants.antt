use Rattle.rsp_operator_tests.proofs.rows.are_of_keys.Given as goal

-- the ledger is the one that the blank stands for
abbrev pub ghosts-of_key : goal.ghosts-of_key
ghosts-of_key call = record { name = call.blank.name; parts = call.blank.parts }
