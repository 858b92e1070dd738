use Rattle.rsp_operator_tests.proofs.rows.are_listed.Given as goal

-- the ledger is the one that the blank stands for
abbrev pub ghosts-of_all : goal.ghosts-of_all
ghosts-of_all call = record { name = call.blank.name; parts = call.blank.parts }
