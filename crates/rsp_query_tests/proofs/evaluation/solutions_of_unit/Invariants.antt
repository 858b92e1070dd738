use Rattle.rsp_query_tests.proofs.evaluation.solutions_of_unit.Given as goal

-- the ledger is the one that the blank stands for
abbrev pub ghosts-solutions_after_one : goal.ghosts-solutions_after_one
ghosts-solutions_after_one a = record { name = a.blank.name; parts = a.blank.parts }
