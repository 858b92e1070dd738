use Rattle.rsp_query_tests.proofs.plans.beside.Given as goal

-- the ledger of a count that nobody reads
abbrev pub ghosts-run_beside : goal.ghosts-run_beside
ghosts-run_beside call = record { name = call.blank.name; parts = call.blank.parts }
