use Rattle.rsp_query_tests.proofs.plans.at_first.Given as goal

-- the ledger of a count that nobody reads
abbrev pub ghosts-first_told : goal.ghosts-first_told
ghosts-first_told call = record { name = call.blank.name; parts = call.blank.parts }
