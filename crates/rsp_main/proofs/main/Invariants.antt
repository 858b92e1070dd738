use Rattle.rsp_main.proofs.main.Given as goal

-- the ledger of a count that nobody reads
abbrev pub ghosts-run : goal.ghosts-run
ghosts-run a = record { name = a.blank.name; parts = a.blank.parts }
