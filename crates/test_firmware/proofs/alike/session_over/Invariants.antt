use Rattle.test_firmware.proofs.alike.session_over.Given as goal

-- the failed calls of the writer are counted in the ledger that `session_over` opens
abbrev pub ghosts-answer : goal.ghosts-answer
ghosts-answer g a = record { name = a.blank.name; parts = a.blank.parts }
