use Rattle.test_firmware.proofs.alike.run_session.Given as goal

-- the failed calls of the reader are counted in the ledger that `run_session` opens
abbrev pub ghosts-session_over : goal.ghosts-session_over
ghosts-session_over g a = record { name = a.blank.name; parts = a.blank.parts }
