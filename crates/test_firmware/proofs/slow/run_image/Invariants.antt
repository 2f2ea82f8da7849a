use Rattle.test_firmware.proofs.slow.run_image.Given as goal

-- the failed calls of the writer are counted in the ledger that `run_image` opens
abbrev pub ghosts-write_trace : goal.ghosts-write_trace
ghosts-write_trace g a = record { name = a.blank.name; parts = a.blank.parts }
