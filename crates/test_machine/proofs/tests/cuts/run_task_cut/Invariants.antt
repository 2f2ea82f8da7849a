use Rattle.test_machine.proofs.tests.cuts.run_task_cut.Given as goal

-- the failed calls of the writer are counted in the ledger that `run_task_cut` opens
abbrev pub ghosts-run_task_over : goal.ghosts-run_task_over
ghosts-run_task_over g a = record { name = a.blank.name; parts = a.blank.parts }
