use Rattle.test_machine.proofs.tests.writers.run_gathered.Given as goal

abbrev pub ghosts-run_paged : goal.ghosts-run_paged
ghosts-run_paged g a = record { name = a.blank.name; parts = a.blank.parts }
