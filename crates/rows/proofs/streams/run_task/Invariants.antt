use Rattle.rows.proofs.streams.run_task.Given as goal

abbrev pub ghosts-run_task_over : goal.ghosts-run_task_over
ghosts-run_task_over g a = record { name = a.blank.name; parts = a.blank.parts }
