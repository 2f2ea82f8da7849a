use Rattle.survey_run.proofs.survey_step.Given as goal

abbrev pub ghosts-count_step : goal.ghosts-count_step
ghosts-count_step g a = record { start = a.start.now; survey = a.survey.now }
