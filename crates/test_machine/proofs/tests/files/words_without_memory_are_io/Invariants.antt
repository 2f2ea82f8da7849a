use Rattle.test_machine.proofs.tests.files.words_without_memory_are_io.Given as goal

abbrev pub ghosts-answer_to : goal.ghosts-answer_to
ghosts-answer_to g a = record { name = a.blank.name; parts = a.blank.parts }
