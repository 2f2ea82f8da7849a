use Rattle.test_machine.proofs.tests.cut_sessions.hold.Given as goal

-- the failed calls of the reader and of the writer are counted in the two ledgers that `hold` opens
abbrev pub ghosts-hold_over-J-Ledger : goal.ghosts-hold_over-J-Ledger
ghosts-hold_over-J-Ledger g a = record { name = a.first.name; parts = a.first.parts }

abbrev pub ghosts-hold_over-K-Ledger : goal.ghosts-hold_over-K-Ledger
ghosts-hold_over-K-Ledger g a = record { name = a.second.name; parts = a.second.parts }
