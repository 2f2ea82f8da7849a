use Rattle.command.proofs.commands.program.Given as goal

-- the failed calls of the reader, of the writer and of the files are counted in the ledgers that `program` opens
abbrev pub ghosts-end_streams-J-Ledger : goal.ghosts-end_streams-J-Ledger
ghosts-end_streams-J-Ledger g a = record { name = a.blanks.read.name; parts = a.blanks.read.parts }

abbrev pub ghosts-end_streams-K-Ledger : goal.ghosts-end_streams-K-Ledger
ghosts-end_streams-K-Ledger g a = record { name = a.blanks.sent.name; parts = a.blanks.sent.parts }

abbrev pub ghosts-end_streams-L-Ledger : goal.ghosts-end_streams-L-Ledger
ghosts-end_streams-L-Ledger g a = record { name = a.blanks.saved.name; parts = a.blanks.saved.parts }
