use Rattle.command_line.proofs.subcommands.limit_in.Goals as goal

pub returns-in-Some : goal.returns-in-Some
returns-in-Some c = rw c.in-Some.is (rw c.in-Some.is at c.steps_in.ensures)
