use Rattle.gdb_server.proofs.Ahead.{ready_first}
use Rattle.command.proofs.gdb_session.serve_machine.Goals as goal

pub serve-requires-clause-ready : goal.serve-requires-clause-ready
serve-requires-clause-ready g c = rw c.requires (ready_first c.args.machine.now.state)
