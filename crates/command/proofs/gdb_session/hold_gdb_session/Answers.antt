use Rattle.std.proofs.Common.{inl, ap}
use Rattle.command.proofs.SessionEnds.{failed_talk_of}
use Rattle.command.proofs.gdb_session.hold_gdb_session.Goals as goal
use Rattle.command.specs.Gdb.{gdb_session}
use Rattle.gdb_server.specs.Conduct.{Server}
use Rattle.platform.specs.Boards.{numbers_of}

pub returns : goal.returns
returns g c = inl (record {
  last = c.serve_machine.new.machine;
  runs_session = failed_talk_of
      (λ devices. gdb_session (numbers_of c.args.opened.layout) devices c.args.steps c.args.opened.machine.state) _ _
      (ap (λ (server : Server). server.session.devices) c.in-Ok.ensures) _ _ _ _ _ _
      c.in-Err.field-0 c.in-Err.ensures.held c.in-Err.ensures.sent;
})
