use Rattle.std.proofs.Common.{inl}
use Rattle.command.proofs.SessionEnds.{failed_talk_of}
use Rattle.command.proofs.debugging.hold_session.Goals as goal
use Rattle.debugger.specs.Sessions.{session_of}
use Rattle.platform.specs.Boards.{numbers_of}

pub returns : goal.returns
returns g c = inl (record {
  last = c.session.new.machine;
  runs_session = failed_talk_of
      (λ saved. session_of (numbers_of c.args.opened.layout) saved c.args.opened.machine.state) _ _
      c.in-Ok.ensures.saved _ _ _ _ _ _ c.in-Err.field-0 c.in-Err.ensures.held c.in-Err.ensures.sent;
})
