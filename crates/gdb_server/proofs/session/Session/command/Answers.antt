use Rattle.std.proofs.Common.{◌≡◌, OnOk, ap}
use Rattle.gdb_server.proofs.Ahead.{commanded_ahead}
use Rattle.gdb_server.proofs.Marking.{session_commanded}
use Rattle.gdb_server.specs.Commands.{command_of}
use Rattle.gdb_server.specs.Conduct.{commanded}
use Rattle.machine.specs.MachineModel.{MachineModel}
use Rattle.reference.specs.State.{State}
use Rattle.gdb_server.proofs.session.Session.command.Goals as goal

pub returns-clause-kept : goal.returns-clause-kept
returns-clause-kept g c =
    session_commanded c.report.result c.args.self.now c.place_by-refused.new.self c.change_settings.new.self
    c.report.new.self c.args.machine.now.state c.read_command-asked.result (command_of c.args.digits.now)
    c.read_command-asked.ensures c.place_by-refused.ensures.kept c.change_settings.ensures c.report.ensures.kept

pub returns-clause-ahead : goal.returns-clause-ahead
returns-clause-ahead g c =
    let k = c.args.self.now in
    let s : State = c.args.machine.now.state in
    let asked = command_of c.args.digits.now in
    let kept : OnOk c.report.result (c.report.new.self ≡ (commanded k s asked).session) =
    session_commanded c.report.result k c.place_by-refused.new.self c.change_settings.new.self c.report.new.self s
    c.read_command-asked.result asked c.read_command-asked.ensures c.place_by-refused.ensures.kept
    c.change_settings.ensures c.report.ensures.kept in
    commanded_ahead c.report.result k c.report.new.self c.place_by-refused.new.machine s c.read_command-asked.result
    asked c.read_command-asked.ensures kept
    (ap (λ (m : MachineModel). m.state) c.place_by-refused.ensures.writes.0) c.requires

pub place_by-refused-requires : goal.place_by-refused-requires
place_by-refused-requires g c = c.requires.fits
