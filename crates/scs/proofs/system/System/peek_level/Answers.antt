use Rattle.std.proofs.Common.{rules}
use Rattle.scs.proofs.Devices.{rises_to}
use Rattle.scs.proofs.system.System.peek_level.Goals as goal

pub returns-then-not-is_high : goal.returns-then-not-is_high
returns-then-not-is_high g c =
    rises_to c.args.self.now c.args.due.now _ c.args.high.now _ c.args.level _ c.new-interrupt.ensures (search rules)
    (search rules) c.put_signal.ensures c.take_signal-then-not-is_high.ensures
