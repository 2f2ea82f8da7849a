use Rattle.board.proofs.Devices.{line_of_is}
use Rattle.board.proofs.device_effects.line_of.Goals as goal

pub returns : goal.returns
returns c = line_of_is c.args.number c.args.enable _
