use Rattle.std.proofs.Common.{◌∙◌}
use Rattle.gdb_past.proofs.Following.{after_none}
use Rattle.gdb_past.proofs.position.Position.new.Goals as goal

pub returns : goal.returns
returns g c = after_none _ ∙ c.in_ok-save.ensures
