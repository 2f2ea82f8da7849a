use Rattle.std.proofs.Common.{refl, rules}
use Rattle.instruction_set.specs.Frames.{returns_on_psp}
use Rattle.regs.proofs.Popping.{popped_in_parts}
use Rattle.regs.proofs.Regs.pop_frame.Goals as goal

pub returns : goal.returns
returns c =
    popped_in_parts (returns_on_psp c.args.exc_return) c.args.self.now c.set_returned_stack.new.self
    c.pop_general.new.self c.set_link.new.self c.set_flags.new.self c.resume.new.self c.set_mode.new.self
    c.args.exc_return c.args.frame.now refl (search rules) (search rules) (search rules) (search rules) (search rules)
    (search rules)
