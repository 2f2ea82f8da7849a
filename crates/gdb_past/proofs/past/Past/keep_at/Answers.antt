use Rattle.std.proofs.Common.{◌-◌, ◌∙◌, ap, arith, refl, slice_index_or}
use Rattle.gdb_past.proofs.Following.{after_from}
use Rattle.machine.specs.MachineModel.{MachineModel}
use Rattle.reference.specs.Run.{after}
use Rattle.reference.specs.State.{State}
use Rattle.gdb_past.proofs.past.Past.keep_at.Goals as goal

pub returns-then-to-from-clause-state : goal.returns-then-to-from-clause-state
returns-then-to-from-clause-state g c = λ m.
    ap (λ (s : State). record c.args.machine.now { state = s }) (c.requires.state m)

pub save_to-requires-clause-state : goal.save_to-requires-clause-state
save_to-requires-clause-state g c = λ m.
    after_from c.args.from c.args.to (slice_index_or c.args.self.now.marks 0 m) c.args.machine.now.state
    c.make_steps.new.machine.state (omega arith) (c.requires.state m)
    (ap (λ (k : MachineModel). k.state) c.make_steps.ensures)

pub returns-clause-state : goal.returns-clause-state
returns-clause-state g c = λ m.
    c.make_steps.ensures ∙ ap (λ (s : State). record c.args.machine.now { state = s })
    (after_from c.args.from c.args.to (slice_index_or c.args.self.now.marks 0 m) c.args.machine.now.state
    (after (c.args.to - c.args.from) c.args.machine.now.state) (omega arith) (c.requires.state m) refl)
