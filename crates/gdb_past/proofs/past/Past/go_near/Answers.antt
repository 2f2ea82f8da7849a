use Rattle.std.proofs.Common.{◌≡◌, ◌∙◌, ap, arith, slice_index_or, sym}
use Rattle.gdb_past.proofs.Checkpointing.{further, same_further}
use Rattle.machine.specs.MachineModel.{MachineModel}
use Rattle.reference.specs.Run.{after}
use Rattle.reference.specs.State.{State}
use Rattle.gdb_past.proofs.past.Past.go_near.Goals as goal

pub returns-then-number-gt0-clause-state : goal.returns-then-number-gt0-clause-state
returns-then-number-gt0-clause-state g c = λ m.
    further c.args.machine.now c.restore_near-at.new.machine c.make_steps.new.machine
    (slice_index_or c.args.self.now.marks c.args.number m) c.restore_near-at.result c.args.least
    (omega (arith, c.if-least-at.false)) (c.restore_near-at.ensures.state m) c.make_steps.ensures

pub returns-then-number-gt0-clause-same : goal.returns-then-number-gt0-clause-same
returns-then-number-gt0-clause-same g c =
    let m : State = c.args.machine.now.state in
    let mark : State = slice_index_or c.args.self.now.marks c.args.number m in
    same_further c.args.self.now.start mark c.restore_near-at.new.machine.state c.make_steps.new.machine.state
    c.restore_near-at.result c.args.least (ap (λ (k : MachineModel). k.state) (c.restore_near-at.ensures.state m))
    (ap (λ (k : MachineModel). k.state)
    (further c.args.machine.now c.restore_near-at.new.machine c.make_steps.new.machine mark c.restore_near-at.result
    c.args.least (omega (arith, c.if-least-at.false)) (c.restore_near-at.ensures.state m) c.make_steps.ensures))
    c.restore_near-at.ensures.same

pub returns-clause-same : goal.returns-clause-same
returns-clause-same g c =
    let m : State = c.args.machine.now.state in
    let last : c.args.number ≡ 0 = omega (arith, c.if-number-gt0.false) in
    same_further c.args.self.now.start (slice_index_or c.args.self.now.marks c.args.number m)
    c.restore_near-at.new.machine.state c.advance.new.machine.state c.restore_near-at.result c.args.least
    (ap (λ (k : MachineModel). k.state) (c.restore_near-at.ensures.state m))
    (ap (λ (k : MachineModel). k.state) (c.advance.ensures.state m)
    ∙ ap (λ i. after c.args.least (slice_index_or c.args.self.now.marks i m)) (sym last))
    c.restore_near-at.ensures.same
