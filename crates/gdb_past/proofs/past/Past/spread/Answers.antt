use Rattle.std.proofs.Common.{◌∙◌, ap, arith, refl, slice_index_or}
use Rattle.gdb_past.proofs.Checkpointing.{moved_on}
use Rattle.gdb_past.specs.Places.{Past}
use Rattle.machine.specs.MachineModel.{MachineModel}
use Rattle.reference.specs.Run.{after}
use Rattle.reference.specs.State.{State}
use Rattle.gdb_past.proofs.past.Past.spread.Goals as goal

pub slots-init : goal.slots-init
slots-init g c = record {
  past = refl;
  few = c.requires.order;
  machine = λ m. ap (λ (s : State). record c.args.machine.now { state = s }) (c.requires.state m);
}

pub keep_at-at-requires-clause-state : goal.keep_at-at-requires-clause-state
keep_at-at-requires-clause-state g c = λ m.
    rw c.slots.invariant.past (ap (λ (k : MachineModel). k.state) (c.slots.invariant.machine m))

pub slots-preserved : goal.slots-preserved
slots-preserved g c = record {
  past = c.keep_at-at.ensures.past ∙ c.slots.invariant.past;
  few = c.keep_at-at.ensures.few c.args.to c.slots.invariant.few (omega (arith, c.slots.invariant.few));
  machine = λ m. moved_on c.args.machine.now c.slots.machine c.keep_at-at.new.machine
      (after c.slots.at (slice_index_or c.args.self.now.marks 0 m)) _ (c.slots.invariant.machine m)
      (c.keep_at-at.ensures.state m
      ∙ ap (λ (p : Past). record c.slots.machine { state = after c.keep_at-at.result (slice_index_or p.marks 0 m) })
      c.slots.invariant.past);
}

pub returns-then-spacing-lt-MIN_SPACING-clause-state : goal.returns-then-spacing-lt-MIN_SPACING-clause-state
returns-then-spacing-lt-MIN_SPACING-clause-state g c = λ m.
    ap (λ (s : State). record c.args.machine.now { state = s }) (c.requires.state m)
