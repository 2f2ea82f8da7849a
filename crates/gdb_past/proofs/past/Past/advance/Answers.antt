use Rattle.std.proofs.Common.{◌∙◌, ap, arith, slice_index_or}
use Rattle.gdb_past.proofs.Checkpointing.{further, moved_on}
use Rattle.gdb_past.specs.Places.{Past}
use Rattle.machine.specs.MachineModel.{MachineModel}
use Rattle.reference.specs.Run.{after}
use Rattle.gdb_past.proofs.past.Past.advance.Goals as goal

pub slots-init : goal.slots-init
slots-init g c = record {
  past = c.spread-at.ensures.past;
  few = c.spread-at.ensures.few;
  machine = c.spread-at.ensures.state;
}

pub keep_at-at-requires-clause-state : goal.keep_at-at-requires-clause-state
keep_at-at-requires-clause-state g c = λ m.
    rw c.slots.invariant.past (ap (λ (k : MachineModel). k.state) (c.slots.invariant.machine m))

pub slots-preserved : goal.slots-preserved
slots-preserved g c = record {
  past = c.keep_at-at.ensures.past ∙ c.slots.invariant.past;
  few = c.keep_at-at.ensures.few c.args.to c.slots.invariant.few (omega arith);
  machine = λ m. moved_on c.args.machine.now c.slots.machine c.keep_at-at.new.machine
      (after c.slots.at (slice_index_or c.args.self.now.marks 0 m)) _ (c.slots.invariant.machine m)
      (c.keep_at-at.ensures.state m
      ∙ ap (λ (p : Past). record c.slots.machine { state = after c.keep_at-at.result (slice_index_or p.marks 0 m) })
      c.slots.invariant.past);
}

pub returns-clause-state : goal.returns-clause-state
returns-clause-state g c = λ m.
    further c.args.machine.now c.slots.machine c.make_steps.new.machine (slice_index_or c.args.self.now.marks 0 m)
    c.slots.at c.args.to c.slots.invariant.few (c.slots.invariant.machine m) c.make_steps.ensures
