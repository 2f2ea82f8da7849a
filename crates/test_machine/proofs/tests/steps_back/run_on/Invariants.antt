use Rattle.std.proofs.Common.{◌≡◌}
use Rattle.gdb_past.specs.Ways.{IsAfterMark}
use Rattle.test_machine.proofs.tests.steps_back.run_on.Given as goal

-- the machine has made steps from the mark
abbrev pub invariant-steps : goal.invariant-steps
invariant-steps g l = record {
  past : l.past ≡ l.fn.past;
  after : IsAfterMark l.past l.machine.state;
}
