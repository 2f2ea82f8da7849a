use Rattle.std.proofs.Common.{subst, sym}
use Rattle.gdb_past.proofs.Ways.{at_first}
use Rattle.gdb_past.specs.Places.{Past}
use Rattle.gdb_past.specs.Ways.{IsAfterMark}
use Rattle.test_machine.proofs.tests.steps_back.both_again.Goals as goal

pub run_on-requires : goal.run_on-requires
run_on-requires g c =
    subst (λ (p : Past). IsAfterMark p c.args.machine.now.state) (sym c.in_ok-past.ensures)
    (at_first c.room_of.result c.args.machine.now.state)
