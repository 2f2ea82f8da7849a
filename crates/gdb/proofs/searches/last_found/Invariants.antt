use Rattle.std.proofs.Common.{◌≡◌}
use Rattle.gdb.specs.Searches.{last_found}
use Rattle.gdb_past.specs.Places.{tick_of}
use Rattle.reference.specs.Run.{after}
use Rattle.reference.specs.State.{State}
use Rattle.gdb.proofs.searches.last_found.Given as goal

-- so many steps were made, and this is the last place among those that they led to
abbrev pub invariant-steps : goal.invariant-steps
invariant-steps g l = record {
  machine : l.machine ≡ record l.fn.machine { state = after l.step l.fn.machine.state };
  found : (m : State) → l.tick ≡ tick_of m → l.fn.machine.state ≡ after l.steps m
      → l.found ≡ last_found l.scope l.points l.settings m l.steps l.step;
}
