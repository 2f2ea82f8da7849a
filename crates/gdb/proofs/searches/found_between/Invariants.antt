use Rattle.std.proofs.Common.{◌≡◌, ◌<◌, ◌≤◌, ◌-◌, slice_index_or}
use Rattle.gdb.specs.Searches.{last_found}
use Rattle.gdb_past.specs.Places.{AreOfOneMachine}
use Rattle.reference.specs.State.{State}
use Rattle.gdb.proofs.searches.found_between.Given as goal

-- no place after the end has a reason
abbrev pub invariant-parts : goal.invariant-parts
invariant-parts g l = record {
  found : (m : State) → last_found l.scope l.points l.settings (slice_index_or l.fn.past.marks l.number m) l.low
      (l.end - l.low)
      ≡ last_found l.scope l.points l.settings (slice_index_or l.fn.past.marks l.number m) l.low (l.high - l.low);
  few : l.end ≤ l.high;
  some : 0 < l.part;
  past : l.past ≡ l.fn.past;
  same : AreOfOneMachine l.fn.past.start l.machine.state;
  kept : l.machine.broken ≡ l.fn.machine.broken;
}

abbrev pub decreases-parts : goal.decreases-parts
decreases-parts g l = l.end
