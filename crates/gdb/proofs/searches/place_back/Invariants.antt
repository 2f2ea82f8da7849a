use Rattle.std.proofs.Common.{◌≡◌, ◌∷◌, drop, slice_index_or}
use Rattle.gdb.specs.Searches.{place_back}
use Rattle.gdb_past.specs.Places.{AreOfOneMachine}
use Rattle.reference.specs.State.{State}
use Rattle.gdb.proofs.searches.place_back.Given as goal

-- no later mark has a place
abbrev pub invariant-marks : goal.invariant-marks
invariant-marks g l = record {
  place : (s : State) →
      place_back l.scope l.points l.settings l.low (slice_index_or (s ∷ l.fn.past.marks) l.number s)
      (drop l.number l.fn.past.marks)
      ≡ place_back l.fn.scope l.points l.settings l.low s l.fn.past.marks;
  past : l.past ≡ l.fn.past;
  same : AreOfOneMachine l.fn.past.start l.machine.state;
  kept : l.machine.broken ≡ l.fn.machine.broken;
}
