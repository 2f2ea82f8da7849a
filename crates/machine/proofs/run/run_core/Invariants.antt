use Rattle.std.proofs.Common.{◌≡◌, ℕ, ◌-◌, ◌<◌, ◌≤◌, None}
use Rattle.std.specs.Io.KnownBytes.{Appends}
use Rattle.reference.specs.Run.{after, events_of}
use Rattle.trace.specs.Selection.{last_printed, selected_text, steps_text}
use Rattle.machine.specs.Permits.{PermitHolds}
use Rattle.machine.proofs.run.run_core.Given as goal

abbrev pub invariant-steps : goal.invariant-steps
invariant-steps g l = record {
  few : l.made ≤ l.limit;
  core : l.core ≡ after l.made l.fn.core;
  made : (k : ℕ) → k < l.made → (after k l.fn.core).stop ≡ None;
  shown : Appends (g.W.Out.writing l.fn.out).written (g.W.Out.writing l.out).written
      (steps_text (selected_text g.V.View.SELECTION) l.made l.fn.core);
  printed : l.last ≡ last_printed g.V.View.SELECTION (events_of l.made l.fn.core);
  same : (g.W.Out.writing l.out).errors ≡ (g.W.Out.writing l.fn.out).errors;
  permit : PermitHolds l.permit l.core;
}

abbrev pub decreases-steps : goal.decreases-steps
decreases-steps g l = l.limit - l.made
