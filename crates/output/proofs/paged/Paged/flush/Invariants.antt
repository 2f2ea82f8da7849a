use Rattle.std.proofs.Common.{◌≡◌, ◌-◌, ◌≤◌, length, drop}
use Rattle.std.specs.Io.KnownBytes.{append_known, Keeps}
use Rattle.output.proofs.paged.Paged.flush.Given as goal

abbrev pub invariant-pieces : goal.invariant-pieces
invariant-pieces g l = record {
  known : Keeps (append_known (g.O.Out.writing l.fn.self.inner).written (drop l.fn.self.at l.fn.self.page))
      (append_known (g.O.Out.writing l.self.inner).written (drop l.self.at l.self.page));
  within : l.self.at ≤ length l.self.page;
  same : (g.O.Out.writing l.self.inner).errors ≡ (g.O.Out.writing l.fn.self.inner).errors;
}

abbrev pub decreases-pieces : goal.decreases-pieces
decreases-pieces g l = length l.self.page - l.self.at
