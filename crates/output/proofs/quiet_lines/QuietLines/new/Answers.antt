use Rattle.std.proofs.Common.{arith}
use Rattle.output.proofs.Emitting.{none_yet}
use Rattle.trace.proofs.Selecting.{last-nil}
use Rattle.output.proofs.quiet_lines.QuietLines.new.Goals as goal

pub invariant_of-result : goal.invariant_of-result
invariant_of-result g c = record {
  gathers = c.requires.gathers;
  writes =
      rw c.new.ensures (∣
      (none_yet g.V.View.SELECTION g.O.Out.writing c.args.out.ghost_name c.args.out.now)
      ∣₁);
  ends = rw c.new.ensures (last-nil g.V.View.SELECTION);
  fits = rw c.new.ensures (omega (arith, c.requires.room));
}
