use Rattle.std.proofs.Common.{◌≡◌, length}
use Rattle.output.proofs.Sending.{Sent}
use Rattle.output.proofs.writer.Out.put_all.Given as goal

abbrev pub invariant-pieces : goal.invariant-pieces
invariant-pieces g l = record {
  sent : Sent (g.Self.Out.writing l.fn.self).written (g.Self.Out.writing l.self).written l.bytes l.rest;
  same : (g.Self.Out.writing l.self).errors ≡ (g.Self.Out.writing l.fn.self).errors;
}

abbrev pub decreases-pieces : goal.decreases-pieces
decreases-pieces g l = length l.rest
