use Rattle.command.proofs.Dumped.{DumpedSoFar}
use Rattle.command.proofs.dumping.write_dumps.Given as goal

abbrev pub invariant-dumps : goal.invariant-dumps
invariant-dumps g l =
    DumpedSoFar l.dumps l.machine.state l.dump-index (g.F.Out.writing l.fn.files) (g.F.Out.writing l.files)
