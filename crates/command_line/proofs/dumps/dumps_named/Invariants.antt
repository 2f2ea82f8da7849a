use Rattle.command_line.proofs.Dumping.{AskedSoFar}
use Rattle.command_line.proofs.dumps.dumps_named.Given as goal

abbrev pub invariant-texts : goal.invariant-texts
invariant-texts l = AskedSoFar l.texts l.dumps.items l.text-index
