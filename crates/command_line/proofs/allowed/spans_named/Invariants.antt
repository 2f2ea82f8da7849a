use Rattle.command_line.proofs.Allowing.{AllowedSoFar}
use Rattle.command_line.proofs.allowed.spans_named.Given as goal

abbrev pub invariant-texts : goal.invariant-texts
invariant-texts l = AllowedSoFar l.texts l.spans.items l.text-index
