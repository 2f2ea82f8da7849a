use Rattle.std.proofs.Common.{arith}
use Rattle.std.proofs.lemmas.Grind.{common_steps}
use Rattle.elf.proofs.Overlaps.{none_overlap}
use Rattle.elf.proofs.overlap.have_overlap.Goals as goal

pub returns-then-is_overlapped-clause-apart : goal.returns-then-is_overlapped-clause-apart
returns-then-is_overlapped-clause-apart c = none_overlap _ _ (grind (arith, common_steps))

pub returns-clause-apart : goal.returns-clause-apart
returns-clause-apart c = none_overlap _ _ (grind (arith, common_steps))
