use Rattle.std.proofs.Common.{◌≡◌, ◌≤◌, length}
use Rattle.gdb_texts.specs.Transfers.{without_zeros}
use Rattle.gdb_texts.proofs.transfers.without_zeros.Given as goal

-- the rest gives the same digits
abbrev pub invariant-zeros : goal.invariant-zeros
invariant-zeros l = record {
  text : without_zeros l.rest ≡ without_zeros l.fn.digits;
  short : length l.rest ≤ length l.fn.digits;
}

abbrev pub decreases-zeros : goal.decreases-zeros
decreases-zeros l = length l.rest
