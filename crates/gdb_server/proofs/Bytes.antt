-- Bytes of memory that are there.
use Rattle.std.proofs.Common.{◌≡◌, ℕ, ◌+◌, ◌^◌, ◌≤◌, true, arith}
use Rattle.std.proofs.lemmas.Bool.Decides.{nat_tests}
use Rattle.gdb_server.specs.Writes.{are_there}
use Rattle.platform.specs.Memory.{Memory}

-- they don't go beyond the address space
pub fits : (m : Memory) (a n : ℕ) → are_there m a n ≡ true → a + n ≤ 2 ^ 32
fits m a n there = grind (arith, nat_tests, there)
