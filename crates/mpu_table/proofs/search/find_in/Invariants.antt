use Rattle.std.proofs.Common.{◌-◌}
use Rattle.mpu_table.proofs.Halves.{IsAmong}
use Rattle.mpu_table.proofs.search.find_in.Given as goal

-- the interval of the address is among those from low up to high, which each look halves
abbrev pub invariant-halving : goal.invariant-halving
invariant-halving l = IsAmong l.intervals l.address l.low l.high l.looks

abbrev pub decreases-halving : goal.decreases-halving
decreases-halving l = l.high - l.low
