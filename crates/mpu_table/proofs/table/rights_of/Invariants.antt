use Rattle.std.proofs.Common.{◌≡◌, length}
use Rattle.mpu_table.specs.Tables.{HasRights}
use Rattle.mpu_table.proofs.table.rights_of.Given as goal

-- the rights before this number are those of their regions
abbrev pub invariant-loop-number : goal.invariant-loop-number
invariant-loop-number l = record { rights : HasRights l.rights l.registers l.number; places : length l.rights ≡ 16 }
