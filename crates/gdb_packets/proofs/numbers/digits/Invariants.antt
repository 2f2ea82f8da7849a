use Rattle.std.proofs.Common.{◌≡◌, Some, drop}
use Rattle.gdb_packets.specs.Numbers.{with_digits}
use Rattle.gdb_packets.proofs.numbers.digits.Given as goal

-- the digits after the index decide
abbrev pub invariant-bytes : goal.invariant-bytes
invariant-bytes l = with_digits l.number (drop l.byte-index l.text) ≡ with_digits (Some 0) l.text
