-- The bytes of a reply (GDB manual, "Overview" of the Remote Serial Protocol).
use Rattle.std.specs.Prelude.{ℕ, ◌%◌, List, [], ◌∷◌, ◌++◌}
use Rattle.std.specs.List.{sum}
use Rattle.gdb_packets.specs.Digits.{two_digits}
use Rattle.gdb_packets.specs.Escapes.{dollar, escaped, hash}

-- the sum of bytes, modulo 256
abbrev pub checksum : List ℕ → ℕ
checksum bytes = sum bytes % 256

-- `$`, bytes, `#`, and two digits of the checksum of these bytes
abbrev pub framed : List ℕ → List ℕ
framed bytes = ((dollar ∷ bytes) ++ hash ∷ []) ++ two_digits (checksum bytes)

-- the packet of some data
abbrev pub packet_of : List ℕ → List ℕ
packet_of content = framed (escaped content)
