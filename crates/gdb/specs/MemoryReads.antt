-- The bytes of memory that a client reads (GDB manual, "Packets", m).
use Rattle.std.specs.Prelude.{ℕ, zero, suc, ◌+◌, ◌^◌, min, nat_lt, if◌then◌else◌, List, [], ◌∷◌, Option, Some, None}
use Rattle.machine.specs.Peek.{peek_byte}
use Rattle.reference.specs.State.{State}

-- the most bytes of an answer (profile)
abbrev pub max_read : ℕ
max_read = 2048

-- the byte at an address, which may be beyond the address space
abbrev pub readable_byte : State → ℕ → Option ℕ
readable_byte s a = if nat_lt a (2 ^ 32) then peek_byte s a else None

abbrev pub up_to_gap : Option ℕ → List ℕ → List ℕ
up_to_gap None later = []
up_to_gap (Some byte) later = byte ∷ later

-- the bytes from an address on, at most n, as many as follow without a gap
unfoldable pub readable_bytes : State → ℕ → ℕ → List ℕ
readable_bytes s a zero = []
readable_bytes s a (suc n) = up_to_gap (readable_byte s a) (readable_bytes s (a + 1) n)

-- those of an answer
abbrev pub memory_read : State → ℕ → ℕ → List ℕ
memory_read s a n = readable_bytes s a (min n max_read)
