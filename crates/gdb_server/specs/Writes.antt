-- The packets that write to the machine (GDB manual, "Packets", G, M, P and X).
use Rattle.std.specs.Prelude.{◌≡◌, ℕ, zero, suc, ◌+◌, ◌*◌, ◌/◌, ◌%◌, ◌^◌, nat_le, Bool, true, not}
use Rattle.std.specs.Prelude.{◌&&◌}
use Rattle.std.specs.Prelude.{◌||◌, ◌==◌, if◌then◌else◌, is_some, List, [], ◌∷◌, length, slice_index, unwrap_or}
use Rattle.std.specs.Prelude.{Option, Some, None, Result, Ok, Err}
use Rattle.gdb.specs.Targets.{register_written}
use Rattle.gdb_server.specs.Replies.{bytes_in}
use Rattle.gdb_server.specs.declared.purposes.MachineChange.{MachineChange}
use Rattle.gdb_server.specs.declared.purposes.MachineChange.TheVariants as change
use Rattle.gdb_texts.specs.Registers.{word_at, written_register}
use Rattle.machine.specs.MachineModel.{MachineModel}
use Rattle.platform.specs.Map.{is_in_ppb}
use Rattle.platform.specs.Memory.{Memory, byte_at, is_in_memory}
use Rattle.platform.specs.declared.error.PlaceError.{PlaceError}
use Rattle.platform.specs.declared.error.PlaceError.TheVariants.{NotAligned, NoSuchPlace, Stopped}
use Rattle.reference.specs.declared.place.Place.TheVariants.{Word}
use Rattle.reference.specs.Places.{altered}
use Rattle.reference.specs.Peek.{peek_memory_or_device}
use Rattle.reference.specs.State.{Bus, State}

-- the state after a write, and why it was refused, if it was
pub record Written : Type 0 where
  pub state : State
  pub refused : Option PlaceError

abbrev pub done : State → Written
done s = record { state = s; refused = None }

abbrev pub refused : State → PlaceError → Written
refused s error = record { state = s; refused = Some error }

-- a refusal changes nothing
abbrev pub after_place : State → Result State PlaceError → Written
after_place s (Ok after) = done after
after_place s (Err error) = refused s error

-- a machine after a write, which returned why it was refused
abbrev pub Writes : Written → MachineModel → MachineModel → Option PlaceError → Type 0
Writes w old new why = (new ≡ record old { state = w.state }) × (why ≡ w.refused)

-- ---- P and G

abbrev pub one_register : State → ℕ → ℕ → Written
one_register s number value = after_place s (register_written s number value)

-- the register that comes after `index` others, from the digits of all registers
abbrev pub register_after : State → List ℕ → ℕ → Written
register_after s digits index = one_register s (written_register index) (word_at digits (written_register index))

abbrev pub later_unless : Option PlaceError → Written → Written → Written
later_unless None w later = later
later_unless (Some error) w later = w

-- `later`, unless the first write was refused
abbrev pub unless_refused : Written → Written → Written
unless_refused w later = later_unless w.refused w later

-- the last registers, after `index` others, up to the first that is refused
unfoldable pub registers_from : State → List ℕ → ℕ → ℕ → Written
registers_from s digits index zero = done s
registers_from s digits index (suc left) =
    unless_refused (register_after s digits index)
    (registers_from (register_after s digits index).state digits (index + 1) left)

-- all registers: 16 to 22, then 0 to 15
abbrev pub registers_written : State → List ℕ → Written
registers_written s digits = registers_from s digits 0 23

-- ---- M and X: bytes of flash or RAM

-- the byte at an address, and 0 where there is none
abbrev pub byte_there : Memory → ℕ → ℕ
byte_there m a = unwrap_or (byte_at m a) 0

-- the byte at x once `byte` is at a
abbrev pub byte_beside : Memory → ℕ → ℕ → ℕ → ℕ
byte_beside m a byte x = if x == a then byte else byte_there m x

-- the word that has address a, once `byte` is there
abbrev pub word_beside : Memory → ℕ → ℕ → ℕ
word_beside m a byte =
    byte_beside m a byte (a / 4 * 4) + byte_beside m a byte (a / 4 * 4 + 1) * 0x100
    + byte_beside m a byte (a / 4 * 4 + 2) * 0x1_0000 + byte_beside m a byte (a / 4 * 4 + 3) * 0x100_0000

-- a byte is written by its word, as `altered` takes it
abbrev pub with_byte : State → ℕ → ℕ → State
with_byte s a byte = (after_place s (altered s (Word (a / 4 * 4) (word_beside s.bus.memory a byte)))).state

-- bytes, one after another
unfoldable pub with_bytes : State → ℕ → List ℕ → State
with_bytes s a [] = s
with_bytes s a (byte ∷ bytes) = with_bytes (with_byte s a byte) (a + 1) bytes

-- n bytes from a on lie wholly in flash, in RAM or in the second RAM, none of them beyond the address space
abbrev pub are_there : Memory → ℕ → ℕ → Bool
are_there m a n = nat_le (a + n) (2 ^ 32) && is_in_memory m a n

-- a machine that has stopped takes none
abbrev pub block_written : State → ℕ → List ℕ → Written
block_written s a bytes = if is_some s.stop then refused s Stopped else done (with_bytes s a bytes)

-- ---- M and X elsewhere: a word of the Private Peripheral Bus or of a device

-- whether a device has the address: a byte is there that isn't one of memory
abbrev pub is_of_device : Bus → ℕ → Bool
is_of_device b a = not (is_some (byte_at b.memory a)) && is_some (peek_memory_or_device b a)

abbrev pub word_of : List ℕ → ℕ
word_of bytes =
    slice_index bytes 0 + slice_index bytes 1 * 0x100 + slice_index bytes 2 * 0x1_0000
    + slice_index bytes 3 * 0x100_0000

abbrev pub word_written : State → ℕ → List ℕ → Written
word_written s a bytes =
    if not (is_in_ppb a || is_of_device s.bus a) then refused s NoSuchPlace
    else if not (a % 4 == 0) || not (length bytes == 4) then refused s NotAligned
    else after_place s (altered s (Word a (word_of bytes)))

-- bytes from a on, all of them or none
abbrev pub memory_written : State → ℕ → List ℕ → Written
memory_written s a bytes =
    if length bytes == 0 then done s
    else if are_there s.bus.memory a (length bytes) then block_written s a bytes
    else word_written s a bytes

-- ---- all of these

-- whether a packet writes something: M and X may have no bytes
abbrev pub writes : MachineChange → List ℕ → Bool
writes (change.Register n) tail = true
writes change.Registers tail = true
writes (change.Digits a) tail = not (length tail == 0)
writes (change.Bytes a) tail = not (length tail == 0)

-- what a packet writes, by what follows its fields
abbrev pub written : State → MachineChange → List ℕ → Written
written s (change.Register n) tail = one_register s n (word_at tail 0)
written s change.Registers tail = registers_written s tail
written s (change.Digits a) tail = memory_written s a (bytes_in tail)
written s (change.Bytes a) tail = memory_written s a tail
