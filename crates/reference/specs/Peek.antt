-- What a debugger reads of memory and of devices, byte by byte, without an effect (profile).
use Rattle.std.specs.Prelude.{ℕ, Option, Some, None}
use Rattle.devices.specs.Devices.{read_at}
use Rattle.instruction_set.specs.declared.size.Size.TheVariants.{Byte}
use Rattle.platform.specs.Memory.{byte_at}
use Rattle.reference.specs.State.{Bus}

abbrev pub byte_or : Option ℕ → Option ℕ → Option ℕ
byte_or None other = other
byte_or (Some byte) other = Some byte

-- the byte of memory at an address, if there is one, or else that of a device's word, as it reads now
abbrev pub peek_memory_or_device : Bus → ℕ → Option ℕ
peek_memory_or_device b a = byte_or (byte_at b.memory a) (read_at b.system.devices b.system.time.ticks a Byte)
