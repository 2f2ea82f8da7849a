-- What a debugger sees of the address space: the words that loads by privileged code would return now, without an
-- effect (profile).
use Rattle.std.specs.Prelude.{ℕ, ◌%◌, ◌^◌, ◌==◌, ◌&&◌, if◌then◌else◌, not, true, Option, Some, None}
use Rattle.devices.specs.Devices.{read_at}
use Rattle.devices.specs.Laws.{has_device_at}
use Rattle.instruction_set.specs.declared.size.Size.TheVariants.{Word}
use Rattle.platform.specs.declared.access.Kind.TheVariants.{Load}
use Rattle.platform.specs.declared.access.Performed.{Performed}
use Rattle.platform.specs.declared.access.Performed.TheVariants.{Done, Denied, Stop}
use Rattle.platform.specs.declared.access.Request.{Request}
use Rattle.platform.specs.declared.access.Rule.TheVariants.{MpuOff}
use Rattle.platform.specs.Map.{is_in_window, tick_register}
use Rattle.platform.specs.Memory.{is_in_memory, number_at}
use Rattle.reference.specs.Accesses.{carried_out}
use Rattle.reference.specs.State.{Bus}

-- the load of a word by privileged code
abbrev pub word_load : ℕ → Request
word_load a = record { access = record { address = a; kind = Load; size = Word; privileged = true }; value = 0 }

-- what an access read, where the bus took it
abbrev pub value_read : Performed → Option ℕ
value_read (Done access) = Some access.value
value_read (Denied rule cause) = None
value_read (Stop why) = None

-- the word at an address divisible by 4, as the bus would return it now to a load by privileged code while IPSR is x;
-- none where the bus would refuse the load. The rules of the MPU don't decide: the bus does the same under each of
-- them
unfoldable pub peek_word : ℕ → Bus → ℕ → Option ℕ
peek_word x b a = value_read (carried_out x b MpuOff (word_load a)).performed

-- ---- the same outside the Private Peripheral Bus, case by case

-- of the window TICK alone
abbrev pub word_of_window : ℕ → ℕ → Option ℕ
word_of_window ticks a = if a == tick_register then Some (ticks % 2 ^ 32) else None

-- the word of a device, of the window, or of memory
abbrev pub word_outside : Bus → ℕ → Option ℕ
word_outside b a =
    if not (is_in_memory b.memory a 4) && has_device_at b.system.devices a
    then read_at b.system.devices b.system.time.ticks a Word
    else if is_in_window a then word_of_window b.system.time.ticks a
    else number_at b.memory a 4
