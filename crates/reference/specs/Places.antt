-- What comes into a machine from outside, between two steps: values that are placed, and signals. They take no tick and
-- have no line (profile).
use Rattle.std.specs.Prelude.{ℕ, ◌%◌, Bool, true, false, not, ◌&&◌, ◌||◌, nat_lt, ◌==◌, if◌then◌else◌, is_some}
use Rattle.std.specs.Prelude.{Option, Some, None, Result, Ok, Err}
use Rattle.devices.specs.Laws.{has_device_at}
use Rattle.devices.specs.Lines.{drives}
use Rattle.instruction_set.specs.declared.system.SpecialRegister.{SpecialRegister}
use Rattle.instruction_set.specs.declared.size.Size.TheVariants as size
use Rattle.instruction_set.specs.Registers.{is_handler, with_register}
use Rattle.instruction_set.specs.RowOperands.{special_of}
use Rattle.platform.specs.declared.access.Kind.TheVariants.{Store}
use Rattle.platform.specs.declared.access.Performed.{Performed}
use Rattle.platform.specs.declared.access.Performed.TheVariants as performed
use Rattle.platform.specs.declared.access.Request.{Request}
use Rattle.platform.specs.declared.access.Rule.TheVariants.{PrivatePeripheralBus}
use Rattle.platform.specs.declared.error.PlaceError.{PlaceError}
use Rattle.platform.specs.declared.error.PlaceError.TheVariants.{NotAligned, NoSuchPlace, Stopped, Refused}
use Rattle.platform.specs.declared.script.Signal.{Signal}
use Rattle.platform.specs.declared.script.Signal.TheVariants.{Rise, Fall, Pulse, Nmi, Poke}
use Rattle.reference.specs.declared.place.Place.{Place}
use Rattle.reference.specs.declared.place.Place.TheVariants.{Reg, Special, Word}
use Rattle.reference.specs.Accesses.{carried_out}
use Rattle.platform.specs.Map.{is_in_ppb}
use Rattle.platform.specs.Memory.{Memory, is_in_memory, overwritten, bytes_of}
use Rattle.platform.specs.Outcomes.{Outcome}
use Rattle.platform.specs.SpecialRegisters.{with_special, with_mask}
use Rattle.platform.specs.System.{System, after_signal}
use Rattle.reference.specs.State.{Bus, State, with_registers, with_bus, with_exceptions, with_system}
use Rattle.reference.specs.LoadStore.{request}

abbrev pub is_word_aligned : Place → Bool
is_word_aligned (Reg number value) = true
is_word_aligned (Special number value) = true
is_word_aligned (Word address value) = address % 4 == 0

abbrev pub is_there : Bus → Place → Bool
is_there b (Reg number value) = nat_lt number 16
is_there b (Special number value) = is_some (special_of number)
is_there b (Word address value) =
    is_in_memory b.memory address 4 || (is_in_ppb address || has_device_at b.system.devices address)

-- MSR by privileged code in Thread mode
abbrev pub with_special_placed : State → SpecialRegister → ℕ → State
with_special_placed s special value =
    with_exceptions (with_registers s (with_special s.registers special value))
    (with_mask s.bus.system.nvic special value)

abbrev pub special_taken : State → Option SpecialRegister → ℕ → Result State PlaceError
special_taken s None value = Err NoSuchPlace
special_taken s (Some special) value = Ok (with_special_placed s special value)

-- a word that the Private Peripheral Bus took, or why not
abbrev pub register_taken : State → Bus → Performed → Result State PlaceError
register_taken s after (performed.Done access) = Ok (with_bus s after)
register_taken s after (performed.Denied rule cause) = Err NoSuchPlace
register_taken s after (performed.Stop why) = Err (Refused why)

-- the result of a store to the Private Peripheral Bus
abbrev pub stored_in_ppb : State → Outcome Bus → Result State PlaceError
stored_in_ppb s o = register_taken s o.after o.performed

-- a privileged store, which no region decides
abbrev pub store_of : ℕ → ℕ → Request
store_of address value = request Store true size.Word address value

-- the state with the value in it, or a refusal; `place` below asks first whether the machine takes values now
abbrev pub taken : State → Place → Result State PlaceError
taken s (Reg number value) = Ok (with_registers s (with_register s.registers number value))
taken s (Special number value) = special_taken s (special_of number) value
taken s (Word address value) =
    if is_in_ppb address
    then stored_in_ppb s (carried_out s.registers.exception s.bus PrivatePeripheralBus (store_of address value))
    else if not (is_in_memory s.bus.memory address 4)
    then Ok (with_system s (after_signal s.bus.system (Poke (record { address = address; value = value }))))
    else Ok (with_bus s (record s.bus { memory = overwritten s.bus.memory address (bytes_of 4 value) }))

-- the state with the value in its place, or the first refusal: `Stopped` is for a machine that has stopped, is in the
-- entry phase, or is in Handler mode
unfoldable pub place : State → Place → Result State PlaceError
place s p =
    if not (is_word_aligned p) then Err NotAligned
    else if not (is_there s.bus p) then Err NoSuchPlace
    else if is_some s.stop || is_some s.entry || is_handler s.registers then Err Stopped
    else taken s p

-- R0 to R12, LR, and words of memory: what neither the mode nor an exception depends on
abbrev pub is_plain : Memory → Place → Bool
is_plain m (Reg number value) = nat_lt number 13 || number == 14
is_plain m (Special number value) = false
is_plain m (Word address value) = is_in_memory m address 4 && not (is_in_ppb address)

-- as `place`, but a plain value is taken in Handler mode and in the entry phase too
unfoldable pub altered : State → Place → Result State PlaceError
altered s p =
    if not (is_word_aligned p) then Err NotAligned
    else if not (is_there s.bus p) then Err NoSuchPlace
    else if is_some s.stop || (not (is_plain s.bus.memory p) && (is_some s.entry || is_handler s.registers))
    then Err Stopped
    else taken s p

-- ---- signals

-- whether the board has an interrupt, and no device drives it
abbrev pub is_free : System → ℕ → Bool
is_free s interrupt = nat_lt interrupt s.nvic.interrupts && not (drives s.devices interrupt)

-- whether the board has what a signal is for: such an interrupt, or the word of a device
abbrev pub is_wired : System → Signal → Bool
is_wired s (Rise interrupt) = is_free s interrupt
is_wired s (Fall interrupt) = is_free s interrupt
is_wired s (Pulse interrupt) = is_free s interrupt
is_wired s Nmi = true
is_wired s (Poke p) = has_device_at s.devices p.address

-- the state in which a signal has come, in any mode, or the first refusal
unfoldable pub signalled : State → Signal → Result State PlaceError
signalled s what =
    if not (is_wired s.bus.system what) then Err NoSuchPlace
    else if is_some s.stop then Err Stopped
    else Ok (with_system s (after_signal s.bus.system what))
