-- The System Control Space (ARM DDI 0403, "System Control Space") and the board's devices (profile): their state, what
-- an access to them does, and what a tick does to them. Each block of registers has a chapter of its own.
use Rattle.std.specs.Prelude.{ℕ, zero, suc, ◌+◌, ◌-◌, ◌*◌, ◌/◌, ◌%◌, ◌^◌, Bool, true, false, not, ◌&&◌, ◌||◌, ◌==◌}
use Rattle.std.specs.Prelude.{if◌then◌else◌, List, [], ◌∷◌, ◌++◌, Option, Some, None, unwrap_or, Result, Ok, Err}
use Rattle.devices.specs.declared.device.Device.{Device}
use Rattle.devices.specs.declared.device.Poke.{Poke}
use Rattle.devices.specs.declared.level.Level.{Level}
use Rattle.devices.specs.Devices.{DeviceWords, after_store_at, fresh as fresh_devices, loaded, read_at, sent_at}
use Rattle.devices.specs.Lines.{levels}
use Rattle.devices.specs.Pokes.{poked_all}
use Rattle.instruction_set.specs.declared.size.Size.{Size}
use Rattle.instruction_set.specs.declared.size.Size.TheVariants.{Byte, Halfword, Word}
use Rattle.instruction_set.specs.Sizes.{bytes_in, is_word}
use Rattle.platform.specs.declared.access.Performed.{Performed}
use Rattle.platform.specs.declared.access.Performed.TheVariants as performed
use Rattle.platform.specs.declared.access.Request.{Request}
use Rattle.platform.specs.declared.access.Rule.{Rule}
use Rattle.platform.specs.declared.exception.TheConstants.{FIRST_INTERRUPT, EXCEPTIONS, NMI}
use Rattle.platform.specs.declared.mpu.MpuStop.{MpuStop}
use Rattle.platform.specs.declared.script.ScriptedEvent.{ScriptedEvent}
use Rattle.platform.specs.declared.script.Signal.{Signal}
use Rattle.platform.specs.declared.script.Signal.TheVariants as signal
use Rattle.platform.specs.declared.stop.Unsupported.TheVariants.{RegisterWidth}
use Rattle.platform.specs.declared.stop.Stop.{Stop}
use Rattle.platform.specs.declared.stop.Stop.TheVariants.{OutOfProfile}
use Rattle.platform.specs.declared.system.SystemRegister.{SystemRegister}
use Rattle.platform.specs.declared.system.SystemRegister.TheVariants as register
use Rattle.platform.specs.Control.{control_at, read_control, write_control}
use Rattle.platform.specs.Handlers.{handler_priority_at}
use Rattle.platform.specs.Interrupts.{interrupts_at, word_number, read_interrupts, write_interrupts}
use Rattle.platform.specs.Interrupts.{interrupt_priority_at, read_priorities, write_priorities, stir_address}
use Rattle.platform.specs.Kinds.{is_load, is_store}
use Rattle.platform.specs.Outcomes.{Outcome, bus_error, done, unchanged}
use Rattle.platform.specs.Priorities.{Nvic, is_interrupt, with_pending, with_active, with_faultmask, reset_nvic}
use Rattle.platform.specs.Regions.{Mpu, mpu_register_at, read as read_mpu, write as write_mpu, stop_of, fresh}
use Rattle.platform.specs.Space.{number_read}
use Rattle.platform.specs.Status.{Status, status_at, has_parts, usersetmpend, read_status, write_status, reset_status}
use Rattle.platform.specs.SysTickRegisters.{systick_at, read_systick, after_systick_read, write_systick}
use Rattle.platform.specs.Time.{Time, SysTick, start_time, events_at, is_high, pends, tick_pends, time_after_tick}
use Rattle.platform.specs.Time.{with_signal}

pub record System : Type 0 where
  pub mpu : Mpu
  pub nvic : Nvic
  pub status : Status
  pub time : Time
  pub devices : List DeviceWords

-- ---- the register at an address

-- the register that a block has at an address, or `otherwise`, if the block has none there
abbrev pub in_block : {A : Type 0} → (A → SystemRegister) → Option A → SystemRegister → SystemRegister
in_block named (Some which) otherwise = named which
in_block named None otherwise = otherwise

-- the register at a word of the Private Peripheral Bus; `register.Priorities` is the four bytes of a word of IPR or of
-- SHPR, with the number of the exception that the first byte is for. A word without a register (the ID registers too)
-- is `register.Unlisted` (profile)
unfoldable pub register_at : ℕ → SystemRegister
register_at word =
    in_block register.SysTick (systick_at word)
    (in_block (λ which. register.Interrupts which (word_number word)) (interrupts_at word)
    (in_block register.Priorities (interrupt_priority_at word)
    (in_block register.Control (control_at word)
    (in_block register.Status (status_at word)
    (in_block register.Priorities (handler_priority_at word)
    (in_block register.Mpu (mpu_register_at word)
    register.Unlisted))))))

-- whether a register takes accesses of a size: each takes words, and IPR, SHPR, CFSR and a word without a register take
-- bytes and halfwords too
unfoldable pub has_width : SystemRegister → Size → Bool
has_width (register.SysTick which) size = is_word size
has_width (register.Interrupts which k) size = is_word size
has_width (register.Priorities x) size = true
has_width (register.Control which) size = is_word size
has_width (register.Status which) size = is_word size || has_parts which
has_width (register.Mpu which) size = is_word size
has_width register.Unlisted size = true

-- ---- the bytes of a word that an access takes

-- the number of the first byte of the word that an access takes; an access is aligned
abbrev pub first_byte : Size → ℕ → ℕ
first_byte Byte address = address % 4
first_byte Halfword address = address / 2 % 2 * 2
first_byte Word address = 0

-- what it reads of a word
abbrev pub part_of : Request → ℕ → ℕ
part_of q word = word / 2 ^ (8 * first_byte q.access.size q.access.address) % 256 ^ bytes_in q.access.size

-- what it writes, in its place of a word whose other bytes are 0
abbrev pub in_place : Request → ℕ
in_place q = q.value % 256 ^ bytes_in q.access.size * 2 ^ (8 * first_byte q.access.size q.access.address)

-- ---- an access

-- a write that was carried out, or that stops the machine
abbrev pub write_performed : System → Rule → Result System Stop → Outcome System
write_performed s rule (Ok after) = record { after = after; performed = done rule 0 }
write_performed s rule (Err why) = unchanged s (performed.Stop why)

abbrev pub with_systick : System → SysTick → System
with_systick s t = record s { time = record s.time { systick = t } }

abbrev pub with_nvic : System → Nvic → System
with_nvic s n = record s { nvic = n }

-- a block after a write, or the stop with which the write stops the machine

abbrev pub nvic_written : System → Result Nvic Stop → Result System Stop
nvic_written s (Ok n) = Ok (with_nvic s n)
nvic_written s (Err why) = Err why

abbrev pub status_written : System → Result Status Stop → Result System Stop
status_written s (Ok st) = Ok (record s { status = st })
status_written s (Err why) = Err why

abbrev pub mpu_written : System → Result Mpu MpuStop → Result System Stop
mpu_written s (Ok m) = Ok (record s { mpu = m })
mpu_written s (Err why) = Err (stop_of why)

-- what a register reads as while IPSR is x; a word without a register (the ID registers too) reads 0 (profile)
unfoldable pub word_at : ℕ → System → SystemRegister → ℕ
word_at x s (register.SysTick which) = read_systick s.time.systick which
word_at x s (register.Interrupts which k) = read_interrupts s.nvic which k
word_at x s (register.Priorities first) = read_priorities s.nvic first
word_at x s (register.Control which) = read_control x s.nvic which
word_at x s (register.Status which) = read_status s.status which
word_at x s (register.Mpu which) = read_mpu s.mpu which
word_at x s register.Unlisted = 0

-- the state after a register was read
unfoldable pub after_read : System → SystemRegister → System
after_read s (register.SysTick which) = with_systick s (after_systick_read s.time.systick which)
after_read s (register.Interrupts which k) = s
after_read s (register.Priorities first) = s
after_read s (register.Control which) = s
after_read s (register.Status which) = s
after_read s (register.Mpu which) = s
after_read s register.Unlisted = s

-- the state after a write to a register, or the stop with which the write stops the machine
unfoldable pub register_written : System → Request → SystemRegister → Result System Stop
register_written s q (register.SysTick which) = Ok (with_systick s (write_systick s.time.systick which q.value))
register_written s q (register.Interrupts which k) = Ok (with_nvic s (write_interrupts s.nvic which k q.value))
register_written s q (register.Priorities first) =
    Ok (with_nvic s (write_priorities s.nvic (first + first_byte q.access.size q.access.address) q.value
    (bytes_in q.access.size)))
register_written s q (register.Control which) = nvic_written s (write_control s.nvic which q.value)
register_written s q (register.Status which) = status_written s (write_status s.status which (in_place q))
register_written s q (register.Mpu which) = mpu_written s (write_mpu s.mpu which q.value)
register_written s q register.Unlisted = Ok s

-- unprivileged code may store a word to STIR where CCR.USERSETMPEND is 1, and nothing else
abbrev pub has_access : System → Request → Bool
has_access s q =
    q.access.privileged || (is_store q.access.kind && is_word q.access.size && (q.access.address == stir_address)
    && usersetmpend s.status)

-- an access to a register: its privilege is checked first, then its width
unfoldable pub register_access : ℕ → System → Rule → Request → SystemRegister → Outcome System
register_access x s rule q which =
    if not (has_access s q) then unchanged s (bus_error rule)
    else if not (has_width which q.access.size) then unchanged s (performed.Stop (OutOfProfile RegisterWidth))
    else if is_store q.access.kind then write_performed s rule (register_written s q which)
    else record { after = after_read s which; performed = done rule (part_of q (word_at x s which)) }

-- an access to the Private Peripheral Bus that a rule granted, while IPSR is x: the bus takes loads and stores alone; a
-- push, a pop or a vector read is a bus error (profile)
unfoldable pub system_access : ℕ → System → Rule → Request → Outcome System
system_access x s rule q =
    if is_load q.access.kind || is_store q.access.kind
    then register_access x s rule q (register_at (q.access.address / 4 * 4))
    else unchanged s (bus_error rule)

-- ---- a tick

-- exception x becomes pending where the test holds for it
unfoldable pub with_pended_at : Nvic → (ℕ → Bool) → ℕ → Nvic
with_pended_at n test x = if test x then with_pending n x true else n

-- every exception below x for which the test holds becomes pending
unfoldable pub with_pended_below : Nvic → (ℕ → Bool) → ℕ → Nvic
with_pended_below n test zero = n
with_pended_below n test (suc x) = with_pended_at (with_pended_below n test x) test x

-- every exception for which the test holds becomes pending
unfoldable pub with_pended : Nvic → (ℕ → Bool) → Nvic
with_pended n test = with_pended_below n test EXCEPTIONS

-- what a signal does to the exceptions and the interrupts
abbrev pub on_interrupts : System → Signal → System
on_interrupts s what = record s {
  nvic = with_pended s.nvic (pends what);
  time = record s.time { high = with_signal s.time.high what };
}

-- ---- the lines of devices

-- whether the board describes devices
abbrev pub has_devices : List DeviceWords → Bool
has_devices [] = false
has_devices (d ∷ ds) = true

abbrev pub with_devices : System → List DeviceWords → System
with_devices s devices = record s { devices = devices }

-- an interrupt goes high where the level of its line is high, and pends if it was low; it goes low where the level is
-- low, and what pends stays
abbrev pub with_level : System → Level → System
with_level s l =
    if not l.is_high then on_interrupts s (signal.Fall l.number)
    else if is_high s.time l.number then s
    else on_interrupts s (signal.Rise l.number)

abbrev pub with_levels : System → List Level → System
with_levels s [] = s
with_levels s (l ∷ ls) = with_levels (with_level s l) ls

-- the lines of all devices settle, in the order of the board
unfoldable pub settled : System → System
settled s = with_levels s (levels s.devices s.time.ticks)

-- words that were poked, after which the lines settle once
abbrev pub after_pokes : System → List Poke → System
after_pokes s [] = s
after_pokes s (p ∷ ps) = settled (with_devices s (poked_all s.devices s.time.ticks (p ∷ ps)))

abbrev pub poke_of : Signal → List Poke
poke_of (signal.Poke p) = p ∷ []
poke_of (signal.Rise interrupt) = []
poke_of (signal.Fall interrupt) = []
poke_of (signal.Pulse interrupt) = []
poke_of signal.Nmi = []

-- the pokes of events, in file order
abbrev pub pokes_of : List ScriptedEvent → List Poke
pokes_of [] = []
pokes_of (e ∷ events) = poke_of e.what ++ pokes_of events

-- the state after a tick but for the devices: time goes on, and what the tick pends becomes pending
abbrev pub time_passed : System → System
time_passed s = record s { nvic = with_pended s.nvic (tick_pends s.time); time = time_after_tick s.time }

-- the state after a tick: the pokes of its events come after time has gone on
unfoldable pub after_tick : System → System
after_tick s = after_pokes (time_passed s) (pokes_of (events_at (s.time.ticks + 1) s.time.script))

-- what an event of the script does, without its tick
unfoldable pub after_signal : System → Signal → System
after_signal s what = after_pokes (on_interrupts s what) (poke_of what)

-- ---- an access to a device

-- a load reads the value, and then pokes what the device says
abbrev pub loaded_from_device : System → Rule → Request → Outcome System
loaded_from_device s rule q = record {
  after = settled (with_devices s (loaded s.devices s.time.ticks q.access.address));
  performed = number_read rule (read_at s.devices s.time.ticks q.access.address q.access.size);
}

abbrev pub sent_to : Rule → Option ℕ → Performed
sent_to rule byte = performed.Done (record { rule = rule; value = 0; sent = byte })

-- a store stores, and then pokes what the device says; a byte may go to the console
abbrev pub stored_to_device : System → Rule → Request → Outcome System
stored_to_device s rule q = record {
  after = settled (with_devices s
      (after_store_at s.devices s.time.ticks q.access.address q.access.size q.value));
  performed = sent_to rule (unwrap_or (sent_at s.devices q.access.address q.value) None);
}

-- a load or a store that a rule granted, to a word of a device; then the lines settle
unfoldable pub device_access : System → Rule → Request → Outcome System
device_access s rule q =
    if is_store q.access.kind then stored_to_device s rule q else loaded_from_device s rule q

-- ---- a reset

-- the state after a reset, by what the board has: where flash begins, the number of interrupts, the number of priority
-- bits, the number of regions, the script, and the devices, whose lines settle
abbrev pub reset_system : ℕ → ℕ → ℕ → ℕ → List ScriptedEvent → List Device → System
reset_system flash_base interrupts bits regions script devices = settled (record {
  mpu = fresh regions;
  nvic = reset_nvic interrupts bits;
  status = reset_status flash_base;
  time = start_time script;
  devices = fresh_devices devices;
})

-- ---- handlers

-- whether exception x is an interrupt of the board whose input is high
abbrev pub is_asserted : System → ℕ → Bool
is_asserted s x = is_interrupt s.nvic.interrupts x && is_high s.time (x - FIRST_INTERRUPT)

-- DeActivate() but for FAULTMASK: exception x isn't active any more, and is pending if its input is high (profile)
unfoldable pub deactivated : System → ℕ → System
deactivated s x =
    if is_asserted s x
    then with_nvic s (with_pending (with_active s.nvic x false) x true)
    else with_nvic s (with_active s.nvic x false)

-- DeActivate(): `deactivated`, and FAULTMASK is cleared, except on a return from NMI
abbrev pub exception_ended : System → ℕ → System
exception_ended t x =
    let after = deactivated t x in
    if x == NMI then after else with_nvic after (with_faultmask after.nvic false)
