-- If the small changes of the exceptions, the registers of SysTick and those of the MPU keep what holds of the parts of
-- the System Control Space, so do each access, also one to a device, MSR, CPS, each tick, each signal, and the begin
-- and
-- the end of a handler.
use Rattle.std.proofs.Common.{◌≡◌, ℕ, ◌+◌, ◌*◌, ◌/◌, Bool, true, false, not, ◌||◌, ◌==◌, List, [], ◌∷◌, Result, Ok, Err}
use Rattle.std.proofs.lemmas.Bool.{cond_both}
use Rattle.devices.specs.declared.device.Device.{Device}
use Rattle.devices.specs.declared.device.Poke.{Poke}
use Rattle.devices.specs.declared.level.Level.{Level}
use Rattle.devices.specs.Devices.{DeviceWords}
use Rattle.devices.specs.Lines.{levels}
use Rattle.devices.specs.Pokes.{poked_all}
use Rattle.instruction_set.specs.declared.system.ChangeProcessorState.{ChangeProcessorState}
use Rattle.instruction_set.specs.declared.system.SpecialRegister.{SpecialRegister}
use Rattle.instruction_set.specs.Sizes.{bytes_in}
use Rattle.platform.specs.declared.access.Request.{Request}
use Rattle.platform.specs.declared.access.Rule.{Rule}
use Rattle.platform.specs.declared.exception.TheConstants.{NMI}
use Rattle.platform.specs.declared.mpu.MpuRegister.{MpuRegister}
use Rattle.platform.specs.declared.mpu.MpuStop.{MpuStop}
use Rattle.platform.specs.declared.script.Signal.{Signal}
use Rattle.platform.specs.declared.script.Signal.TheVariants as signal
use Rattle.platform.specs.declared.stop.Stop.{Stop}
use Rattle.platform.specs.declared.system.SysTickRegister.{SysTickRegister}
use Rattle.platform.specs.declared.system.SystemRegister.{SystemRegister}
use Rattle.platform.specs.declared.system.SystemRegister.TheVariants as register
use Rattle.platform.specs.Priorities.{activated}
use Rattle.platform.specs.System.{exception_ended}
use Rattle.platform.specs.Kinds.{is_load, is_store}
use Rattle.platform.specs.Outcomes.{Outcome}
use Rattle.platform.specs.Priorities.{Nvic, with_pending, with_active}
use Rattle.platform.specs.Regions.{Mpu, after_write, write as write_mpu}
use Rattle.platform.specs.SpecialRegisters.{with_mask, write_mask, change_state}
use Rattle.platform.specs.Status.{Status, write_status}
use Rattle.platform.specs.System.{System, write_performed, with_nvic, nvic_written, status_written, mpu_written}
use Rattle.platform.specs.System.{first_byte, in_place, after_read, register_written, has_access, has_width}
use Rattle.platform.specs.System.{register_access, system_access, register_at, after_tick, is_asserted, deactivated}
use Rattle.platform.specs.System.{after_pokes, after_signal, device_access, on_interrupts, poke_of, pokes_of, settled}
use Rattle.platform.specs.System.{time_passed, with_devices, with_level, with_levels}
use Rattle.platform.specs.SysTickRegisters.{after_systick_read, write_systick}
use Rattle.platform.specs.SystemInvariant.{table_of}
use Rattle.platform.specs.Time.{Time, events_at, is_high, pends, tick_pends, time_after_tick, with_signal}
use Rattle.nvic.proofs.Changes.{IsPreserved, IfDone, interrupts_kept, priorities_kept, control_kept, mask_kept}
use Rattle.nvic.proofs.Changes.{write_mask_kept, state_kept, activated_kept, pended_kept}
use Rattle.nvic.proofs.Tables.{table_loaded, table_poked_all, table_stored}

-- what holds of the exceptions, of time, of the MPU's registers and of the devices without their words
pub record Parts : Type 1 where
  pub nvic : Nvic → Type 0
  pub time : Time → Type 0
  pub mpu : Mpu → Type 0
  pub devices : List Device → Type 0

pub record HasParts (P : Parts) (s : System) : Type 0 where
  pub nvic : P.nvic s.nvic
  pub time : P.time s.time
  pub mpu : P.mpu s.mpu
  pub devices : P.devices (table_of s.devices)

-- each change of a part alone keeps what holds of it
pub record PartsAreKept (P : Parts) : Type 0 where
  pub nvic : IsPreserved P.nvic
  pub read : (t : Time) (it : SysTickRegister) → P.time t
      → P.time (record t { systick = after_systick_read t.systick it })
  pub written : (t : Time) (it : SysTickRegister) (value : ℕ) → P.time t
      → P.time (record t { systick = write_systick t.systick it value })
  pub signals : (t : Time) (what : Signal) → P.time t → P.time (record t { high = with_signal t.high what })
  pub mpu : (m : Mpu) (it : MpuRegister) (value : ℕ) → P.mpu m → P.mpu (after_write m (write_mpu m it value))

module _ {P : Parts} (k : PartsAreKept P) where
  pub with_nvic_kept : (s : System) (n : Nvic) → P.nvic n → HasParts P s → HasParts P (with_nvic s n)
  with_nvic_kept s n new h = record { nvic = new; time = h.time; mpu = h.mpu; devices = h.devices }

  pub with_status_kept : (s : System) (st : Status) → HasParts P s → HasParts P (record s { status = st })
  with_status_kept s st h = record { nvic = h.nvic; time = h.time; mpu = h.mpu; devices = h.devices }

  -- ---- a write

  nvic_done : (s : System) (r : Result Nvic Stop) → HasParts P s → IfDone P.nvic r
      → IfDone (HasParts P) (nvic_written s r)
  nvic_done s (Ok n) h new = with_nvic_kept s n new h
  nvic_done s (Err why) h new = tt

  status_done : (s : System) (r : Result Status Stop) → HasParts P s → IfDone (HasParts P) (status_written s r)
  status_done s (Ok st) h = with_status_kept s st h
  status_done s (Err why) h = tt

  mpu_done : (s : System) (r : Result Mpu MpuStop) → HasParts P s → P.mpu (after_write s.mpu r)
      → IfDone (HasParts P) (mpu_written s r)
  mpu_done s (Ok m) h new = record { nvic = h.nvic; time = h.time; mpu = new; devices = h.devices }
  mpu_done s (Err why) h new = tt

  written_kept : (s : System) (q : Request) (it : SystemRegister) → HasParts P s
      → IfDone (HasParts P) (register_written s q it)
  unfolding register_written
  written_kept s q (register.SysTick it) h =
      record { nvic = h.nvic; time = k.written s.time it q.value h.time; mpu = h.mpu; devices = h.devices }
  written_kept s q (register.Interrupts it word) h =
      with_nvic_kept s _ (interrupts_kept k.nvic s.nvic it word q.value h.nvic) h
  written_kept s q (register.Priorities first) h =
      with_nvic_kept s _
      (priorities_kept k.nvic s.nvic (first + first_byte q.access.size q.access.address) q.value
      (bytes_in q.access.size) h.nvic)
      h
  written_kept s q (register.Control it) h = nvic_done s _ h (control_kept k.nvic s.nvic it q.value h.nvic)
  written_kept s q (register.Status it) h = status_done s (write_status s.status it (in_place q)) h
  written_kept s q (register.Mpu it) h =
      mpu_done s (write_mpu s.mpu it q.value) h (k.mpu s.mpu it q.value h.mpu)
  written_kept s q register.Unlisted h = h

  -- ---- an access

  read_kept : (s : System) (it : SystemRegister) → HasParts P s → HasParts P (after_read s it)
  unfolding after_read
  read_kept s (register.SysTick it) h =
      record { nvic = h.nvic; time = k.read s.time it h.time; mpu = h.mpu; devices = h.devices }
  read_kept s (register.Interrupts it word) h = h
  read_kept s (register.Priorities first) h = h
  read_kept s (register.Control it) h = h
  read_kept s (register.Status it) h = h
  read_kept s (register.Mpu it) h = h
  read_kept s register.Unlisted h = h

  -- what holds of the parts after an access
  abbrev LeavesParts : Outcome System → Type 0
  LeavesParts o = HasParts P o.after

  performed_kept : (s : System) (rule : Rule) (r : Result System Stop) → HasParts P s → IfDone (HasParts P) r
      → LeavesParts (write_performed s rule r)
  performed_kept s rule (Ok after) h new = new
  performed_kept s rule (Err why) h new = h

  register_kept : (x : ℕ) (s : System) (rule : Rule) (q : Request) (it : SystemRegister) → HasParts P s
      → LeavesParts (register_access x s rule q it)
  unfolding register_access
  register_kept x s rule q it h =
      cond_both (not (has_access s q)) _ _ LeavesParts (λ e. h)
      (λ e. cond_both (not (has_width it q.access.size)) _ _ LeavesParts (λ f. h)
      (λ f. cond_both (is_store q.access.kind) _ _ LeavesParts
      (λ g. performed_kept s rule (register_written s q it) h (written_kept s q it h)) (λ g. read_kept s it h)))

  pub access_kept : (x : ℕ) (s : System) (rule : Rule) (q : Request) → HasParts P s
      → HasParts P (system_access x s rule q).after
  unfolding system_access
  access_kept x s rule q h =
      cond_both (is_load q.access.kind || is_store q.access.kind) _ _ LeavesParts
      (λ e. register_kept x s rule q (register_at (q.access.address / 4 * 4)) h) (λ e. h)

  -- ---- changes by the processor

  pub pending_kept : (s : System) (x : ℕ) (on : Bool) → HasParts P s
      → HasParts P (with_nvic s (with_pending s.nvic x on))
  pending_kept s x on h = with_nvic_kept s _ (k.nvic.pending s.nvic x on h.nvic) h

  pub begun_kept : (s : System) (x : ℕ) → HasParts P s → HasParts P (with_nvic s (activated s.nvic x))
  begun_kept s x h = with_nvic_kept s _ (activated_kept k.nvic s.nvic x h.nvic) h

  pub placed_kept : (s : System) (special : SpecialRegister) (value : ℕ) → HasParts P s
      → HasParts P (with_nvic s (with_mask s.nvic special value))
  placed_kept s special value h = with_nvic_kept s _ (mask_kept k.nvic s.nvic special value h.nvic) h

  pub msr_kept : (s : System) (privileged : Bool) (special : SpecialRegister) (value : ℕ) → HasParts P s
      → HasParts P (with_nvic s (write_mask privileged s.nvic special value))
  msr_kept s privileged special value h =
      with_nvic_kept s _ (write_mask_kept k.nvic privileged s.nvic special value h.nvic) h

  pub cps_kept : (s : System) (privileged : Bool) (o : ChangeProcessorState) → HasParts P s
      → HasParts P (with_nvic s (change_state privileged s.nvic o))
  cps_kept s privileged o h = with_nvic_kept s _ (state_kept k.nvic privileged s.nvic o h.nvic) h

  -- ---- signals, and the lines of devices

  with_devices_kept : (s : System) (devices : List DeviceWords) → table_of devices ≡ table_of s.devices
      → HasParts P s → HasParts P (with_devices s devices)
  with_devices_kept s devices same h =
      record { nvic = h.nvic; time = h.time; mpu = h.mpu; devices = rw same h.devices }

  interrupts_after : (s : System) (what : Signal) → HasParts P s → HasParts P (on_interrupts s what)
  interrupts_after s what h = record {
    nvic = pended_kept P.nvic (pends what) (λ n x e p. k.nvic.pending n x true p) s.nvic h.nvic;
    time = k.signals s.time what h.time;
    mpu = h.mpu;
    devices = h.devices;
  }

  level_kept : (s : System) (l : Level) → HasParts P s → HasParts P (with_level s l)
  level_kept s l h =
      cond_both (not l.is_high) _ _ (HasParts P) (λ e. interrupts_after s (signal.Fall l.number) h)
      (λ e. cond_both (is_high s.time l.number) _ _ (HasParts P) (λ f. h)
      (λ f. interrupts_after s (signal.Rise l.number) h))

  levels_kept : (s : System) (ls : List Level) → HasParts P s → HasParts P (with_levels s ls)
  levels_kept s [] h = h
  levels_kept s (l ∷ ls) h = levels_kept (with_level s l) ls (level_kept s l h)

  pub settled_kept : (s : System) → HasParts P s → HasParts P (settled s)
  unfolding settled
  settled_kept s h = levels_kept s (levels s.devices s.time.ticks) h

  pokes_kept : (s : System) (ps : List Poke) → HasParts P s → HasParts P (after_pokes s ps)
  pokes_kept s [] h = h
  pokes_kept s (p ∷ ps) h =
      settled_kept (with_devices s (poked_all s.devices s.time.ticks (p ∷ ps)))
      (with_devices_kept s (poked_all s.devices s.time.ticks (p ∷ ps)) (table_poked_all s.devices s.time.ticks (p ∷ ps))
      h)

  pub signal_kept : (s : System) (what : Signal) → HasParts P s → HasParts P (after_signal s what)
  unfolding after_signal
  signal_kept s what h = pokes_kept (on_interrupts s what) (poke_of what) (interrupts_after s what h)

  pub device_kept : (s : System) (rule : Rule) (q : Request) → HasParts P s → HasParts P (device_access s rule q).after
  unfolding device_access
  device_kept s rule q h =
      cond_both (is_store q.access.kind) _ _ LeavesParts
      (λ e. settled_kept _ (with_devices_kept s _
      (table_stored s.devices s.time.ticks q.access.address q.access.size q.value) h))
      (λ e. settled_kept _ (with_devices_kept s _ (table_loaded s.devices s.time.ticks q.access.address) h))

  -- ---- a tick, and the end of a handler

  passed_kept : (s : System) → P.time (time_after_tick s.time) → HasParts P s → HasParts P (time_passed s)
  passed_kept s time h = record {
    nvic = pended_kept P.nvic (tick_pends s.time) (λ n x e p. k.nvic.pending n x true p) s.nvic h.nvic;
    time = time;
    mpu = h.mpu;
    devices = h.devices;
  }

  pub tick_kept : (s : System) → P.time (time_after_tick s.time) → HasParts P s → HasParts P (after_tick s)
  unfolding after_tick
  tick_kept s time h =
      pokes_kept (time_passed s) (pokes_of (events_at (s.time.ticks + 1) s.time.script)) (passed_kept s time h)

  pub deactivated_kept : (s : System) (x : ℕ) → HasParts P s → HasParts P (deactivated s x)
  unfolding deactivated
  deactivated_kept s x h =
      let idle = k.nvic.active s.nvic x false h.nvic in
      cond_both (is_asserted s x) _ _ (HasParts P)
      (λ e. with_nvic_kept s _ (k.nvic.pending (with_active s.nvic x false) x true idle) h)
      (λ e. with_nvic_kept s _ idle h)

  pub ended_kept : (s : System) (x : ℕ) → HasParts P s → HasParts P (exception_ended s x)
  ended_kept s x h =
      let after = deactivated_kept s x h in
      cond_both (x == NMI) _ _ (HasParts P) (λ e. after)
      (λ e. with_nvic_kept (deactivated s x) _ (k.nvic.faultmask (deactivated s x).nvic false after.nvic) after)
