-- The system is sound after a reset and stays so: each of its parts is kept.
use Rattle.std.proofs.Common.{◌≡◌, ◌⊎◌, ℕ, ◌+◌, Bool, List, arith}
use Rattle.clock.proofs.Scripts.{applies_those}
use Rattle.clock.proofs.Timers.{counted_bits, read_bits, write_bits}
use Rattle.clock.specs.Laws.{IsSortedFrom}
use Rattle.devices.specs.declared.device.Device.{Device}
use Rattle.instruction_set.specs.declared.system.ChangeProcessorState.{ChangeProcessorState}
use Rattle.instruction_set.specs.declared.system.SpecialRegister.{SpecialRegister}
use Rattle.mpu.proofs.Writes.{sound_at_reset, sound_after_write}
use Rattle.nvic.proofs.Boards.{reset_of_board, of_board_kept}
use Rattle.nvic.proofs.Systems.{Parts, HasParts, PartsAreKept, access_kept, tick_kept, msr_kept, cps_kept}
use Rattle.nvic.proofs.Systems.{deactivated_kept, device_kept, settled_kept, signal_kept}
use Rattle.nvic.specs.Laws.{FitsBoard}
use Rattle.platform.specs.declared.access.Request.{Request}
use Rattle.platform.specs.declared.access.Rule.{Rule}
use Rattle.platform.specs.declared.script.ScriptedEvent.{ScriptedEvent}
use Rattle.platform.specs.declared.script.Signal.{Signal}
use Rattle.platform.specs.Regions.{IsSound as IsSoundMpu}
use Rattle.platform.specs.SpecialRegisters.{write_mask, change_state}
use Rattle.platform.specs.System.{System, after_signal, after_tick, deactivated, device_access, reset_system}
use Rattle.platform.specs.System.{system_access, with_nvic}
use Rattle.platform.specs.Time.{Time, time_after_tick}
use Rattle.scs.specs.Laws.{IsSoundTime, IsSystemSound}

abbrev sound_parts : Parts
sound_parts = record { nvic = FitsBoard; time = IsSoundTime; mpu = IsSoundMpu; devices = λ ds. Unit {0} }

parts : (s : System) → IsSystemSound s → HasParts sound_parts s
parts s h = record { nvic = h.nvic; time = h.time; mpu = h.mpu; devices = tt }

sound : (s : System) → HasParts sound_parts s → IsSystemSound s
sound s h = record { mpu = h.mpu; nvic = h.nvic; time = h.time }

parts_kept : PartsAreKept sound_parts
parts_kept = record {
  nvic = of_board_kept;
  read = λ t it h. record { timer = read_bits t.systick it h.timer; script = h.script };
  signals = λ t what h. record { timer = h.timer; script = h.script };
  written = λ t it value h. record { timer = write_bits t.systick it value h.timer; script = h.script };
  mpu = sound_after_write;
}

tick_time : (t : Time) → IsSoundTime t → IsSoundTime (time_after_tick t)
unfolding time_after_tick
tick_time t h = record {
  timer = counted_bits t.systick h.timer;
  script = (applies_those (t.ticks + 1) t.script h.script).1;
}

pub access_sound : (x : ℕ) (s : System) (rule : Rule) (q : Request) → IsSystemSound s
    → IsSystemSound (system_access x s rule q).after
access_sound x s rule q h = sound _ (access_kept parts_kept x s rule q (parts s h))

pub device_sound : (s : System) (rule : Rule) (q : Request) → IsSystemSound s
    → IsSystemSound (device_access s rule q).after
device_sound s rule q h = sound _ (device_kept parts_kept s rule q (parts s h))

pub signal_sound : (s : System) (what : Signal) → IsSystemSound s → IsSystemSound (after_signal s what)
signal_sound s what h = sound _ (signal_kept parts_kept s what (parts s h))

pub tick_sound : (s : System) → IsSystemSound s → IsSystemSound (after_tick s)
tick_sound s h = sound _ (tick_kept parts_kept s (tick_time s.time h.time) (parts s h))

pub msr_sound : (privileged : Bool) (s : System) (special : SpecialRegister) (value : ℕ) → IsSystemSound s
    → IsSystemSound (with_nvic s (write_mask privileged s.nvic special value))
msr_sound privileged s special value h = sound _ (msr_kept parts_kept s privileged special value (parts s h))

pub cps_sound : (privileged : Bool) (s : System) (o : ChangeProcessorState) → IsSystemSound s
    → IsSystemSound (with_nvic s (change_state privileged s.nvic o))
cps_sound privileged s o h = sound _ (cps_kept parts_kept s privileged o (parts s h))

pub deactivated_sound : (s : System) (x : ℕ) → IsSystemSound s → IsSystemSound (deactivated s x)
deactivated_sound s x h = sound _ (deactivated_kept parts_kept s x (parts s h))

pub reset_sound : (flash_base interrupts bits regions : ℕ) (script : List ScriptedEvent) (table : List Device)
    → (regions ≡ 8) ⊎ (regions ≡ 16)
    → IsSortedFrom 1 script → IsSystemSound (reset_system flash_base interrupts bits regions script table)
reset_sound flash_base interrupts bits regions script table known sorted = sound _ (settled_kept parts_kept _ record {
  mpu = sound_at_reset regions known;
  nvic = reset_of_board interrupts bits;
  time = record { timer = record { reload = omega arith; current = omega arith }; script = sorted };
  devices = tt;
})
