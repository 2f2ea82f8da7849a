-- The System Control Space keeps what holds of it: the instance of what `nvic` proves of any property of its parts.
use Rattle.std.proofs.Common.{ℕ, ◌<◌}
use Rattle.clock.proofs.Timers.{read_bits, write_bits}
use Rattle.mpu.proofs.Writes.{sound_after_write}
use Rattle.nvic.proofs.Systems.{Parts, HasParts, PartsAreKept, tick_kept}
use Rattle.platform.specs.Regions.{IsSound}
use Rattle.platform.specs.System.{System, after_tick}
use Rattle.platform.specs.SystemInvariant.{HaveLinesOfBoard}
use Rattle.platform.specs.Time.{last_tick}
use Rattle.state_laws.proofs.Sets.{HasBoard, board_kept}
use Rattle.state_laws.proofs.Ticks.{IsTimely, signal_timely, with_timer, tick_timely}

abbrev pub whole_parts : ℕ → ℕ → Parts
whole_parts interrupts bits = record {
  nvic = HasBoard interrupts bits;
  time = IsTimely interrupts;
  mpu = IsSound;
  devices = HaveLinesOfBoard interrupts;
}

-- what holds of the System Control Space of a board with these interrupts and these bits of a priority
abbrev pub IsWhole : ℕ → ℕ → System → Type 0
IsWhole interrupts bits = HasParts (whole_parts interrupts bits)

pub parts_kept : (interrupts bits : ℕ) → PartsAreKept (whole_parts interrupts bits)
parts_kept interrupts bits = record {
  nvic = board_kept interrupts bits;
  read = λ t it h. with_timer interrupts t _ (read_bits t.systick it h.timer) h;
  written = λ t it value h. with_timer interrupts t _ (write_bits t.systick it value h.timer) h;
  signals = signal_timely interrupts;
  mpu = sound_after_write;
}

pub tick_whole : (interrupts bits : ℕ) (s : System) → s.time.ticks < last_tick → IsWhole interrupts bits s →
    IsWhole interrupts bits (after_tick s)
tick_whole interrupts bits s early h = tick_kept (parts_kept interrupts bits) s
    (tick_timely interrupts s.time early h.time) h
