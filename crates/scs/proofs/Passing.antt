-- A tick at which nothing is due.
use Rattle.std.specs.Prelude.{◌+◌, ◌<◌, ◌≡◌, refl}
use Rattle.clock.proofs.Quiet.{quiet_tick, quiet_pends, quiet_silent}
use Rattle.nvic.proofs.Due.{nothing_is_pended}
use Rattle.platform.specs.System.{System, after_tick}
use Rattle.platform.specs.Time.{due_of, passed, tick_pends}

-- only time goes on: nothing becomes pending, and no device is poked
pub only_time_passes : (s : System) → s.time.ticks + 1 < due_of s.time
    → after_tick s ≡ record s { time = passed s.time }
unfolding after_tick
only_time_passes s h =
    rw (quiet_silent s.time h, nothing_is_pended s.nvic (tick_pends s.time) (λ n. quiet_pends s.time n h))
    (rw (quiet_tick s.time h) refl)
