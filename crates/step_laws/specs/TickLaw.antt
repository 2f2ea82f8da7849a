-- How long a step takes (profile).
use Rattle.std.specs.Prelude.{◌≡◌, ◌+◌, ◌<◌, None}
use Rattle.platform.specs.Time.{last_tick}
use Rattle.reference.specs.State.{State}
use Rattle.reference.specs.Step.{step}

-- a step of a machine that hasn't stopped, and whose clock isn't at its end, takes one tick
abbrev pub TakesTick : State → Type 0
TakesTick s =
    s.stop ≡ None → s.bus.system.time.ticks < last_tick →
    (step s).state.bus.system.time.ticks ≡ s.bus.system.time.ticks + 1
