-- SysTick after ticks at none of which anything is due, without counting them one by one.
use Rattle.std.specs.Prelude.{ℕ, ◌+◌, ◌-◌, ◌%◌, ◌==◌, nat_le, if◌then◌else◌}
use Rattle.platform.specs.Time.{SysTick}

-- the counter some counts after it was 0: RVR + 1 counts bring it back to 0
abbrev pub from_zero : ℕ → ℕ → ℕ
from_zero reload counts = if counts % (reload + 1) == 0 then 0 else reload + 1 - counts % (reload + 1)

-- the counter some counts after it had a value: it falls to 0 first
abbrev pub current_after : ℕ → ℕ → ℕ → ℕ
current_after reload current counts =
    if nat_le counts current then current - counts else from_zero reload (counts - current)

-- SysTick after some ticks: while it's enabled the counter counts
abbrev pub after_ticks : SysTick → ℕ → SysTick
after_ticks t ticks = record t { current = if t.enable then current_after t.reload t.current ticks else t.current }
