-- What is always so of the System Control Space.
use Rattle.std.specs.Prelude.{◌+◌}
use Rattle.clock.specs.Laws.{IsSortedFrom}
use Rattle.nvic.specs.Laws.{FitsBoard}
use Rattle.platform.specs.SystemInvariant.{HasTimerBits}
use Rattle.platform.specs.Regions.{IsSound as IsSoundMpu}
use Rattle.platform.specs.System.{System}
use Rattle.platform.specs.Time.{Time}

-- SYST_RVR and SYST_CVR have 24 bits, and no event of the script is in the past, nor before the one ahead of it
pub record IsSoundTime (t : Time) : Type 0 where
  pub timer : HasTimerBits t.systick
  pub script : IsSortedFrom (t.ticks + 1) t.script

pub record IsSystemSound (s : System) : Type 0 where
  pub mpu : IsSoundMpu s.mpu
  pub nvic : FitsBoard s.nvic
  pub time : IsSoundTime s.time
