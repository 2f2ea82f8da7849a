-- The words of stops.
use Rattle.std.specs.Prelude.{◌≡◌, ◌<◌, ℕ, if◌then◌else◌, List, Option, Some, None, codes, drop, take}
use Rattle.std.specs.Str.{bytes_eq}
use Rattle.platform.specs.declared.stop.Stop.{Stop}
use Rattle.platform.specs.declared.stop.Stop.TheVariants as stop
use Rattle.platform.specs.Text.{stop_text}

-- a stop that a machine can make: the number of a breakpoint is a byte
abbrev pub IsPossible : Stop → Type 0
IsPossible stop.StepLimit = Unit {0}
IsPossible (stop.Breakpoint number) = number < 256
IsPossible stop.Lockup = Unit {0}
IsPossible (stop.Unpredictable why) = Unit {0}
IsPossible (stop.OutOfProfile why) = Unit {0}
IsPossible stop.ResetRequested = Unit {0}

-- a text is the words of a stop
abbrev pub IsStopText : List ℕ → Type 0
IsStopText words = (why : Stop) × IsPossible why × (stop_text why ≡ words)

-- a text without the word `stop` and the space that it may begin with, as the last line of a trace does
abbrev pub without_stop : List ℕ → List ℕ
without_stop text = if bytes_eq (take 5 text) (codes "stop ") then drop 5 text else text

-- the stop that is expected has the words of the option, as they are or after `stop `; none is expected where the
-- option is left out
abbrev pub IsExpected : Option (List ℕ) → Option Stop → Type 0
IsExpected None None = Unit {0}
IsExpected None (Some why) = ⊥
IsExpected (Some words) None = ⊥
IsExpected (Some words) (Some why) = IsPossible why × (stop_text why ≡ without_stop words)
