-- The lines of devices (profile): one is high while a bit is 1 both in its device's first word and in the word that
-- enables it.
use Rattle.std.specs.Prelude.{ℕ, Bool, true, false, not, ◌||◌, ◌==◌, bit_and, List, [], ◌∷◌, ◌++◌, Option, Some, None}
use Rattle.std.specs.Prelude.{unwrap_or}
use Rattle.devices.specs.declared.device.Device.{Device}
use Rattle.devices.specs.declared.device.Line.{Line}
use Rattle.devices.specs.declared.level.Level.{Level}
use Rattle.devices.specs.Devices.{DeviceWords, value_at}

abbrev pub has_line : Option Line → Bool
has_line None = false
has_line (Some line) = true

-- whether one of some devices has a line
abbrev pub has_lines : List DeviceWords → Bool
has_lines [] = false
has_lines (d ∷ ds) = has_line d.device.line || has_lines ds

-- whether a line is that of an interrupt
abbrev pub is_line_of : Option Line → ℕ → Bool
is_line_of None interrupt = false
is_line_of (Some line) interrupt = line.number == interrupt

-- whether a device drives an interrupt
abbrev pub drives : List DeviceWords → ℕ → Bool
drives [] interrupt = false
drives (d ∷ ds) interrupt = is_line_of d.device.line interrupt || drives ds interrupt

-- whether a device's line is high, by the values of words
abbrev pub is_high : (ℕ → Option ℕ) → Device → Line → Bool
is_high value d line = not (bit_and (unwrap_or (value d.base) 0) (unwrap_or (value line.enable) 0) == 0)

-- the level of a device's line
unfoldable pub level_on : (ℕ → Option ℕ) → Device → Line → Level
level_on value d line =
    record { number = line.number; is_high = is_high value d line; number_is_small = line.number_is_small }

abbrev pub level_of : (ℕ → Option ℕ) → Device → Option Line → List Level
level_of value d None = []
level_of value d (Some line) = level_on value d line ∷ []

-- the levels of the lines of these devices, by the values of words
abbrev pub levels_by : (ℕ → Option ℕ) → List DeviceWords → List Level
levels_by value [] = []
levels_by value (d ∷ ds) = level_of value d.device d.device.line ++ levels_by value ds

-- the levels of all lines, in the order of the board
abbrev pub levels : List DeviceWords → ℕ → List Level
levels ds ticks = levels_by (value_at ds ticks) ds
