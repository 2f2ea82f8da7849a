-- The pokes of a tick, one after another (profile).
use Rattle.std.specs.Prelude.{ℕ, ◌/◌, List, [], ◌∷◌, Option, Some, ◌==◌, if◌then◌else◌}
use Rattle.devices.specs.declared.device.Poke.{Poke}
use Rattle.devices.specs.Devices.{DeviceWords, poked}

-- devices after pokes
abbrev pub poked_all : List DeviceWords → ℕ → List Poke → List DeviceWords
poked_all ds ticks [] = ds
poked_all ds ticks (p ∷ ps) = poked_all (poked ds ticks p.address p.value) ticks ps

-- the content that the last poke of the word at an address gives it, or else `before`
abbrev pub last_poke : List Poke → ℕ → Option ℕ → Option ℕ
last_poke [] a before = before
last_poke (p ∷ ps) a before = last_poke ps a (if p.address / 4 == a / 4 then Some p.value else before)
