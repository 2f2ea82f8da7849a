-- What the law of pokes says.
use Rattle.std.specs.Prelude.{ℕ, ◌*◌, ◌≡◌, Bool, false, ◌||◌, List, [], ◌∷◌, Option, Some, None, length, option_map}
use Rattle.devices.specs.declared.device.Poke.{Poke}
use Rattle.devices.specs.Table.{has}
use Rattle.devices.specs.Devices.{DeviceWords, Word, word_at}
use Rattle.devices.specs.Pokes.{last_poke, poked_all}
use Rattle.devices.specs.Words.{stored_for}

-- each device has a stored number for each four bytes
abbrev pub AreWhole : List DeviceWords → Type 0
AreWhole [] = Unit {0}
AreWhole (d ∷ ds) = (length d.words * 4 ≡ d.device.size) × AreWhole ds

-- a device has the address
abbrev pub has_device_at : List DeviceWords → ℕ → Bool
has_device_at [] a = false
has_device_at (d ∷ ds) a = has d.device a || has_device_at ds a

-- a word that was given a content, if it was given one
abbrev pub given : ℕ → Option ℕ → Option Word → Option Word
given ticks None word = word
given ticks (Some content) word =
    option_map (λ w. record { device = w.device; stored = stored_for w.device ticks content }) word

-- after the pokes of a tick a word has the content that the last poke of it gives it, or else the one it had
abbrev pub LastPokeDecides : List DeviceWords → ℕ → List Poke → ℕ → Type 0
LastPokeDecides ds ticks ps a =
    AreWhole ds → word_at (poked_all ds ticks ps) a ≡ given ticks (last_poke ps a None) (word_at ds a)
