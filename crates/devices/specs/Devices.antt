-- The words of devices, and what loads, stores and pokes do (profile).
use Rattle.std.specs.Prelude.{ℕ, suc, ◌/◌, List, [], ◌∷◌, Option, Some, None, if◌then◌else◌, option_map}
use Rattle.std.specs.Prelude.{slice_set, slice_index, unwrap_or, replicate}
use Rattle.instruction_set.specs.declared.size.Size.{Size}
use Rattle.devices.specs.declared.device.Device.{Device}
use Rattle.devices.specs.declared.device.Poke.{Poke}
use Rattle.devices.specs.Table.{has, place}
use Rattle.devices.specs.Words.{content_of, content_after, stored_for, value_of}
use Rattle.devices.specs.Parts.{covered, in_place, part, sent}

-- a device, and what is stored for each of its words
pub record DeviceWords : Type 0 where
  pub device : Device
  pub words : List ℕ

-- one word of a device: the device, and what is stored
pub record Word : Type 0 where
  pub device : Device
  pub stored : ℕ

-- a device at the start
abbrev pub at_start : Device → DeviceWords
at_start d = record { device = d; words = replicate (d.size / 4) d.start }

-- devices at the start
abbrev pub fresh : List Device → List DeviceWords
fresh [] = []
fresh (d ∷ ds) = at_start d ∷ fresh ds

-- the word of the first device that has an address
abbrev pub word_at : List DeviceWords → ℕ → Option Word
word_at [] a = None
word_at (d ∷ ds) a =
    if has d.device a then Some (record { device = d.device; stored = slice_index d.words (place d.device a) })
    else word_at ds a

-- the number of the first device that has an address, where the first of these is number k
abbrev pub position_from : ℕ → List DeviceWords → ℕ → Option ℕ
position_from k [] a = None
position_from k (d ∷ ds) a = if has d.device a then Some k else position_from (suc k) ds a

-- ---- what a word holds and reads as; asking changes nothing

abbrev pub content_in : ℕ → Option Word → ℕ
content_in ticks None = 0
content_in ticks (Some w) = content_of w.device ticks w.stored

-- the content of the word at an address after this many ticks, 0 where there is none
abbrev pub content_at : List DeviceWords → ℕ → ℕ → ℕ
content_at ds ticks a = content_in ticks (word_at ds a)

abbrev pub value_in : List DeviceWords → ℕ → ℕ → Option Word → Option ℕ
value_in ds ticks a None = None
value_in ds ticks a (Some w) =
    Some (value_of w.device (content_of w.device ticks w.stored)
    (content_at ds ticks (unwrap_or w.device.of a)))

-- the value of the word at an address, if a device has it
abbrev pub value_at : List DeviceWords → ℕ → ℕ → Option ℕ
value_at ds ticks a = value_in ds ticks a (word_at ds a)

-- what a load of this size reads at an address, if a device has it
abbrev pub read_at : List DeviceWords → ℕ → ℕ → Size → Option ℕ
read_at ds ticks a size = option_map (part a size) (value_at ds ticks a)

-- ---- pokes

-- a device after the word at an address was given a content
abbrev pub with_content : DeviceWords → ℕ → ℕ → ℕ → DeviceWords
with_content d ticks a content =
    record d { words = slice_set d.words (place d.device a) (stored_for d.device ticks content) }

-- devices after the word at an address was given a content, if one has it
abbrev pub poked : List DeviceWords → ℕ → ℕ → ℕ → List DeviceWords
poked [] ticks a content = []
poked (d ∷ ds) ticks a content =
    if has d.device a then with_content d ticks a content ∷ ds else d ∷ poked ds ticks a content

-- devices after a poke, if there is one
abbrev pub poked_by : List DeviceWords → ℕ → Option Poke → List DeviceWords
poked_by ds ticks None = ds
poked_by ds ticks (Some p) = poked ds ticks p.address p.value

-- ---- a load, whose poke comes after the value was read

abbrev pub loaded_in : List DeviceWords → ℕ → Option Word → List DeviceWords
loaded_in ds ticks None = ds
loaded_in ds ticks (Some w) = poked_by ds ticks w.device.load_poke

-- devices after a load from an address
abbrev pub loaded : List DeviceWords → ℕ → ℕ → List DeviceWords
loaded ds ticks a = loaded_in ds ticks (word_at ds a)

-- ---- a store, whose poke comes after what it stores

-- the content that a store leaves in a word
abbrev pub stored_content : Word → ℕ → ℕ → Size → ℕ → ℕ
stored_content w ticks a size v =
    content_after w.device (content_of w.device ticks w.stored) (covered a size) (in_place a v)

abbrev pub after_store_in : List DeviceWords → ℕ → ℕ → Size → ℕ → Option Word → List DeviceWords
after_store_in ds ticks a size v None = ds
after_store_in ds ticks a size v (Some w) =
    poked_by (poked ds ticks a (stored_content w ticks a size v)) ticks w.device.store_poke

-- devices after a store of a number to an address
abbrev pub after_store_at : List DeviceWords → ℕ → ℕ → Size → ℕ → List DeviceWords
after_store_at ds ticks a size v = after_store_in ds ticks a size v (word_at ds a)

-- for a store to a device, the byte that it sends to the console, if it sends one
abbrev pub sent_at : List DeviceWords → ℕ → ℕ → Option (Option ℕ)
sent_at ds a v = option_map (λ w. sent w.device a v) (word_at ds a)
