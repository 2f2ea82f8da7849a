-- What is done to words leaves the devices.
use Rattle.std.proofs.Common.{◌≡◌, ℕ, Bool, true, false, List, [], ◌∷◌, Option, Some, None, refl, ap, ◌∙◌}
use Rattle.devices.specs.declared.device.Device.{Device}
use Rattle.devices.specs.declared.device.Poke.{Poke}
use Rattle.devices.specs.Devices.{DeviceWords, Word, after_store_at, after_store_in, fresh, loaded, loaded_in, poked}
use Rattle.devices.specs.Devices.{poked_by, stored_content, word_at}
use Rattle.devices.specs.Pokes.{poked_all}
use Rattle.devices.specs.Table.{has}
use Rattle.instruction_set.specs.declared.size.Size.{Size}
use Rattle.platform.specs.SystemInvariant.{table_of}

-- at the start they are those of the board
pub table_fresh : (ds : List Device) → table_of (fresh ds) ≡ ds
table_fresh [] = refl
table_fresh (d ∷ ds) = ap (λ (tail : List Device). d ∷ tail) (table_fresh ds)

pub table_poked : (ds : List DeviceWords) (ticks a v : ℕ) → table_of (poked ds ticks a v) ≡ table_of ds
table_poked [] ticks a v = refl
table_poked (d ∷ ds) ticks a v = by (has d.device a) refl (table_poked ds ticks a v)
  where
    by : (b : Bool) → has d.device a ≡ b → table_of (poked ds ticks a v) ≡ table_of ds →
        table_of (poked (d ∷ ds) ticks a v) ≡ table_of (d ∷ ds)
    by true h rest = rw h refl
    by false h rest = rw h (ap (λ (tail : List Device). d.device ∷ tail) rest)

pub table_poked_all : (ds : List DeviceWords) (ticks : ℕ) (ps : List Poke) →
    table_of (poked_all ds ticks ps) ≡ table_of ds
table_poked_all ds ticks [] = refl
table_poked_all ds ticks (p ∷ ps) =
    table_poked_all (poked ds ticks p.address p.value) ticks ps ∙ table_poked ds ticks p.address p.value

table_poked_by : (ds : List DeviceWords) (ticks : ℕ) (p : Option Poke) → table_of (poked_by ds ticks p) ≡ table_of ds
table_poked_by ds ticks None = refl
table_poked_by ds ticks (Some p) = table_poked ds ticks p.address p.value

pub table_loaded : (ds : List DeviceWords) (ticks a : ℕ) → table_of (loaded ds ticks a) ≡ table_of ds
table_loaded ds ticks a = by (word_at ds a)
  where
    by : (word : Option Word) → table_of (loaded_in ds ticks word) ≡ table_of ds
    by None = refl
    by (Some w) = table_poked_by ds ticks w.device.load_poke

pub table_stored : (ds : List DeviceWords) (ticks a : ℕ) (size : Size) (v : ℕ) →
    table_of (after_store_at ds ticks a size v) ≡ table_of ds
table_stored ds ticks a size v = by (word_at ds a)
  where
    by : (word : Option Word) → table_of (after_store_in ds ticks a size v word) ≡ table_of ds
    by None = refl
    by (Some w) =
        table_poked_by (poked ds ticks a (stored_content w ticks a size v)) ticks w.device.store_poke
        ∙ table_poked ds ticks a (stored_content w ticks a size v)
