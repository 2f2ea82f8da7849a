-- What is the same of lists of the same devices, as of one before and after a poke, which changes words alone.
use Rattle.std.proofs.Common.{◌≡◌, ℕ, List, [], ◌∷◌, Option, refl}
use Rattle.devices.specs.declared.device.Device.{Device}
use Rattle.devices.specs.Apart.{are_apart, is_apart_from}
use Rattle.devices.specs.Copies.{HaveSameDevices}
use Rattle.devices.specs.Devices.{DeviceWords, poked}
use Rattle.devices.specs.Lines.{has_lines, levels_by}
use Rattle.devices.proofs.Copying.{same_after_poke}

same_self : (ds : List DeviceWords) → HaveSameDevices ds ds
same_self [] = tt
same_self (d ∷ ds) = (refl, same_self ds)

pub same_poked : (ds : List DeviceWords) (ticks a v : ℕ) → HaveSameDevices (poked ds ticks a v) ds
same_poked ds ticks a v = same_after_poke ds ds ticks a v (same_self ds)

pub same_lined : (ds es : List DeviceWords) → HaveSameDevices ds es → has_lines ds ≡ has_lines es
same_lined [] [] s = refl
same_lined (d ∷ ds) (e ∷ es) s = rw (s.0, same_lined ds es s.1) refl
same_lined [] (e ∷ es) s = absurd s
same_lined (d ∷ ds) [] s = absurd s

same_from : (t : Device) (ds es : List DeviceWords) → HaveSameDevices ds es → is_apart_from t ds ≡ is_apart_from t es
same_from t [] [] s = refl
same_from t (d ∷ ds) (e ∷ es) s = rw (s.0, same_from t ds es s.1) refl
same_from t [] (e ∷ es) s = absurd s
same_from t (d ∷ ds) [] s = absurd s

pub same_apart : (ds es : List DeviceWords) → HaveSameDevices ds es → are_apart ds ≡ are_apart es
same_apart [] [] s = refl
same_apart (d ∷ ds) (e ∷ es) s = rw (s.0, same_from e.device ds es s.1, same_apart ds es s.1) refl
same_apart [] (e ∷ es) s = absurd s
same_apart (d ∷ ds) [] s = absurd s

-- the lines are on the devices
pub same_levels : (f : ℕ → Option ℕ) (ds es : List DeviceWords) → HaveSameDevices ds es →
    levels_by f ds ≡ levels_by f es
same_levels f [] [] s = refl
same_levels f (d ∷ ds) (e ∷ es) s = rw (s.0, same_levels f ds es s.1) refl
same_levels f [] (e ∷ es) s = absurd s
same_levels f (d ∷ ds) [] s = absurd s
