-- Whether a device has a line.
use Rattle.std.proofs.Common.{◌≡◌, ℕ, false, List, [], ◌∷◌, Option, Some, None, refl}
use Rattle.devices.specs.declared.device.Line.{Line}
use Rattle.devices.specs.Devices.{DeviceWords, value_at}
use Rattle.devices.specs.Lines.{has_lines, levels, levels_by}

-- devices without lines have no levels
no_levels : (f : ℕ → Option ℕ) (ds : List DeviceWords) → has_lines ds ≡ false → levels_by f ds ≡ []
no_levels f [] none = refl
no_levels f (d ∷ ds) none = by d.device.line refl (no_levels f ds)
  where
    by : (o : Option Line) → d.device.line ≡ o → (has_lines ds ≡ false → levels_by f ds ≡ []) →
        levels_by f (d ∷ ds) ≡ []
    by None e rest = rw e (rest (rw e at none))
    by (Some line) e rest = absurd cc (rw e at none)

pub none_lined : (ds : List DeviceWords) (ticks : ℕ) → has_lines ds ≡ false → levels ds ticks ≡ []
none_lined ds ticks none = no_levels (value_at ds ticks) ds none
