-- Lists of the same devices.
use Rattle.std.specs.Prelude.{◌≡◌, List, [], ◌∷◌}
use Rattle.devices.specs.Devices.{DeviceWords}

-- two lists are of the same devices
abbrev pub HaveSameDevices : List DeviceWords → List DeviceWords → Type 0
HaveSameDevices [] [] = Unit {0}
HaveSameDevices (d ∷ ds) (e ∷ es) = (d.device ≡ e.device) × HaveSameDevices ds es
HaveSameDevices [] (e ∷ es) = ⊥
HaveSameDevices (d ∷ ds) [] = ⊥
