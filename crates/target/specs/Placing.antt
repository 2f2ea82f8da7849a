-- How a machine with a placed value relates to the definition.
use Rattle.std.specs.Prelude.{◌≡◌, Result, Ok, Err}
use Rattle.platform.specs.declared.error.PlaceError.{PlaceError}
use Rattle.reference.specs.State.{State}
use Rattle.target.specs.MachineModel.{MachineModel}

-- a value was placed as the definition says, or refused as it says, and then nothing changed
abbrev pub PlacesAt : Result State PlaceError → State → State → Result (Unit {0}) PlaceError → Type 0
PlacesAt read old new (Ok done) = read ≡ Ok new
PlacesAt read old new (Err error) = (read ≡ Err error) × (new ≡ old)

-- likewise for a machine
abbrev pub Places : Result State PlaceError → MachineModel → MachineModel → Result (Unit {0}) PlaceError → Type 0
Places read old new (Ok done) = (read ≡ Ok new.state) × (new.broken ≡ old.broken)
Places read old new (Err error) = (read ≡ Err error) × (new ≡ old)
