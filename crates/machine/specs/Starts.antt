-- How a started machine relates to the definition.
use Rattle.std.specs.Prelude.{◌≡◌, false, Result, Ok, Err, IsOk}
use Rattle.target.specs.MachineModel.{MachineModel}
use Rattle.platform.specs.declared.error.StartError.{StartError}
use Rattle.platform.specs.declared.error.StartError.TheVariants.{SegmentOutsideMemory, NoMemory}
use Rattle.reference.specs.State.{State}

-- a core is in the start state; an image is refused where the definition refuses it; and it's out of memory only where
-- the definition refuses nothing
abbrev pub StartsAt : Result State StartError → Result State StartError → Type 0
StartsAt read (Ok s) = read ≡ Ok s
StartsAt read (Err SegmentOutsideMemory) = read ≡ Err SegmentOutsideMemory
StartsAt read (Err NoMemory) = IsOk read

-- likewise for a machine, whose writer hasn't failed
abbrev pub Starts : Result State StartError → Result MachineModel StartError → Type 0
Starts read (Ok m) = (read ≡ Ok m.state) × (m.broken ≡ false)
Starts read (Err SegmentOutsideMemory) = read ≡ Err SegmentOutsideMemory
Starts read (Err NoMemory) = IsOk read
