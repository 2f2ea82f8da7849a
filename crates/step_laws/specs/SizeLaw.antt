-- A board stays: the blocks of memory keep their places and sizes, and the devices are the same, so that a copy of a
-- machine's state fits the machine for good.
use Rattle.std.specs.Prelude.{Result, Ok, Err}
use Rattle.devices.specs.Copies.{HaveSameDevices}
use Rattle.platform.specs.declared.error.PlaceError.{PlaceError}
use Rattle.reference.specs.State.{Bus, State}
use Rattle.physical_memory.specs.Sizes.{HaveSameSizes}

-- two buses of one board: the memories have the same sizes, and the devices are the same
abbrev pub AreOfOneBoard : Bus → Bus → Type 0
AreOfOneBoard one other =
    HaveSameSizes one.memory other.memory × HaveSameDevices one.system.devices other.system.devices

-- after what comes from outside, where it isn't refused
abbrev pub KeepsBoard : State → Result State PlaceError → Type 0
KeepsBoard s (Ok after) = AreOfOneBoard s.bus after.bus
KeepsBoard s (Err why) = Unit {0}
