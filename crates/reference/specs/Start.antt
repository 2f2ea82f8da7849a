-- The state in which a machine starts (ARM DDI 0403, TakeReset()). What memory holds where no segment goes, and
-- the registers that TakeReset() leaves UNKNOWN, are the profile's.
use Rattle.std.specs.Prelude.{false, if◌then◌else◌, List, None, Result, Ok, Err}
use Rattle.devices.specs.declared.device.Device.{Device}
use Rattle.instruction_set.specs.Registers.{reset_registers}
use Rattle.platform.specs.declared.error.StartError.{StartError}
use Rattle.platform.specs.declared.error.StartError.TheVariants.{SegmentOutsideMemory}
use Rattle.platform.specs.declared.script.ScriptedEvent.{ScriptedEvent}
use Rattle.platform.specs.Boards.{Described, Numbers, blank}
use Rattle.platform.specs.Images.{Segment, are_placed, image_loaded}
use Rattle.platform.specs.Memory.{Memory, vector}
use Rattle.reference.specs.State.{State}
use Rattle.platform.specs.System.{reset_system}

-- the vector table is where flash begins: its first entry is the main stack pointer, its second is the address of the
-- first instruction
abbrev pub reset : Numbers → Memory → List ScriptedEvent → List Device → State
reset board m script devices = record {
  registers = reset_registers (vector m board.flash_base 0) (vector m board.flash_base 1);
  bus = record {
    memory = m;
    system = reset_system board.flash_base board.interrupts board.priority_bits board.regions script devices;
  };
  asleep = false;
  entry = None;
  stop = None;
}

-- the state before the first step, or the refusal of the image
unfoldable pub start : Described → List Segment → Result State StartError
start board image =
    if are_placed (blank board.numbers) image
    then Ok (reset board.numbers (image_loaded (blank board.numbers) image) board.script board.devices)
    else Err SegmentOutsideMemory
