-- How the reader's values are read as those of the reference, and how a result relates to the definition.
use Rattle.std.specs.Prelude.{◌≡◌, ◌⊎◌, Result, Ok, Err, IsOk}
use Rattle.platform.specs.Boards.{Described, numbers_of}
use Rattle.board.specs.declared.board.Board.{Board}
use Rattle.board.specs.declared.device_parts.Span.{Span as TheSpan}
use Rattle.board.specs.declared.device_parts.Values.{Values as TheValues}
use Rattle.board.specs.Devices.{Span, Values}
use Rattle.platform.specs.declared.error.BoardError.{BoardError}
use Rattle.platform.specs.declared.error.BoardError.TheVariants.{OutOfMemory}

-- a board, as the reference describes it
abbrev pub described : Board → Described
described board = record {
  numbers = numbers_of board.layout;
  script = board.events.items;
  devices = board.devices.items;
}

-- where a device is, and what its words read as, as the definitions have them
abbrev pub span_read : TheSpan → Span
span_read span = record { base = span.base; size = span.size }

abbrev pub values_read : TheValues → Values
values_read values = record {
  start = values.start;
  ones = values.ones;
  zeros = values.zeros;
  stores = values.stores;
  follows = values.follows;
  by = values.by;
  of = values.of;
  counts = values.counts;
}

-- a result is the one that the definition reads, its value seen by a view
abbrev pub Gives : {V W : Type 0} → (V → W) → Result V BoardError → Result W BoardError → Type 0
Gives view (Ok value) read = read ≡ Ok (view value)
Gives view (Err error) read = read ≡ Err error

-- likewise, or out of memory, but only where the definition refuses nothing
abbrev pub Answers : {V W : Type 0} → (V → W) → Result V BoardError → Result W BoardError → Type 0
Answers view (Ok value) read = read ≡ Ok (view value)
Answers view (Err error) read = (read ≡ Err error) ⊎ ((error ≡ OutOfMemory) × IsOk read)
