-- What the text of a board means (profile), over the `toml` crate's meaning of a document (TOML 1.1). A check is made
-- only where those before it passed, so the first refusal is the result.
use Rattle.std.specs.Prelude.{ℕ, Bool, true, false, ◌&&◌, not, nat_le, nat_lt, if◌then◌else◌, List, [], ◌∷◌, codes}
use Rattle.std.specs.Prelude.{bytes_eq, Option, Some, None, Result, Ok, Err}
use Rattle.toml.specs.Data.{Data, Items, no_items, item, Members, get_member, as_bool, as_table}
use Rattle.toml.specs.Parse.{parse_document}
use Rattle.devices.specs.declared.device.Device.{Device}
use Rattle.platform.specs.declared.error.BoardError.{BoardError}
use Rattle.platform.specs.declared.error.BoardError.TheVariants.{NotToml, WrongKind, OutOfRange, EventsOutOfOrder}
use Rattle.platform.specs.declared.script.ScriptedEvent.{ScriptedEvent}
use Rattle.platform.specs.declared.script.Signal.{Signal}
use Rattle.platform.specs.declared.script.Signal.TheVariants.{Rise, Fall, Pulse, Nmi, Poke}
use Rattle.platform.specs.Boards.{Numbers, Described, RamSpan, is_whole_blocks, is_size, is_flash, is_priority_bits}
use Rattle.platform.specs.Boards.{is_interrupt_count, is_second_ram}
use Rattle.platform.specs.Boards.{is_region_count, default_regions, is_tick, first_tick, max_events}
use Rattle.board.specs.Values.{◌>>=◌, number, number_or, of_kind, only, tables_at, where_ok, word}
use Rattle.board.specs.Devices.{devices_at, has_32_bits, is_device_word}
use Rattle.platform.specs.Wiring.{is_driven}

abbrev pub board_keys : List (List ℕ)
board_keys =
    codes "flash_base" ∷ codes "flash_size" ∷ codes "ram_size" ∷ codes "priority_bits" ∷ codes "lines" ∷ codes "regions"
    ∷ codes "ram" ∷ codes "device" ∷ codes "event" ∷ []

abbrev pub second_ram_keys : List (List ℕ)
second_ram_keys = codes "base" ∷ codes "size" ∷ []

abbrev pub interrupt_keys : List (List ℕ)
interrupt_keys = codes "at" ∷ codes "line" ∷ codes "what" ∷ []

abbrev pub poke_keys : List (List ℕ)
poke_keys = codes "at" ∷ codes "poke" ∷ codes "value" ∷ []

abbrev pub nmi_keys : List (List ℕ)
nmi_keys = codes "at" ∷ codes "nmi" ∷ []

-- the six numbers, one after another, of a board without a second RAM
unfoldable pub numbers_in : Members → Result Numbers BoardError
numbers_in document = do
  flash_base ← where_ok is_whole_blocks (number (get_member (codes "flash_base") document))
  flash_size ← where_ok (is_flash flash_base) (number (get_member (codes "flash_size") document))
  ram_size ← where_ok is_size (number (get_member (codes "ram_size") document))
  priority_bits ← where_ok is_priority_bits (number (get_member (codes "priority_bits") document))
  interrupts ← where_ok is_interrupt_count (number (get_member (codes "lines") document))
  regions ← where_ok is_region_count (number_or default_regions (get_member (codes "regions") document))
  Ok (record {
    flash_base = flash_base;
    flash_size = flash_size;
    ram_size = ram_size;
    second_ram = None;
    priority_bits = priority_bits;
    interrupts = interrupts;
    regions = regions;
  })

-- the signal on an interrupt that a word names
abbrev pub change : ℕ → List ℕ → Result Signal BoardError
change interrupt name =
    if bytes_eq name (codes "rise") then Ok (Rise interrupt)
    else if bytes_eq name (codes "fall") then Ok (Fall interrupt)
    else if bytes_eq name (codes "pulse") then Ok (Pulse interrupt)
    else Err OutOfRange

-- `nmi` is true
abbrev pub nmi : Option Bool → Result Signal BoardError
nmi None = Err WrongKind
nmi (Some false) = Err OutOfRange
nmi (Some true) = Ok Nmi

-- an interrupt of the board that no device drives
abbrev pub is_free_line : ℕ → List Device → ℕ → Bool
is_free_line interrupts devices interrupt = nat_lt interrupt interrupts && not (is_driven devices interrupt)

-- the signal of an event that names an interrupt of the board
unfoldable pub interrupt_signal : ℕ → List Device → Members → Result Signal BoardError
interrupt_signal interrupts devices event = do
  interrupt ← where_ok (is_free_line interrupts devices) (number (get_member (codes "line") event))
  name ← word (get_member (codes "what") event)
  signal ← change interrupt name
  known ← only interrupt_keys event
  Ok signal

-- the signal of an event with `poke`, the address of a word of a device
unfoldable pub poke_signal : List Device → Data → Members → Result Signal BoardError
poke_signal devices value event = do
  address ← where_ok (is_device_word devices) (number (Some value))
  content ← where_ok has_32_bits (number (get_member (codes "value") event))
  known ← only poke_keys event
  Ok (Poke (record { address = address; value = content }))

-- the signal of an event with `nmi`
unfoldable pub nmi_signal : Data → Members → Result Signal BoardError
nmi_signal value event = do
  signal ← nmi (as_bool value)
  known ← only nmi_keys event
  Ok signal

-- the signal of an event without `nmi`, by whether it has `poke`
abbrev pub device_signal : ℕ → List Device → Members → Option Data → Result Signal BoardError
device_signal interrupts devices event None = interrupt_signal interrupts devices event
device_signal interrupts devices event (Some value) = poke_signal devices value event

-- the signal of an event, by whether it has `nmi`
abbrev pub signal_in : ℕ → List Device → Members → Option Data → Result Signal BoardError
signal_in interrupts devices event None =
    device_signal interrupts devices event (get_member (codes "poke") event)
signal_in interrupts devices event (Some value) = nmi_signal value event

-- one event, on a board with that number of interrupts and these devices
unfoldable pub event_in : ℕ → List Device → Members → Result ScriptedEvent BoardError
event_in interrupts devices event = do
  at ← where_ok is_tick (number (get_member (codes "at") event))
  what ← signal_in interrupts devices event (get_member (codes "nmi") event)
  Ok (record { at = at; what = what })

-- one event more, in front of those after it
abbrev pub in_front : ScriptedEvent → Result (List ScriptedEvent) BoardError → Result (List ScriptedEvent) BoardError
in_front event (Ok events) = Ok (event ∷ events)
in_front event (Err error) = Err error

-- an event that is no earlier than a tick
unfoldable pub timely_event : ℕ → List Device → ℕ → Data → Result ScriptedEvent BoardError
timely_event interrupts devices before value = do
  fields ← of_kind (as_table value)
  event ← event_in interrupts devices fields
  if nat_lt event.at before then Err EventsOutOfOrder else Ok event

-- the events of a list, the first of them no earlier than a tick
unfoldable pub script_in : ℕ → List Device → ℕ → Items → Result (List ScriptedEvent) BoardError
script_in interrupts devices before no_items = Ok []
script_in interrupts devices before (item value others) = do
  event ← timely_event interrupts devices before value
  in_front event (script_in interrupts devices event.at others)

-- a board has one table of a second RAM at most
abbrev pub max_second_rams : ℕ
max_second_rams = 1

-- the base of a second RAM: the address of a block
abbrev pub is_second_base : ℕ → Bool
is_second_base base = is_whole_blocks base && nat_le base 0xFFFF_FC00

-- a second RAM of a board with these numbers
unfoldable pub second_ram_in : Numbers → Members → Result RamSpan BoardError
second_ram_in numbers table = do
  base ← where_ok is_second_base (number (get_member (codes "base") table))
  size ←
      where_ok (λ size. is_second_ram numbers (record { base = base; size = size }))
      (number (get_member (codes "size") table))
  known ← only second_ram_keys table
  Ok (record { base = base; size = size })

-- the second RAM, if there is a table of one
abbrev pub second_ram_of : Numbers → Items → Result (Option RamSpan) BoardError
second_ram_of numbers no_items = Ok None
second_ram_of numbers (item value others) = do
  table ← of_kind (as_table value)
  second ← second_ram_in numbers table
  Ok (Some second)

-- the numbers of a board with the second RAM of a document, if it has one
unfoldable pub with_second_ram : Numbers → Members → Result Numbers BoardError
with_second_ram numbers document = do
  rams ← tables_at max_second_rams (get_member (codes "ram") document)
  second ← second_ram_of numbers rams
  Ok (record numbers { second_ram = second })

-- the board that a document describes, or the first refusal
unfoldable pub board_in : Members → Result Described BoardError
board_in document = do
  numbers ← numbers_in document
  known ← only board_keys document
  all ← with_second_ram numbers document
  devices ← devices_at all document
  events ← tables_at max_events (get_member (codes "event") document)
  script ← script_in all.interrupts devices first_tick events
  Ok (record { numbers = all; script = script; devices = devices })

-- the board of what was parsed
abbrev pub board_of_document : Option Members → Result Described BoardError
board_of_document None = Err NotToml
board_of_document (Some document) = board_in document

-- the board that a text describes, or the first refusal
unfoldable pub board_of : List ℕ → Result Described BoardError
board_of text = board_of_document (parse_document text)
