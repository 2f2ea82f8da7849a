-- Which refusal of a board a problem explains, and which numbers the message for a key names.
use Rattle.std.specs.Prelude.{◌≡◌, ◌⊎◌, ℕ, ◌+◌, ◌&&◌, Bool, true, false, nat_le, nat_lt, if◌then◌else◌, List, codes}
use Rattle.std.specs.Prelude.{Option, Some, None, is_some, Result, Ok, Err, IsOk}
use Rattle.toml.specs.Data.{Members, as_integer, get_member}
use Rattle.toml.specs.View.{view}
use Rattle.board.specs.Devices.{has_32_bits, is_device_base, is_device_bytes}
use Rattle.board.specs.Texts.{change, is_second_base}
use Rattle.board.specs.Values.{◌>>=◌, number, number_or, where_ok, word}
use Rattle.platform.specs.Boards.{Numbers, default_regions, is_flash, is_interrupt_count, is_priority_bits}
use Rattle.platform.specs.Boards.{is_region_count, is_second_size, is_size, is_whole_blocks}
use Rattle.platform.specs.Map.{ram_base}
use Rattle.platform.specs.declared.script.ScriptedEvent.{ScriptedEvent}
use Rattle.platform.specs.declared.script.Signal.{Signal}
use Rattle.platform.specs.declared.error.BoardError.{BoardError}
use Rattle.platform.specs.declared.error.BoardError.TheVariants.{MissingKey, WrongKind, OutOfRange, EventsOutOfOrder}
use Rattle.platform.specs.declared.error.BoardError.TheVariants.{UnknownKey}
use Rattle.reasons.specs.declared.keys.Key.{Key}
use Rattle.reasons.specs.declared.keys.Takes.{Takes}
use Rattle.reasons.specs.declared.keys.Takes.TheVariants.{Integers, Blocks, RamSizes, FlashSizes, Regions, Tables}
use Rattle.reasons.specs.declared.keys.Takes.TheVariants.{SecondBases, SecondSizes, DeviceBases, DeviceSizes, Bits}
use Rattle.reasons.specs.declared.keys.Takes.TheVariants.{Places, Words}
use Rattle.reasons.specs.declared.problem.Problem.{Problem}
use Rattle.reasons.specs.declared.problem.Problem.TheVariants.{Missing, Value, Kind, Integer, Line, Count, Unknown}
use Rattle.reasons.specs.declared.problem.Problem.TheVariants.{Misplaced, Order, FlashEnd, RamSpan, Device}
use Rattle.reasons.specs.declared.problem.Problem.TheVariants.{Alone}

-- the refusal that a problem explains
abbrev pub refusal_of : Problem → BoardError
refusal_of (Missing key) = MissingKey
refusal_of (Value key value) = OutOfRange
refusal_of (Kind key value) = WrongKind
refusal_of (Integer key value) = WrongKind
refusal_of (Line None lines) = MissingKey
refusal_of (Line (Some value) lines) = if is_some (as_integer (view value.now)) then OutOfRange else WrongKind
refusal_of (Count key count) = OutOfRange
refusal_of (Unknown name known) = UnknownKey
refusal_of (Misplaced name) = UnknownKey
refusal_of (Order at before) = EventsOutOfOrder
refusal_of (FlashEnd base size) = OutOfRange
refusal_of (RamSpan base size) = OutOfRange
refusal_of (Device fault) = OutOfRange
refusal_of (Alone name other) = UnknownKey

-- the key whose message it is, where it is the message of one key
abbrev pub key_of : Problem → Option Key
key_of (Missing key) = Some key
key_of (Value key value) = Some key
key_of (Kind key value) = Some key
key_of (Integer key value) = Some key
key_of (Line value lines) = None
key_of (Count key count) = None
key_of (Unknown name known) = None
key_of (Misplaced name) = None
key_of (Order at before) = None
key_of (FlashEnd base size) = None
key_of (RamSpan base size) = None
key_of (Device fault) = None
key_of (Alone name other) = None

-- the numbers that the message for a key names. That flash of a size may end too high is a problem of its own
abbrev pub takes : Takes → ℕ → Bool
takes (Integers least most) n = nat_le least n && nat_le n most
takes Blocks n = is_whole_blocks n
takes RamSizes n = is_size n
takes FlashSizes n = is_size n
takes SecondBases n = is_second_base n
takes SecondSizes n = is_second_size n
takes DeviceBases n = is_device_base n
takes DeviceSizes n = is_device_bytes n
takes Bits n = has_32_bits n
takes Places n = nat_lt n 32
takes Regions n = is_region_count n
takes Tables n = false
takes (Words words) n = false

-- a key has this name, and its message names just the numbers that a test takes
pub record ShowsKey (name : List ℕ) (test : ℕ → Bool) (key : Key) : Type 0 where
  pub is_named : key.name.now ≡ name
  pub has_range : (n : ℕ) → takes key.takes n ≡ test n

-- a problem is one of the key with this name and this test
abbrev pub NamesKey : List ℕ → (ℕ → Bool) → Option Key → Type 0
NamesKey name test (Some key) = ShowsKey name test key
NamesKey name test None = ⊥

-- a problem is that flash of a size at this base ends too high, the size itself being one that flash can have
abbrev pub EndsTooHigh : ℕ → Problem → Type 0
EndsTooHigh base (FlashEnd other size) =
    (other ≡ base) × (is_size size ≡ true) × (nat_le (base + size) ram_base ≡ false)
EndsTooHigh base (Missing key) = ⊥
EndsTooHigh base (Value key value) = ⊥
EndsTooHigh base (Kind key value) = ⊥
EndsTooHigh base (Integer key value) = ⊥
EndsTooHigh base (Line value lines) = ⊥
EndsTooHigh base (Count key count) = ⊥
EndsTooHigh base (Unknown name known) = ⊥
EndsTooHigh base (Misplaced name) = ⊥
EndsTooHigh base (Order at before) = ⊥
EndsTooHigh base (RamSpan other size) = ⊥
EndsTooHigh base (Device fault) = ⊥
EndsTooHigh base (Alone name other) = ⊥

-- a fact of a number that is refused; or a fact of what comes after one that is read
abbrev pub IfRefused : Result ℕ BoardError → Type 0 → (ℕ → Type 0) → Type 0
IfRefused (Ok n) refused later = later n
IfRefused (Err error) refused later = refused

-- a problem is one of the first key of a board whose number is refused
unfoldable pub NamesFirst : Members → Problem → Type 0
NamesFirst document problem =
    IfRefused (where_ok is_whole_blocks (number (get_member (codes "flash_base") document)))
    (NamesKey (codes "flash_base") is_whole_blocks (key_of problem)) (λ base.
    IfRefused (where_ok (is_flash base) (number (get_member (codes "flash_size") document)))
    (NamesKey (codes "flash_size") is_size (key_of problem) ⊎ EndsTooHigh base problem) (λ flash.
    IfRefused (where_ok is_size (number (get_member (codes "ram_size") document)))
    (NamesKey (codes "ram_size") is_size (key_of problem)) (λ ram.
    IfRefused (where_ok is_priority_bits (number (get_member (codes "priority_bits") document)))
    (NamesKey (codes "priority_bits") is_priority_bits (key_of problem)) (λ bits.
    IfRefused (where_ok is_interrupt_count (number (get_member (codes "lines") document)))
    (NamesKey (codes "lines") is_interrupt_count (key_of problem)) (λ lines.
    IfRefused (where_ok is_region_count (number_or default_regions (get_member (codes "regions") document)))
    (NamesKey (codes "regions") is_region_count (key_of problem)) (λ regions. ⊥))))))

-- a number is the one that is read, or a problem explains why none is read
abbrev pub Explained : {A : Type 0} → Result A Problem → Result A BoardError → Type 0
Explained (Ok found) read = read ≡ Ok found
Explained (Err problem) read = read ≡ Err (refusal_of problem)

-- likewise for a number beside its value, or a problem of its key
abbrev pub ReadsKey : {A : Type 0} → Key → Result (ℕ × A) Problem → Result ℕ BoardError → Type 0
ReadsKey key (Ok found) read = read ≡ Ok found.0
ReadsKey key (Err problem) read = (read ≡ Err (refusal_of problem)) × (key_of problem ≡ Some key)

-- nothing is wrong where something is read, or a problem explains why nothing is
abbrev pub Passes : {A : Type 0} → Result (Unit {0}) Problem → Result A BoardError → Type 0
Passes (Ok nothing) read = IsOk read
Passes (Err problem) read = read ≡ Err (refusal_of problem)

-- no problem where something is read, or one that explains why nothing is
abbrev pub Finds : {A : Type 0} → Option Problem → Result A BoardError → Type 0
Finds None read = IsOk read
Finds (Some problem) read = read ≡ Err (refusal_of problem)

-- the change of a line that the word of an event names
abbrev pub change_in : ℕ → Members → Result Signal BoardError
change_in line event = word (get_member (codes "what") event) >>= change line

-- the tick of an event that is read
abbrev pub tick_of : Result ScriptedEvent BoardError → Result ℕ BoardError
tick_of (Ok event) = Ok event.at
tick_of (Err error) = Err error

-- the number of lines among the numbers that are read
abbrev pub lines_of : Result Numbers BoardError → Result ℕ BoardError
lines_of (Ok numbers) = Ok numbers.interrupts
lines_of (Err error) = Err error
