-- The commands that change the machine's state, or save it (profile).
use Rattle.std.specs.Prelude.{ℕ, nat_lt, if◌then◌else◌, List, codes, bytes_eq, Option, Some, None, Result, Ok, Err}
use Rattle.debugger_commands.specs.declared.changes.Change.{Change}
use Rattle.debugger_commands.specs.declared.changes.Change.TheVariants as change
use Rattle.debugger_commands.specs.declared.changes.Edge.{Edge}
use Rattle.debugger_commands.specs.declared.changes.Edge.TheVariants.{Pulse, Rise, Fall}
use Rattle.debugger_commands.specs.declared.commands.LineError.{LineError}
use Rattle.debugger_commands.specs.declared.commands.LineError.TheVariants as error
use Rattle.debugger_commands.specs.Words.{TwoWords, ThreeWords, number, one_word, two_words, three_words}
use Rattle.reference.specs.declared.place.Place.{Place}
use Rattle.reference.specs.declared.place.Place.TheVariants.{Reg, Special, Word}

-- ---- place

-- a register by its number, None from 256 on: no register has such a number
abbrev pub reg_place : ℕ → ℕ → Option Place
reg_place n value = if nat_lt n 256 then Some (Reg n value) else None

abbrev pub special_place : ℕ → ℕ → Option Place
special_place n value = if nat_lt n 256 then Some (Special n value) else None

abbrev pub place_named : List ℕ → ℕ → ℕ → Result Change LineError
place_named word n value =
    if bytes_eq word (codes "reg") then Ok (change.Place (reg_place n value))
    else if bytes_eq word (codes "special") then Ok (change.Place (special_place n value))
    else if bytes_eq word (codes "word") then Ok (change.Place (Some (Word n value)))
    else Err error.Word

abbrev pub place_of : List ℕ → Option ℕ → Option ℕ → Result Change LineError
place_of word (Some n) (Some value) = place_named word n value
place_of word (Some n) None = Err error.Word
place_of word None value = Err error.Word

-- place reg|special n v, and place word a v
abbrev pub read_place : Option ThreeWords → Result Change LineError
read_place None = Err error.Command
read_place (Some words) = place_of words.first (number words.others.first) (number words.others.second)

-- ---- signal

-- what happens on an interrupt
abbrev pub edge_of : List ℕ → Option Edge
edge_of text =
    if bytes_eq text (codes "pulse") then Some Pulse
    else if bytes_eq text (codes "rise") then Some Rise
    else if bytes_eq text (codes "fall") then Some Fall
    else None

abbrev pub signal_of : Option Edge → Option ℕ → Result Change LineError
signal_of (Some edge) (Some k) = Ok (change.Signal edge k)
signal_of (Some edge) None = Err error.Word
signal_of None k = Err error.Word

abbrev pub nmi_of : List ℕ → Result Change LineError
nmi_of word = if bytes_eq word (codes "nmi") then Ok change.Nmi else Err error.Word

-- signal pulse|rise|fall k
abbrev pub read_edge : Option TwoWords → Result Change LineError
read_edge None = Err error.Command
read_edge (Some words) = signal_of (edge_of words.first) (number words.second)

-- a lone word is nmi
abbrev pub read_signal : Option (List ℕ) → Option TwoWords → Result Change LineError
read_signal (Some word) words = nmi_of word
read_signal None words = read_edge words

-- ---- save and back

abbrev pub if_below : ℕ → Option ℕ → Option ℕ
if_below slots None = None
if_below slots (Some k) = if nat_lt k slots then Some k else None

-- the number of a slot, which is below the number of slots
abbrev pub slot_in : ℕ → List ℕ → Option ℕ
slot_in slots word = if_below slots (number word)

abbrev pub save_of : Option ℕ → Result Change LineError
save_of None = Err error.Word
save_of (Some slot) = Ok (change.Save slot)

abbrev pub back_of : Option ℕ → Result Change LineError
back_of None = Err error.Word
back_of (Some slot) = Ok (change.Back slot)

-- save k
abbrev pub read_save : ℕ → Option (List ℕ) → Result Change LineError
read_save slots None = Err error.Command
read_save slots (Some word) = save_of (slot_in slots word)

-- back k
abbrev pub read_back : ℕ → Option (List ℕ) → Result Change LineError
read_back slots None = Err error.Command
read_back slots (Some word) = back_of (slot_in slots word)

-- ---- all of these

-- the change of a first word, with the words after it, in a session with this many slots
unfoldable pub change_in : ℕ → List ℕ → Option (List ℕ) → Result Change LineError
change_in slots word more =
    if bytes_eq word (codes "place") then read_place (three_words more)
    else if bytes_eq word (codes "signal") then read_signal (one_word more) (two_words more)
    else if bytes_eq word (codes "save") then read_save slots (one_word more)
    else if bytes_eq word (codes "back") then read_back slots (one_word more)
    else Err error.Command
