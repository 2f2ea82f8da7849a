-- A script that was read is in order: no event is earlier than the one ahead of it, and each is on an interrupt of the
-- board.
use Rattle.std.proofs.Common.{◌≡◌, ℕ, ◌<◌, ◌≤◌, Bool, true, false, List, [], ◌∷◌, Option, Some, None, Result, Ok, Err}
use Rattle.std.proofs.Common.{if◌then◌else◌, nat_lt, codes, refl, subst, arith}
use Rattle.std.proofs.lemmas.Bool.Decides.{nat_tests}
use Rattle.toml.specs.Data.{Data, Items, no_items, item, Members, get_member, as_bool, as_table}
use Rattle.devices.specs.declared.device.Device.{Device}
use Rattle.devices.specs.declared.device.Poke.{Poke as ThePoke}
use Rattle.platform.specs.declared.error.BoardError.{BoardError}
use Rattle.platform.specs.declared.error.BoardError.TheVariants.{OutOfRange, EventsOutOfOrder}
use Rattle.platform.specs.declared.script.ScriptedEvent.{ScriptedEvent}
use Rattle.platform.specs.declared.script.Signal.{Signal}
use Rattle.platform.specs.declared.script.Signal.TheVariants.{Rise, Fall, Pulse, Nmi, Poke}
use Rattle.platform.specs.Boards.{IsOfBoard, IsScriptFrom, is_tick}
use Rattle.platform.specs.Time.{last_tick}
use Rattle.board.specs.Devices.{has_32_bits, is_device_word}
use Rattle.board.specs.Texts.{change, device_signal, event_in, in_front, interrupt_keys, interrupt_signal, is_free_line}
use Rattle.board.specs.Texts.{nmi, nmi_keys, nmi_signal, poke_keys, poke_signal, script_in, signal_in, timely_event}
use Rattle.board.specs.Values.{◌>>=◌, number, of_kind, only, where_ok, word}

-- both steps were taken
pub both : {A B : Type 0} (read : Result A BoardError) (next : A → Result B BoardError) (given : B) →
    (read >>= next) ≡ Ok given → (value : A) × ((read ≡ Ok value) × (next value ≡ Ok given))
both (Ok value) next given taken = (value, (refl, taken))
both (Err error) next given taken = cc

-- a number that was taken is in its range
pub in_range : (ok : ℕ → Bool) (read : Result ℕ BoardError) (n : ℕ) → where_ok ok read ≡ Ok n → ok n ≡ true
in_range ok (Err error) n taken = cc
in_range ok (Ok m) n taken =
    let only_if : (b : Bool) → (if b then Ok m else Err OutOfRange) ≡ Ok n → (b ≡ true) × (m ≡ n) =
    λ b h. elim b as (λ b. (if b then Ok m else Err OutOfRange) ≡ Ok n → (b ≡ true) × (m ≡ n)) [
      | true ↦ λ h. (refl, cc)
      | false ↦ λ h. cc
    ] h in
    let (passed, same) = only_if (ok m) taken in
    subst (λ n. ok n ≡ true) same passed

-- a change of an interrupt of the board
change_if : (interrupts interrupt : ℕ) (rise fall pulse : Bool) (signal : Signal) → interrupt < interrupts →
    (if rise then Ok (Rise interrupt) else if fall then Ok (Fall interrupt) else if pulse then Ok (Pulse interrupt)
    else Err OutOfRange)
    ≡ Ok signal → IsOfBoard interrupts signal
change_if interrupts interrupt true fall pulse signal below taken =
    let same : Rise interrupt ≡ signal = cc in subst (IsOfBoard interrupts) same below
change_if interrupts interrupt false true pulse signal below taken =
    let same : Fall interrupt ≡ signal = cc in subst (IsOfBoard interrupts) same below
change_if interrupts interrupt false false true signal below taken =
    let same : Pulse interrupt ≡ signal = cc in subst (IsOfBoard interrupts) same below
change_if interrupts interrupt false false false signal below taken = cc

free_is : (interrupts : ℕ) (devices : List Device) (interrupt : ℕ)
    → is_free_line interrupts devices interrupt ≡ true → interrupt < interrupts
free_is interrupts devices interrupt is = grind (arith, nat_tests)

interrupt_is : (interrupts : ℕ) (devices : List Device) (event : Members) (signal : Signal)
    → interrupt_signal interrupts devices event ≡ Ok signal → IsOfBoard interrupts signal
unfolding interrupt_signal
interrupt_is interrupts devices event signal taken =
    let (interrupt, at_interrupt) = both
    (where_ok (is_free_line interrupts devices) (number (get_member (codes "line") event))) _ signal
    taken in
    let (name, at_name) = both (word (get_member (codes "what") event)) _ signal at_interrupt.1 in
    let (change, at_change) = both (change interrupt name) _ signal at_name.1 in
    let (known, at_known) = both (only interrupt_keys event) _ signal at_change.1 in
    let same : change ≡ signal = cc in
    let passed : is_free_line interrupts devices interrupt ≡ true =
    in_range (is_free_line interrupts devices) (number (get_member (codes "line") event)) interrupt at_interrupt.0 in
    let below : interrupt < interrupts = free_is interrupts devices interrupt passed in
    subst (IsOfBoard interrupts) same (change_if interrupts interrupt _ _ _ change below at_change.0)

-- a poke is on no interrupt
poke_is : (interrupts : ℕ) (devices : List Device) (value : Data) (event : Members) (signal : Signal)
    → poke_signal devices value event ≡ Ok signal → IsOfBoard interrupts signal
unfolding poke_signal
poke_is interrupts devices value event signal taken =
    let (address, at_address) = both (where_ok (is_device_word devices) (number (Some value))) _ signal taken in
    let (content, at_content) = both (where_ok has_32_bits (number (get_member (codes "value") event))) _ signal
    at_address.1 in
    let (known, at_known) = both (only poke_keys event) _ signal at_content.1 in
    let poke : ThePoke = record { address = address; value = content } in
    let same : Poke poke ≡ signal = cc in
    subst (IsOfBoard interrupts) same tt

nmi_is : (interrupts : ℕ) (value : Option Bool) (signal : Signal) → nmi value ≡ Ok signal → IsOfBoard interrupts signal
nmi_is interrupts None signal taken = cc
nmi_is interrupts (Some false) signal taken = cc
nmi_is interrupts (Some true) signal taken = let same : Nmi ≡ signal = cc in subst (IsOfBoard interrupts) same tt

nmi_signal_is : (interrupts : ℕ) (value : Data) (event : Members) (signal : Signal) →
    nmi_signal value event ≡ Ok signal → IsOfBoard interrupts signal
unfolding nmi_signal
nmi_signal_is interrupts value event signal taken =
    let (what, at_what) = both (nmi (as_bool value)) _ signal taken in
    let (known, at_known) = both (only nmi_keys event) _ signal at_what.1 in
    let same : what ≡ signal = cc in
    subst (IsOfBoard interrupts) same (nmi_is interrupts (as_bool value) what at_what.0)

device_signal_is : (interrupts : ℕ) (devices : List Device) (event : Members) (value : Option Data) (signal : Signal)
    → device_signal interrupts devices event value ≡ Ok signal → IsOfBoard interrupts signal
device_signal_is interrupts devices event None signal taken = interrupt_is interrupts devices event signal taken
device_signal_is interrupts devices event (Some value) signal taken =
    poke_is interrupts devices value event signal taken

signal_is : (interrupts : ℕ) (devices : List Device) (event : Members) (value : Option Data) (signal : Signal)
    → signal_in interrupts devices event value ≡ Ok signal → IsOfBoard interrupts signal
signal_is interrupts devices event None signal taken =
    device_signal_is interrupts devices event (get_member (codes "poke") event) signal taken
signal_is interrupts devices event (Some value) signal taken = nmi_signal_is interrupts value event signal taken

-- an event that was read applies in a tick of the clock, on an interrupt of the board
abbrev IsRead : ℕ → ScriptedEvent → Type 0
IsRead interrupts event = (event.at ≤ last_tick) × IsOfBoard interrupts event.what

event_is : (interrupts : ℕ) (devices : List Device) (fields : Members) (event : ScriptedEvent)
    → event_in interrupts devices fields ≡ Ok event → IsRead interrupts event
unfolding event_in
event_is interrupts devices fields event taken =
    let (at, at_tick) = both (where_ok is_tick (number (get_member (codes "at") fields))) _ event taken in
    let (what, at_what) =
    both (signal_in interrupts devices fields (get_member (codes "nmi") fields)) _ event at_tick.1 in
    let given : ScriptedEvent = record { at = at; what = what } in
    let same : given ≡ event = cc in
    let passed : is_tick at ≡ true = in_range is_tick (number (get_member (codes "at") fields)) at at_tick.0 in
    let last : at ≤ last_tick = grind (arith, nat_tests) in
    subst (IsRead interrupts) same
    (last, signal_is interrupts devices fields (get_member (codes "nmi") fields) what at_what.0)

-- and it is no earlier than the tick of the one before
pub timely_if : (late : Bool) (read event : ScriptedEvent) →
    (if late then Err EventsOutOfOrder else Ok read) ≡ Ok event → (late ≡ false) × (read ≡ event)
timely_if true read event taken = cc
timely_if false read event taken = (refl, cc)

timely_is : (interrupts : ℕ) (devices : List Device) (before : ℕ) (value : Data) (event : ScriptedEvent) →
    timely_event interrupts devices before value ≡ Ok event → (before ≤ event.at) × IsRead interrupts event
unfolding timely_event
timely_is interrupts devices before value event taken =
    let (fields, at_fields) = both (of_kind (as_table value)) _ event taken in
    let (read, at_read) = both (event_in interrupts devices fields) _ event at_fields.1 in
    let (late, same) = timely_if (nat_lt read.at before) read event at_read.1 in
    let after : before ≤ read.at = grind (arith, nat_tests) in
    subst (λ event. (before ≤ event.at) × IsRead interrupts event) same
    (after, event_is interrupts devices fields read at_read.0)

pub front : (event : ScriptedEvent) (read : Result (List ScriptedEvent) BoardError) (events : List ScriptedEvent) →
    in_front event read ≡ Ok events → (others : List ScriptedEvent) × ((read ≡ Ok others) × (event ∷ others ≡ events))
front event (Ok others) events taken = (others, (refl, cc))
front event (Err error) events taken = cc

pub script_is : (interrupts : ℕ) (devices : List Device) (before : ℕ) (items : Items) (events : List ScriptedEvent) →
    script_in interrupts devices before items ≡ Ok events → IsScriptFrom interrupts before events
unfolding script_in
script_is interrupts devices before no_items events taken =
    let same : [] ≡ events = cc in subst (IsScriptFrom interrupts before) same tt
script_is interrupts devices before (item value values) events taken =
    let (event, at_event) = both (timely_event interrupts devices before value) _ events taken in
    let (others, at_others) = front event (script_in interrupts devices event.at values) events at_event.1 in
    let is : (before ≤ event.at) × IsRead interrupts event =
    timely_is interrupts devices before value event at_event.0 in
    subst (IsScriptFrom interrupts before) at_others.1
    (is.0, is.1.0, is.1.1, script_is interrupts devices event.at values others at_others.0)
