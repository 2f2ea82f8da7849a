-- A start settles the lines; a value that is placed and a signal keep them so.
use Rattle.std.proofs.Common.{◌≡◌, ℕ, true, false, not, ◌&&◌, ◌||◌, is_some, List, [], ◌∷◌, Option, Some, None}
use Rattle.std.proofs.Common.{nat_lt, refl, ◌∙◌}
use Rattle.std.proofs.lemmas.Bool.{and_parts, cond_both, not-false, not-true}
use Rattle.std.proofs.lemmas.List.{length-replicate}
use Rattle.devices.specs.Devices.{DeviceWords, value_at}
use Rattle.devices.specs.Lines.{drives}
use Rattle.instruction_set.specs.declared.system.SpecialRegister.{SpecialRegister}
use Rattle.instruction_set.specs.Registers.{is_handler}
use Rattle.instruction_set.specs.RowOperands.{special_of}
use Rattle.line_laws.proofs.Events.{at_alike, signal_leaves}
use Rattle.line_laws.proofs.Levels.{signal_length}
use Rattle.line_laws.proofs.Settled.{Holds, carried_holds, nvic_holds, pokes_hold, settled_holds}
use Rattle.line_laws.proofs.Steps.{held, settled_of}
use Rattle.line_laws.specs.LineLaw.{IsSettled}
use Rattle.nvic.proofs.Tables.{table_fresh}
use Rattle.platform.specs.declared.access.Performed.{Performed}
use Rattle.platform.specs.declared.access.Performed.TheVariants as performed
use Rattle.platform.specs.declared.access.Rule.TheVariants.{PrivatePeripheralBus}
use Rattle.platform.specs.declared.exception.TheConstants.{MAX_INTERRUPTS}
use Rattle.platform.specs.declared.script.Signal.{Signal}
use Rattle.platform.specs.declared.script.Signal.TheVariants.{Rise, Fall, Pulse, Nmi, Poke}
use Rattle.platform.specs.Boards.{Described, blank}
use Rattle.platform.specs.Images.{Segment, are_placed}
use Rattle.platform.specs.Map.{is_in_ppb}
use Rattle.platform.specs.Memory.{is_in_memory}
use Rattle.platform.specs.System.{System, after_signal, on_interrupts, poke_of}
use Rattle.platform.specs.SystemInvariant.{table_of}
use Rattle.reference.specs.declared.place.Place.{Place}
use Rattle.reference.specs.declared.place.Place.TheVariants.{Reg, Special, Word}
use Rattle.reference.specs.Accesses.{carried_out}
use Rattle.reference.specs.Invariant.{Invariant}
use Rattle.reference.specs.Places.{altered, is_free, is_plain, is_there, is_wired, is_word_aligned, place}
use Rattle.reference.specs.Places.{register_taken, signalled, special_taken, store_of, taken}
use Rattle.reference.specs.Start.{start}
use Rattle.reference.specs.State.{Bus, State}
use Rattle.state_laws.specs.StateLaw.{IfGiven}
use Rattle.platform.specs.Wiring.{AreWired, is_driven, is_on_driven}

-- ---- a signal

pub drives_table : (ds : List DeviceWords) (n : ℕ) → is_driven (table_of ds) n ≡ drives ds n
drives_table [] n = refl
drives_table (d ∷ ds) n = let rest = drives_table ds n in rw rest refl

-- what the board has on an interrupt that no device drives
free : (s : System) (n : ℕ) → is_free s n ≡ true → is_driven (table_of s.devices) n ≡ false
free s n e =
    drives_table s.devices n
    ∙ not-true (drives s.devices n) (and_parts (nat_lt n s.nvic.interrupts) (not (drives s.devices n)) e).1

wired_free : (s : System) (what : Signal) → is_wired s what ≡ true → is_on_driven (table_of s.devices) what ≡ false
wired_free s (Rise interrupt) e = free s interrupt e
wired_free s (Fall interrupt) e = free s interrupt e
wired_free s (Pulse interrupt) e = free s interrupt e
wired_free s Nmi e = refl
wired_free s (Poke p) e = refl

interrupts_hold : (s : System) (what : Signal) → is_on_driven (table_of s.devices) what ≡ false → Holds s
    → Holds (on_interrupts s what)
interrupts_hold s what other h = record {
  wired = h.wired;
  inputs = signal_length s.time.high what ∙ h.inputs;
  lines =
      at_alike (value_at s.devices s.time.ticks) s.devices s.time (on_interrupts s what).time
      (λ n driven. signal_leaves (table_of s.devices) n driven s.time.high what other) h.lines;
}

signal_holds : (s : System) (what : Signal) → is_on_driven (table_of s.devices) what ≡ false → Holds s
    → Holds (after_signal s what)
unfolding after_signal
signal_holds s what other h = pokes_hold (on_interrupts s what) (poke_of what) (interrupts_hold s what other h)

pub signal_settled : (s : State) (what : Signal) → Invariant s → IsSettled s → IfGiven IsSettled (signalled s what)
unfolding signalled
signal_settled s what i h =
    cond_both (not (is_wired s.bus.system what)) _ _ (IfGiven IsSettled) (λ e. tt)
    (λ e. cond_both (is_some s.stop) _ _ (IfGiven IsSettled) (λ f. tt)
    (λ f. settled_of _ (signal_holds s.bus.system what (wired_free s.bus.system what (not-false _ e)) (held s i h))))

-- ---- a value

special_settled : (s : State) (special : Option SpecialRegister) (value : ℕ) → Holds s.bus.system
    → IfGiven IsSettled (special_taken s special value)
special_settled s None value h = tt
special_settled s (Some special) value h = settled_of _ (nvic_holds s.bus.system _ h)

register_settled : (s : State) (after : Bus) (p : Performed) → Holds after.system
    → IfGiven IsSettled (register_taken s after p)
register_settled s after (performed.Done access) h = settled_of _ h
register_settled s after (performed.Denied rule cause) h = tt
register_settled s after (performed.Stop why) h = tt

taken_settled : (s : State) (p : Place) → Holds s.bus.system → IfGiven IsSettled (taken s p)
taken_settled s (Reg number value) h = settled_of _ h
taken_settled s (Special number value) h = special_settled s (special_of number) value h
taken_settled s (Word address value) h =
    let o = carried_out s.registers.exception s.bus PrivatePeripheralBus (store_of address value) in
    cond_both (is_in_ppb address) _ _ (IfGiven IsSettled)
    (λ e. register_settled s _ o.performed
    (carried_holds s.registers.exception s.bus PrivatePeripheralBus (store_of address value) h))
    (λ e. cond_both (not (is_in_memory s.bus.memory address 4)) _ _ (IfGiven IsSettled)
    (λ f. settled_of _
    (signal_holds s.bus.system (Poke (record { address = address; value = value })) refl h))
    (λ f. settled_of _ h))

pub place_settled : (s : State) (p : Place) → Invariant s → IsSettled s → IfGiven IsSettled (place s p)
unfolding place
place_settled s p i h =
    cond_both (not (is_word_aligned p)) _ _ (IfGiven IsSettled) (λ e. tt)
    (λ e. cond_both (not (is_there s.bus p)) _ _ (IfGiven IsSettled) (λ f. tt)
    (λ f. cond_both (is_some s.stop || is_some s.entry || is_handler s.registers) _ _ (IfGiven IsSettled) (λ g. tt)
    (λ g. taken_settled s p (held s i h))))

pub alter_settled : (s : State) (p : Place) → Invariant s → IsSettled s → IfGiven IsSettled (altered s p)
unfolding altered
alter_settled s p i h =
    cond_both (not (is_word_aligned p)) _ _ (IfGiven IsSettled) (λ e. tt)
    (λ e. cond_both (not (is_there s.bus p)) _ _ (IfGiven IsSettled) (λ f. tt)
    (λ f. cond_both (is_some s.stop || (not (is_plain s.bus.memory p) && (is_some s.entry || is_handler s.registers)))
    _ _ (IfGiven IsSettled) (λ g. tt) (λ g. taken_settled s p (held s i h))))

-- ---- a start

pub start_settled : (board : Described) (image : List Segment) → AreWired board.devices board.script
    → IfGiven IsSettled (start board image)
unfolding start
start_settled board image wired =
    cond_both (are_placed (blank board.numbers) image) _ _ (IfGiven IsSettled)
    (λ e. settled_of _
    (settled_holds _ (rw (table_fresh board.devices) wired) (length-replicate MAX_INTERRUPTS false)))
    (λ e. tt)
