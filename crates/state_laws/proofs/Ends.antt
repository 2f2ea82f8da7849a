-- A start gives the invariant, and a value that was placed keeps it.
--
-- - `sound` and `whole` turn `SystemInvariant`, of which laws speak, into `IsWhole` for the board's numbers, which
--   the walks prove, and back.
-- - `step_keeps` is the walk of a step (`Steps`) between the two.
-- - `place` refuses or writes one thing: `placed` splits on its tests, and each write is one that a walk has.
-- - The last three lemmas are the same for parts of a step: a tick, an access, an instruction.
use Rattle.std.proofs.Common.{◌≡◌, ◌⊎◌, inl, inr, ℕ, ◌≤◌, min, Bool, true, false, not, ◌||◌, ◌==◌, is_some, List}
use Rattle.std.proofs.Common.{Option, Some, None, Result, Ok, Err, refl, sym, subst, arith}
use Rattle.std.proofs.lemmas.Bool.{and_parts, cond_both, both_ways, not-true}
use Rattle.devices.specs.Devices.{fresh}
use Rattle.nvic.proofs.Tables.{table_fresh}
use Rattle.platform.specs.declared.error.PlaceError.TheVariants.{Stopped}
use Rattle.platform.specs.declared.script.Signal.{Signal}
use Rattle.platform.specs.declared.script.Signal.TheVariants.{Poke}
use Rattle.reference.specs.State.{with_system}
use Rattle.state_laws.proofs.Candidates.{Calls, pended_calls}
use Rattle.step_laws.proofs.Settling.{signal_nvic}
use Rattle.reference.specs.Places.{altered, is_plain, is_wired, signalled}
use Rattle.std.proofs.Common.{◌&&◌, ◌∙◌, if◌then◌else◌}
use Rattle.std.proofs.lemmas.Bool.Decides.{nat_tests}
use Rattle.instruction_set.specs.declared.instruction.CodedInstruction.{CodedInstruction}
use Rattle.instruction_set.specs.declared.system.SpecialRegister.{SpecialRegister}
use Rattle.instruction_set.specs.Registers.{Registers, is_handler}
use Rattle.instruction_set.specs.RowOperands.{special_of}
use Rattle.mpu.proofs.Writes.{sound_at_reset}
use Rattle.nvic.proofs.Systems.{placed_kept, settled_kept, signal_kept}
use Rattle.platform.specs.declared.access.Performed.{Performed}
use Rattle.platform.specs.declared.access.Performed.TheVariants as performed
use Rattle.platform.specs.declared.access.Request.{Request}
use Rattle.platform.specs.declared.access.Rule.TheVariants.{PrivatePeripheralBus}
use Rattle.platform.specs.declared.exception.TheConstants.{MAX_INTERRUPTS}
use Rattle.platform.specs.declared.error.PlaceError.{PlaceError}
use Rattle.reference.specs.declared.place.Place.{Place}
use Rattle.reference.specs.declared.place.Place.TheVariants.{Reg, Special, Word}
use Rattle.reference.specs.Accesses.{carried_out, perform_all}
use Rattle.platform.specs.Boards.{Described, is_interrupt_count, is_region_count, IsScriptFrom}
use Rattle.platform.specs.Images.{Segment}
use Rattle.reference.specs.Invariant.{HasRegisters, Invariant}
use Rattle.platform.specs.SystemInvariant.{HaveLinesOfBoard, IsBoard, SystemInvariant, table_of}
use Rattle.platform.specs.Map.{is_in_ppb}
use Rattle.platform.specs.Memory.{bytes_of, is_in_memory}
use Rattle.reference.specs.Places.{is_word_aligned, is_there, special_taken, register_taken, store_of, taken, place}
use Rattle.platform.specs.Images.{are_placed}
use Rattle.reference.specs.Start.{start}
use Rattle.platform.specs.Boards.{blank}
use Rattle.reference.specs.State.{Bus, State, ticked}
use Rattle.reference.specs.Step.{step}
use Rattle.platform.specs.System.{System, after_signal, reset_system}
use Rattle.state_laws.specs.StateLaw.{IfGiven, TickKeeps, AccessKeeps, InstructionKeeps}
use Rattle.state_laws.proofs.Accesses.{IsWholeBus, carried_whole, perform_whole, served_whole}
use Rattle.state_laws.proofs.Effects.{register_kept, result_kept}
use Rattle.state_laws.proofs.Entries.{none}
use Rattle.physical_memory.proofs.Blocks.{overwritten_laid_out}
use Rattle.state_laws.proofs.Memories.{start_laid_out}
use Rattle.state_laws.proofs.Registers.{writes_kept, special_kept, reset_has}
use Rattle.state_laws.proofs.Sets.{top_bits_of_board, board_of, board_at_reset}
use Rattle.state_laws.proofs.Steps.{HasWhole, step_good}
use Rattle.state_laws.proofs.Systems.{IsWhole, tick_whole, parts_kept}
use Rattle.state_laws.proofs.Ticks.{timely_at_start}

-- ---- what is whole has the invariant, and the other way round

sound : (interrupts bits : ℕ) (s : System) → IsWhole interrupts bits s → SystemInvariant s
sound interrupts bits s h = record {
  clock = h.time.clock;
  timer = h.time.timer;
  priorities = top_bits_of_board interrupts bits s.nvic h.nvic;
  sets = h.nvic.board.sets;
  script = rw h.nvic.same_interrupts h.time.ahead;
  regions = h.mpu;
  devices = rw h.nvic.same_interrupts h.devices;
}

whole : (s : System) → SystemInvariant s → IsWhole s.nvic.interrupts s.nvic.priority_bits s
whole s h = record {
  nvic = board_of s.nvic h.priorities h.sets;
  time = record { clock = h.clock; timer = h.timer; ahead = h.script };
  mpu = h.regions;
  devices = h.devices;
}

whole_state : (s : State) → Invariant s → HasWhole s.bus.system.nvic.interrupts s.bus.system.nvic.priority_bits s
whole_state s h = (whole s.bus.system h.system, h.memory)

-- ---- a step

pub step_keeps : (s : State) → Invariant s → Invariant (step s).state
step_keeps s h =
    let interrupts = s.bus.system.nvic.interrupts in
    let bits = s.bus.system.nvic.priority_bits in
    let after = step_good interrupts bits s (record {
      good = record { registers = h.registers; bus = whole_state s h };
      called = h.entry;
    }) in
    record {
      registers = after.good.registers;
      entry = after.called;
      memory = after.good.bus.1;
      system = sound interrupts bits _ after.good.bus.0;
    }

-- ---- a value that is placed

-- what holds of the registers, of memory and of the System Control Space
record IsGood (interrupts bits : ℕ) (s : State) : Type 0 where
  registers : HasRegisters s.registers
  entry : s.entry ≡ None
  system : HasWhole interrupts bits s

abbrev IsPlaced : ℕ → ℕ → Result State PlaceError → Type 0
IsPlaced interrupts bits = IfGiven (IsGood interrupts bits)

special_placed : (interrupts bits : ℕ) (s : State) (special : Option SpecialRegister) (value : ℕ)
    → IsGood interrupts bits s →
    IsPlaced interrupts bits (special_taken s special value)
special_placed interrupts bits s None value h = tt
special_placed interrupts bits s (Some special) value h = record {
  registers = special_kept s.registers special value h.registers;
  entry = h.entry;
  system = (placed_kept (parts_kept interrupts bits) s.bus.system special value h.system.0, h.system.1);
}

register_placed : (interrupts bits : ℕ) (s : State) (after : Bus) (p : Performed) → HasRegisters s.registers →
    s.entry ≡ None → IsWholeBus interrupts bits after → IsPlaced interrupts bits (register_taken s after p)
register_placed interrupts bits s after (performed.Done access) r out h =
    record { registers = r; entry = out; system = h }
register_placed interrupts bits s after (performed.Denied rule cause) r out h = tt
register_placed interrupts bits s after (performed.Stop why) r out h = tt

-- the poke of a word that is placed
abbrev poke_at : ℕ → ℕ → Signal
poke_at address value = Poke (record { address = address; value = value })

taken_placed : (interrupts bits : ℕ) (s : State) (p : Place) → IsGood interrupts bits s
    → IsPlaced interrupts bits (taken s p)
taken_placed interrupts bits s (Reg number value) h =
    record {
      registers = register_kept writes_kept s.registers number value h.registers;
      entry = h.entry;
      system = h.system;
    }
taken_placed interrupts bits s (Special number value) h = special_placed interrupts bits s (special_of number) value h
taken_placed interrupts bits s (Word address value) h =
    let o = carried_out s.registers.exception s.bus PrivatePeripheralBus (store_of address value) in
    cond_both (is_in_ppb address) _ _ (IsPlaced interrupts bits)
    (λ e. register_placed interrupts bits s o.after o.performed h.registers h.entry
    (carried_whole interrupts bits s.registers.exception s.bus PrivatePeripheralBus (store_of address value) h.system))
    (λ e. cond_both (not (is_in_memory s.bus.memory address 4)) _ _ (IsPlaced interrupts bits)
    (λ f. record {
      registers = h.registers;
      entry = h.entry;
      system = (signal_kept (parts_kept interrupts bits) s.bus.system (poke_at address value) h.system.0, h.system.1);
    })
    (λ f. record {
      registers = h.registers;
      entry = h.entry;
      system = (h.system.0, overwritten_laid_out s.bus.memory address (bytes_of 4 value) h.system.1);
    }))

no_entry : (stop : Bool) (entry : Option ℕ) (handler : Bool) → (stop || is_some entry || handler) ≡ false → entry ≡ None
no_entry stop None handler e = refl
no_entry true (Some x) handler e = absurd (let w : ⊥ = cc in w)
no_entry false (Some x) handler e = absurd (let w : ⊥ = cc in w)

placed : (interrupts bits : ℕ) (s : State) (p : Place) → HasRegisters s.registers → HasWhole interrupts bits s →
    IsPlaced interrupts bits (place s p)
unfolding place
placed interrupts bits s p r h =
    cond_both (not (is_word_aligned p)) _ _ (IsPlaced interrupts bits) (λ e. tt)
    (λ e. cond_both (not (is_there s.bus p)) _ _ (IsPlaced interrupts bits) (λ f. tt)
    (λ f. cond_both (is_some s.stop || is_some s.entry || is_handler s.registers) _ _ (IsPlaced interrupts bits)
    (λ g. tt)
    (λ g. taken_placed interrupts bits s p (record {
      registers = r;
      entry = no_entry (is_some s.stop) s.entry (is_handler s.registers) g;
      system = h;
    }))))

pub place_keeps : (s : State) (p : Place) → Invariant s → IfGiven Invariant (place s p)
place_keeps s p h =
    lead (place s p)
    (placed s.bus.system.nvic.interrupts s.bus.system.nvic.priority_bits s p h.registers (whole_state s h))
  where
    lead : (r : Result State PlaceError) → IsPlaced s.bus.system.nvic.interrupts s.bus.system.nvic.priority_bits r →
        IfGiven Invariant r
    lead (Ok after) w = record {
      registers = w.registers;
      entry = λ stop entry. none _ _ w.entry entry;
      memory = w.system.1;
      system = sound _ _ after.bus.system w.system.0;
    }
    lead (Err why) w = tt

-- ---- a start

regions_known : (count : ℕ) → is_region_count count ≡ true → (count ≡ 8) ⊎ (count ≡ 16)
regions_known count e = split (count == 8) refl
  where
    split : (b : Bool) → (count == 8) ≡ b → (count ≡ 8) ⊎ (count ≡ 16)
    split true f = inl (grind (arith, nat_tests, f))
    split false f = inr (grind (arith, nat_tests, e, f))

all_interrupts : (interrupts : ℕ) → is_interrupt_count interrupts ≡ true → min interrupts MAX_INTERRUPTS ≡ interrupts
all_interrupts interrupts e = let few : interrupts ≤ MAX_INTERRUPTS = grind (arith, nat_tests, e) in omega arith

pub start_gives : (board : Described) (image : List Segment) → IsBoard board → IfGiven Invariant (start board image)
unfolding start
start_gives board image h =
    cond_both (are_placed (blank board.numbers) image) _ _ (IfGiven Invariant)
    (λ e. record {
      registers = reset_has _ _;
      entry = λ stop entry. absurd (let w : ⊥ = cc in w);
      memory = start_laid_out board.numbers image h.flash h.ram h.second_ram;
      system =
          sound (min board.numbers.interrupts MAX_INTERRUPTS) board.numbers.priority_bits
          (reset_system board.numbers.flash_base board.numbers.interrupts board.numbers.priority_bits
          board.numbers.regions
          board.script board.devices)
          (settled_kept (parts_kept (min board.numbers.interrupts MAX_INTERRUPTS) board.numbers.priority_bits) _
          (record {
            nvic = board_at_reset board.numbers.interrupts board.numbers.priority_bits;
            time =
                timely_at_start (min board.numbers.interrupts MAX_INTERRUPTS) board.script
                (subst (λ interrupts. IsScriptFrom interrupts 1 board.script)
                (sym (all_interrupts board.numbers.interrupts h.interrupts))
                h.script);
            mpu = sound_at_reset board.numbers.regions (regions_known board.numbers.regions h.regions);
            devices =
                subst (λ interrupts. HaveLinesOfBoard interrupts (table_of (fresh board.devices)))
                (sym (all_interrupts board.numbers.interrupts h.interrupts))
                (rw (table_fresh board.devices) h.devices);
          }));
    })
    (λ e. tt)

-- ---- inside a step, outside the entry phase

inside : (s : State) (b : Bus) (r : Registers) → s.entry ≡ None → HasRegisters r →
    IsWholeBus s.bus.system.nvic.interrupts s.bus.system.nvic.priority_bits b →
    Invariant (record s { registers = r; bus = b })
inside s b r out registers h = record {
  registers = registers;
  entry = λ stop entry. none _ _ out entry;
  memory = h.1;
  system = sound s.bus.system.nvic.interrupts s.bus.system.nvic.priority_bits b.system h.0;
}

pub tick_keeps : (s : State) → TickKeeps s
tick_keeps s early out h =
    inside s (ticked s).bus s.registers out h.registers
    (tick_whole _ _ s.bus.system early (whole s.bus.system h.system), h.memory)

pub access_keeps : (s : State) (q : Request) → AccessKeeps s q
access_keeps s q out h =
    inside s _ s.registers out h.registers (perform_whole _ _ s.registers.exception s.bus q (whole_state s h))

pub instruction_keeps : (s : State) (i : CodedInstruction) (requests : List Request) → InstructionKeeps s i requests
instruction_keeps s i requests out h =
    let all = perform_all s.registers.exception s.bus.system.time.ticks s.bus requests in
    inside s _ _ out (result_kept writes_kept i s.registers all.values h.registers).kept
    (served_whole _ _ s.registers.exception s.bus.system.time.ticks s.bus requests (whole_state s h))

-- ---- what comes from outside

-- a signal only makes exceptions pending, so an entry phase keeps its candidate
signal_taken : (s : State) (what : Signal) → Invariant s → Invariant (with_system s (after_signal s.bus.system what))
signal_taken s what h = record {
  registers = h.registers;
  entry = λ stop entry. signal_nvic Calls pended_calls s.bus.system what (h.entry stop entry);
  memory = h.memory;
  system =
      sound s.bus.system.nvic.interrupts s.bus.system.nvic.priority_bits (after_signal s.bus.system what)
      (signal_kept (parts_kept s.bus.system.nvic.interrupts s.bus.system.nvic.priority_bits) s.bus.system what
      (whole s.bus.system h.system));
}

pub signal_keeps : (s : State) (what : Signal) → Invariant s → IfGiven Invariant (signalled s what)
unfolding signalled
signal_keeps s what h =
    cond_both (not (is_wired s.bus.system what)) _ _ (IfGiven Invariant) (λ e. tt)
    (λ e. cond_both (is_some s.stop) _ _ (IfGiven Invariant) (λ f. tt) (λ f. signal_taken s what h))

given : (interrupts bits : ℕ) (r : Result State PlaceError) → IsPlaced interrupts bits r → IfGiven Invariant r
given interrupts bits (Ok after) w = record {
  registers = w.registers;
  entry = λ stop entry. none _ _ w.entry entry;
  memory = w.system.1;
  system = sound interrupts bits after.bus.system w.system.0;
}
given interrupts bits (Err why) w = tt

outside_entry : (stop : Bool) (entry : Option ℕ) (handler : Bool) → (stop || (is_some entry || handler)) ≡ false
    → entry ≡ None
outside_entry stop None handler e = refl
outside_entry true (Some x) handler e = absurd (let w : ⊥ = cc in w)
outside_entry false (Some x) handler e = absurd (let w : ⊥ = cc in w)

-- a core register or a word of memory leaves the exceptions as they are
plain_taken : (s : State) (p : Place) → is_plain s.bus.memory p ≡ true → Invariant s → IfGiven Invariant (taken s p)
plain_taken s (Reg number value) e h = record {
  registers = register_kept writes_kept s.registers number value h.registers;
  entry = h.entry;
  memory = h.memory;
  system = h.system;
}
plain_taken s (Special number value) e h = absurd (let w : ⊥ = cc in w)
plain_taken s (Word address value) e h =
    cond_both (is_in_ppb address) _ _ (IfGiven Invariant)
    (λ f. absurd (both_ways (is_in_ppb address) (not-true (is_in_ppb address) parts.1) f))
    (λ f. cond_both (not (is_in_memory s.bus.memory address 4)) _ _ (IfGiven Invariant)
    (λ g. absurd (both_ways (is_in_memory s.bus.memory address 4) (not-true (is_in_memory s.bus.memory address 4) g)
    parts.0))
    (λ g. record {
      registers = h.registers;
      entry = h.entry;
      memory = overwritten_laid_out s.bus.memory address (bytes_of 4 value) h.memory;
      system = h.system;
    }))
  where
    parts : (is_in_memory s.bus.memory address 4 ≡ true) × (not (is_in_ppb address) ≡ true)
    parts = and_parts (is_in_memory s.bus.memory address 4) (not (is_in_ppb address)) e

pub alter_keeps : (s : State) (p : Place) → Invariant s → IfGiven Invariant (altered s p)
unfolding altered
alter_keeps s p h =
    cond_both (not (is_word_aligned p)) _ _ (IfGiven Invariant) (λ e. tt)
    (λ e. cond_both (not (is_there s.bus p)) _ _ (IfGiven Invariant) (λ f. tt)
    (λ f. split (is_plain s.bus.memory p) refl))
  where
    split : (b : Bool) → is_plain s.bus.memory p ≡ b
        → IfGiven Invariant
        (if is_some s.stop || (not b && (is_some s.entry || is_handler s.registers)) then Err Stopped
        else taken s p)
    split true q =
        cond_both (is_some s.stop || false) _ _ (IfGiven Invariant) (λ g. tt) (λ g. plain_taken s p q h)
    split false q =
        cond_both (is_some s.stop || (is_some s.entry || is_handler s.registers)) _ _ (IfGiven Invariant) (λ g. tt)
        (λ g. given s.bus.system.nvic.interrupts s.bus.system.nvic.priority_bits (taken s p)
        (taken_placed s.bus.system.nvic.interrupts s.bus.system.nvic.priority_bits s p (record {
          registers = h.registers;
          entry = outside_entry (is_some s.stop) s.entry (is_handler s.registers) g;
          system = whole_state s h;
        })))
