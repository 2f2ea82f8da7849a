-- The blocks of memory keep their places and sizes, and the devices stay, in a step and where something comes from
-- outside.
use Rattle.std.proofs.Common.{◌≡◌, ℕ, Bool, true, not, ◌&&◌, ◌||◌, is_some}
use Rattle.std.proofs.Common.{Option, Some, None, refl}
use Rattle.std.proofs.lemmas.Bool.{cond_both}
use Rattle.instruction_set.specs.declared.system.SpecialRegister.{SpecialRegister}
use Rattle.instruction_set.specs.Registers.{is_handler}
use Rattle.instruction_set.specs.RowOperands.{special_of}
use Rattle.platform.specs.declared.access.Performed.{Performed}
use Rattle.platform.specs.declared.access.Performed.TheVariants as performed
use Rattle.platform.specs.declared.access.Rule.TheVariants.{PrivatePeripheralBus}
use Rattle.platform.specs.declared.script.Signal.{Signal}
use Rattle.platform.specs.Map.{is_in_ppb}
use Rattle.platform.specs.Memory.{Agree, Memory, bytes_of, is_in_memory}
use Rattle.reference.specs.declared.place.Place.{Place}
use Rattle.reference.specs.declared.place.Place.TheVariants.{Reg, Special, Word}
use Rattle.reference.specs.Accesses.{carried_out}
use Rattle.reference.specs.Places.{altered, is_plain, is_there, is_wired, is_word_aligned, register_taken, signalled}
use Rattle.reference.specs.Places.{special_taken, store_of, taken}
use Rattle.reference.specs.State.{Bus, State}
use Rattle.reference.specs.Step.{step}
use Rattle.physical_memory.proofs.Blocks.{agree_back, agree_self, agree_then, agree_where, overwritten_agrees}
use Rattle.physical_memory.specs.Sizes.{HaveSameSizes}
use Rattle.step_laws.proofs.Bytes.{step_covered}
use Rattle.step_laws.proofs.Devices.{devices_refl, devices_sym, devices_trans, ppb_devices, signal_devices}
use Rattle.step_laws.proofs.Devices.{step_devices}
use Rattle.step_laws.specs.SizeLaw.{AreOfOneBoard, KeepsBoard}

pub sizes_refl : (m : Memory) → HaveSameSizes m m
sizes_refl m = agree_self _ m

pub sizes_sym : (m k : Memory) → HaveSameSizes m k → HaveSameSizes k m
sizes_sym m k h = agree_back _ m k h

pub sizes_trans : (m k l : Memory) → HaveSameSizes m k → HaveSameSizes k l → HaveSameSizes m l
sizes_trans m k l h i = agree_then _ m k l h i

-- memories that agree somewhere have the same sizes
pub sizes_of : (test : ℕ → Bool) (m k : Memory) → Agree test m k → HaveSameSizes m k
sizes_of test m k h = agree_where test _ (λ x e. absurd cc) m k h

-- ---- two buses of one board

pub board_refl : (b : Bus) → AreOfOneBoard b b
board_refl b = (sizes_refl b.memory, devices_refl b.system.devices)

pub board_sym : (b c : Bus) → AreOfOneBoard b c → AreOfOneBoard c b
board_sym b c h = (sizes_sym b.memory c.memory h.0, devices_sym b.system.devices c.system.devices h.1)

pub board_trans : (b c d : Bus) → AreOfOneBoard b c → AreOfOneBoard c d → AreOfOneBoard b d
board_trans b c d h i = (
  sizes_trans b.memory c.memory d.memory h.0 i.0,
  devices_trans b.system.devices c.system.devices d.system.devices h.1 i.1,
)

pub step_board : (s : State) → AreOfOneBoard s.bus (step s).state.bus
step_board s = (sizes_of _ s.bus.memory (step s).state.bus.memory (step_covered s), step_devices s)

-- ---- values that are put

special_board : (s : State) (special : Option SpecialRegister) (value : ℕ)
    → KeepsBoard s (special_taken s special value)
special_board s None value = tt
special_board s (Some special) value = board_refl s.bus

-- the bus leaves memory in a store to the Private Peripheral Bus
ppb_memory : (exception : ℕ) (b : Bus) (address value : ℕ) → is_in_ppb address ≡ true
    → (carried_out exception b PrivatePeripheralBus (store_of address value)).after.memory ≡ b.memory
unfolding carried_out
ppb_memory exception b address value e = rw e refl

ppb_board : (exception : ℕ) (b : Bus) (address value : ℕ) → is_in_ppb address ≡ true
    → AreOfOneBoard b (carried_out exception b PrivatePeripheralBus (store_of address value)).after
ppb_board exception b address value e = (
  rw (ppb_memory exception b address value e) (sizes_refl b.memory),
  ppb_devices exception b PrivatePeripheralBus (store_of address value),
)

register_board : (s : State) (after : Bus) (p : Performed) → AreOfOneBoard s.bus after
    → KeepsBoard s (register_taken s after p)
register_board s after (performed.Done access) h = h
register_board s after (performed.Denied rule cause) h = tt
register_board s after (performed.Stop why) h = tt

word_board : (s : State) (address value : ℕ) → KeepsBoard s (taken s (Word address value))
word_board s address value =
    cond_both (is_in_ppb address) _ _ (KeepsBoard s)
    (λ e. register_board s _ _ (ppb_board s.registers.exception s.bus address value e))
    (λ e. cond_both (not (is_in_memory s.bus.memory address 4)) _ _ (KeepsBoard s)
    (λ f. (sizes_refl s.bus.memory, signal_devices s.bus.system _))
    (λ f. (
      sizes_of _ s.bus.memory _ (overwritten_agrees s.bus.memory address (bytes_of 4 value)),
      devices_refl s.bus.system.devices,
    )))

taken_board : (s : State) (p : Place) → KeepsBoard s (taken s p)
taken_board s (Reg number value) = board_refl s.bus
taken_board s (Special number value) = special_board s (special_of number) value
taken_board s (Word address value) = word_board s address value

pub alter_board : (s : State) (p : Place) → KeepsBoard s (altered s p)
unfolding altered
alter_board s p =
    cond_both (not (is_word_aligned p)) _ _ (KeepsBoard s) (λ e. tt)
    (λ e. cond_both (not (is_there s.bus p)) _ _ (KeepsBoard s) (λ f. tt)
    (λ f. cond_both (is_some s.stop || (not (is_plain s.bus.memory p) && (is_some s.entry || is_handler s.registers))) _
    _ (KeepsBoard s) (λ g. tt) (λ g. taken_board s p)))

-- ---- signals

pub signal_board : (s : State) (what : Signal) → KeepsBoard s (signalled s what)
unfolding signalled
signal_board s what =
    cond_both (not (is_wired s.bus.system what)) _ _ (KeepsBoard s) (λ e. tt)
    (λ e. cond_both (is_some s.stop) _ _ (KeepsBoard s) (λ f. tt)
    (λ f. (sizes_refl s.bus.memory, signal_devices s.bus.system what)))
