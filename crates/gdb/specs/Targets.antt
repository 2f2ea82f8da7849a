-- The registers of the target description: their values, and where a value is written (profile).
use Rattle.std.specs.Prelude.{ℕ, nat_lt, ◌==◌, if◌then◌else◌, List, [], ◌∷◌, slice_index}
use Rattle.std.specs.Prelude.{Option, Some, None, Result, Err}
use Rattle.instruction_set.specs.Registers.{Registers, control, sp, mask_if, xpsr}
use Rattle.platform.specs.declared.error.PlaceError.{PlaceError}
use Rattle.platform.specs.declared.error.PlaceError.TheVariants.{NoSuchPlace}
use Rattle.platform.specs.declared.exception.Masks.{Masks}
use Rattle.reference.specs.declared.place.Place.{Place}
use Rattle.reference.specs.declared.place.Place.TheVariants.{Reg, Special}
use Rattle.reference.specs.Places.{altered}
use Rattle.reference.specs.State.{State}

-- R0 to R12, SP, LR, PC, xPSR, MSP, PSP, PRIMASK, BASEPRI, FAULTMASK and CONTROL
abbrev pub values_in : Registers → Masks → List ℕ
values_in r m =
    slice_index r.general 0 ∷ slice_index r.general 1 ∷ slice_index r.general 2 ∷ slice_index r.general 3
    ∷ slice_index r.general 4 ∷ slice_index r.general 5 ∷ slice_index r.general 6 ∷ slice_index r.general 7
    ∷ slice_index r.general 8 ∷ slice_index r.general 9 ∷ slice_index r.general 10 ∷ slice_index r.general 11
    ∷ slice_index r.general 12 ∷ sp r ∷ r.lr ∷ r.pc ∷ xpsr r ∷ r.msp ∷ r.psp
    ∷ mask_if m.primask 1 ∷ m.basepri ∷ mask_if m.faultmask 1 ∷ control r ∷ []

abbrev pub target_values : State → List ℕ
target_values s = values_in s.registers s.bus.system.nvic.masks

-- a register by its number with a value: the special registers as MSR numbers them, xPSR by its flags alone
abbrev pub place_of : ℕ → ℕ → Option Place
place_of number value =
    if nat_lt number 16 then Some (Reg number value)
    else if number == 16 then Some (Special 3 value)
    else if number == 17 then Some (Special 8 value)
    else if number == 18 then Some (Special 9 value)
    else if number == 19 then Some (Special 16 value)
    else if number == 20 then Some (Special 17 value)
    else if number == 21 then Some (Special 19 value)
    else if number == 22 then Some (Special 20 value)
    else None

abbrev pub altered_if : State → Option Place → Result State PlaceError
altered_if s None = Err NoSuchPlace
altered_if s (Some place) = altered s place

-- the state with a value in a register, or the refusal
abbrev pub register_written : State → ℕ → ℕ → Result State PlaceError
register_written s number value = altered_if s (place_of number value)
