-- Slots for states of the machine, with room that is taken before a session begins (profile).
use Rattle.std.specs.Prelude.{ℕ, Bool, true, if◌then◌else◌, List, All, map, slice_set, Option, Some}
use Rattle.std.specs.Prelude.{None}
use Rattle.debugger_commands.specs.declared.changes.Change.{Change}
use Rattle.debugger_commands.specs.declared.changes.Change.TheVariants as change
use Rattle.reference.specs.State.{Bus, State}
use Rattle.step_laws.specs.SizeLaw.{AreOfOneBoard}

-- a slot: the state that fills its room, and whether that was saved
pub record Slot : Type 0 where
  pub state : State
  pub is_saved : Bool

abbrev pub saved_there : Slot → Option State
saved_there slot = if slot.is_saved then Some slot.state else None

-- what was saved in each slot
abbrev pub saved_in : List Slot → List (Option State)
saved_in slots = map (λ slot. saved_there slot) slots

-- the slots after a state was saved in one
abbrev pub with_saved : List Slot → ℕ → State → List Slot
with_saved slots slot s = slice_set slots slot (record { state = s; is_saved = true })

-- the slots after a change
abbrev pub slots_by : State → List Slot → Change → List Slot
slots_by s slots (change.Place value) = slots
slots_by s slots (change.Signal how k) = slots
slots_by s slots change.Nmi = slots
slots_by s slots (change.Save slot) = with_saved slots slot s
slots_by s slots (change.Back slot) = slots

abbrev pub slots_after : State → List Slot → Option Change → List Slot
slots_after s slots None = slots
slots_after s slots (Some what) = slots_by s slots what

-- each slot has room for the state of a machine of this board
abbrev pub HaveRoom : List Slot → Bus → Type 0
HaveRoom slots b = All (λ slot. AreOfOneBoard slot.state.bus b) slots
