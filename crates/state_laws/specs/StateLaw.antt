-- What the laws of the state say beside the invariant.
use Rattle.std.specs.Prelude.{◌≡◌, ◌<◌, List, None, Result, Ok, Err}
use Rattle.instruction_set.specs.declared.instruction.CodedInstruction.{CodedInstruction}
use Rattle.platform.specs.declared.access.Request.{Request}
use Rattle.reference.specs.Accesses.{perform, perform_all}
use Rattle.reference.specs.Invariant.{Invariant}
use Rattle.reference.specs.Operations.{result_of}
use Rattle.reference.specs.State.{State, ticked, with_bus, with_registers}
use Rattle.platform.specs.Time.{last_tick}

-- what holds of the resulting state, where there is one
abbrev pub IfGiven : {E : Type 0} → (State → Type 0) → Result State E → Type 0
IfGiven P (Ok s) = P s
IfGiven P (Err why) = Unit {0}

-- ---- inside a step, outside the entry phase

-- a tick before the end of the clock keeps it
abbrev pub TickKeeps : State → Type 0
TickKeeps s = s.bus.system.time.ticks < last_tick → s.entry ≡ None → Invariant s → Invariant (ticked s)

-- one access keeps it
abbrev pub AccessKeeps : State → Request → Type 0
AccessKeeps s q = s.entry ≡ None → Invariant s → Invariant (with_bus s (perform s.registers.exception s.bus q).after)

-- the accesses of an instruction, and the registers after it, keep it
abbrev pub InstructionKeeps : State → CodedInstruction → List Request → Type 0
InstructionKeeps s i requests =
    let all = perform_all s.registers.exception s.bus.system.time.ticks s.bus requests in
    s.entry ≡ None → Invariant s →
    Invariant (with_registers (with_bus s all.bus) (result_of i s.registers all.values).registers)
