-- What faults set and pend (ARM DDI 0403, "Fault behavior", the fault status registers, and "Priority escalation").
use Rattle.std.specs.Prelude.{ℕ, ◌+◌, true, List, [], ◌∷◌, ◌++◌}
use Rattle.instruction_set.specs.declared.instruction.InstructionLength.TheVariants.{Short}
use Rattle.platform.specs.declared.access.Access.{Access}
use Rattle.platform.specs.declared.access.Cause.{Cause}
use Rattle.platform.specs.declared.access.Cause.TheVariants.{Mpu, Bus}
use Rattle.platform.specs.declared.access.Kind.{Kind}
use Rattle.platform.specs.declared.access.Kind.TheVariants.{Fetch, Load, Store, Push, Pop, Vector, Probe}
use Rattle.platform.specs.declared.event.Event.{Event}
use Rattle.platform.specs.declared.event.EventKind.TheVariants.{FaultRecorded}
use Rattle.platform.specs.declared.exception.Escalation.{Escalation}
use Rattle.platform.specs.declared.exception.Escalation.TheVariants.{Itself, HardFault, Lockup}
use Rattle.platform.specs.declared.exception.TheConstants.{HARD_FAULT, MEM_MANAGE, BUS_FAULT, USAGE_FAULT, SV_CALL}
use Rattle.reference.specs.declared.failure.Failure.{Failure}
use Rattle.reference.specs.declared.failure.Failure.TheVariants as failure
use Rattle.reference.specs.declared.failure.UsageFault.{UsageFault}
use Rattle.reference.specs.declared.failure.UsageFault.TheVariants.{UndefinedInstruction, InvalidState, InvalidReturn}
use Rattle.reference.specs.declared.failure.UsageFault.TheVariants.{NoCoprocessor, Unaligned, DivideByZero}
use Rattle.platform.specs.declared.fault_status.FaultAddress.{FaultAddress}
use Rattle.platform.specs.declared.fault_status.FaultAddress.TheVariants.{NotKept, Mmfar, Bfar}
use Rattle.platform.specs.declared.fault_status.FaultEffect.{FaultEffect}
use Rattle.platform.specs.declared.fault_status.TheConstants.{IACCVIOL, DACCVIOL, MUNSTKERR, MSTKERR, MMARVALID}
use Rattle.platform.specs.declared.fault_status.TheConstants.{IBUSERR, PRECISERR, UNSTKERR, STKERR, BFARVALID}
use Rattle.platform.specs.declared.fault_status.TheConstants.{UNDEFINSTR, INVSTATE, INVPC, NOCP, UNALIGNED, DIVBYZERO}
use Rattle.platform.specs.declared.fault_status.TheConstants.{VECTTBL, FORCED}
use Rattle.platform.specs.declared.stop.Stop.TheVariants as stop
use Rattle.platform.specs.Priorities.{escalation, with_pending}
use Rattle.reference.specs.ProgramCounter.{advances}
use Rattle.reference.specs.State.{State, Stepped, with_registers, with_exceptions, with_system, stopped}
use Rattle.platform.specs.Status.{Status, with_fault_bits, with_mmfar, with_bfar}

-- ---- the table of faults

abbrev pub mem_manage : ℕ → FaultAddress → FaultEffect
mem_manage bits address = record { exception = MEM_MANAGE; cfsr = bits; hfsr = 0; address = address }

abbrev pub bus_fault : ℕ → FaultAddress → FaultEffect
bus_fault bits address = record { exception = BUS_FAULT; cfsr = bits; hfsr = 0; address = address }

abbrev pub usage_fault : ℕ → FaultEffect
usage_fault bit = record { exception = USAGE_FAULT; cfsr = bit; hfsr = 0; address = NotKept }

abbrev pub vector_fault : FaultEffect
vector_fault = record { exception = HARD_FAULT; cfsr = 0; hfsr = VECTTBL; address = NotKept }

-- the fault of a refused access at an address, by what it was for and what refused it. `Vector Mpu` and `Probe Bus`
-- never occur: the rule `vec` grants every read of a vector, and a probe doesn't reach the bus. A refused fetch leaves
-- MMARVALID and MMFAR as they were, and a bus error of a load or a store is always precise: PRECISERR (profile)
abbrev pub access_fault : Kind → Cause → ℕ → FaultEffect
access_fault Fetch Mpu address = mem_manage IACCVIOL NotKept
access_fault Load Mpu address = mem_manage (DACCVIOL + MMARVALID) (Mmfar address)
access_fault Store Mpu address = mem_manage (DACCVIOL + MMARVALID) (Mmfar address)
access_fault Push Mpu address = mem_manage MSTKERR NotKept
access_fault Pop Mpu address = mem_manage MUNSTKERR NotKept
access_fault Vector Mpu address = vector_fault
access_fault Probe Mpu address = mem_manage (DACCVIOL + MMARVALID) (Mmfar address)
access_fault Fetch Bus address = bus_fault IBUSERR NotKept
access_fault Load Bus address = bus_fault (PRECISERR + BFARVALID) (Bfar address)
access_fault Store Bus address = bus_fault (PRECISERR + BFARVALID) (Bfar address)
access_fault Push Bus address = bus_fault STKERR NotKept
access_fault Pop Bus address = bus_fault UNSTKERR NotKept
access_fault Vector Bus address = vector_fault
access_fault Probe Bus address = bus_fault (PRECISERR + BFARVALID) (Bfar address)

abbrev pub fault_of : Access → Cause → FaultEffect
fault_of a cause = access_fault a.kind cause a.address

abbrev pub usage_fault_of : UsageFault → FaultEffect
usage_fault_of UndefinedInstruction = usage_fault UNDEFINSTR
usage_fault_of InvalidState = usage_fault INVSTATE
usage_fault_of InvalidReturn = usage_fault INVPC
usage_fault_of NoCoprocessor = usage_fault NOCP
usage_fault_of Unaligned = usage_fault UNALIGNED
usage_fault_of DivideByZero = usage_fault DIVBYZERO

-- ---- a fault is recorded

abbrev pub with_fault_address : Status → FaultAddress → Status
with_fault_address st NotKept = st
with_fault_address st (Mmfar address) = with_mmfar st address
with_fault_address st (Bfar address) = with_bfar st address

abbrev pub with_status : State → Status → State
with_status s st = with_system s (record s.bus.system { status = st })

-- the bits of a fault are set in the status registers, and its address is kept there
abbrev pub recorded : State → FaultEffect → State
recorded s f = with_status s (with_fault_address (with_fault_bits s.bus.system.status f.cfsr f.hfsr) f.address)

-- the `!` line of a fault: x is the exception that became pending, or 0 for lockup
abbrev pub fault_line : State → ℕ → Event
fault_line s x = record {
  tick = s.bus.system.time.ticks;
  what = FaultRecorded (record { cfsr = s.bus.system.status.cfsr; hfsr = s.bus.system.status.hfsr; exception = x });
}

-- ---- an exception is raised

abbrev pub pended : State → ℕ → State
pended s x = with_exceptions s (with_pending s.bus.system.nvic x true)

-- exception x becomes pending by a fault
abbrev pub pended_by_fault : State → List Event → ℕ → Stepped
pended_by_fault s events x = record { state = pended s x; events = events ++ fault_line s x ∷ [] }

-- HardFault becomes pending in place of a fault or an SVC that can't be taken
abbrev pub escalated_to_hard_fault : State → List Event → Stepped
escalated_to_hard_fault s events = pended_by_fault (with_status s (with_fault_bits s.bus.system.status 0 FORCED)) events
    HARD_FAULT

-- no fault can be taken
abbrev pub locked_up : State → List Event → Stepped
locked_up s events = stopped s (events ++ fault_line s 0 ∷ []) stop.Lockup

-- a fault of exception x: x becomes pending, or HardFault in its place, or the machine locks up
abbrev pub escalated : State → List Event → ℕ → Escalation → Stepped
escalated s events x Itself = pended_by_fault s events x
escalated s events x HardFault = escalated_to_hard_fault s events
escalated s events x Lockup = locked_up s events

-- a fault is recorded; its exception, HardFault or lockup follows, judged at the current execution priority
unfoldable pub faulted : State → List Event → FaultEffect → Stepped
faulted s events f = escalated (recorded s f) events f.exception (escalation s.bus.system.nvic f.exception)

-- an access was refused, the instruction faults, or it stops the machine
abbrev pub failed : State → List Event → Failure → Stepped
failed s events (failure.Refused access cause) = faulted s events (fault_of access cause)
failed s events (failure.Usage fault) = faulted s events (usage_fault_of fault)
failed s events (failure.Stop why) = stopped s events why

-- ---- CallSupervisor()

-- the PC moves past the SVC where SVCall becomes pending; otherwise (HardFault, or lockup) the PC stays at the SVC
-- (profile)
abbrev pub supervisor_called_by : State → List Event → Escalation → Stepped
supervisor_called_by s events Itself =
    record { state = pended (with_registers s (advances Short s.registers).registers) SV_CALL; events = events }
supervisor_called_by s events HardFault = escalated_to_hard_fault s events
supervisor_called_by s events Lockup = locked_up s events

unfoldable pub supervisor_called : State → List Event → Stepped
supervisor_called s events = supervisor_called_by s events (escalation s.bus.system.nvic SV_CALL)
