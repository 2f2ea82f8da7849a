-- Exception return (ARM DDI 0403, ExceptionReturn(), DeActivate() and PopStack()). Its named stops are the profile's.
-- So is this: a fault during a return starts an exception entry in the same step, without a push. Read this file from
-- its last function upward.
use Rattle.std.specs.Prelude.{ℕ, Bool, true, false, not, ◌&&◌, ◌||◌, ◌==◌, if◌then◌else◌, List, [], ◌∷◌, ◌++◌, Option}
use Rattle.std.specs.Prelude.{Some, None, replicate}
use Rattle.instruction_set.specs.declared.unpredictable.UnpredictableCase.TheVariants as unpredictable
use Rattle.instruction_set.specs.Frames.{returns_to_handler, returns_to_thread, has_reserved_ones, frame_pointer}
use Rattle.instruction_set.specs.Frames.{popped_pc, popped_exception, popped}
use Rattle.instruction_set.specs.Registers.{Registers}
use Rattle.instruction_set.specs.Words.{is_bit}
use Rattle.platform.specs.declared.access.Kind.TheVariants.{Pop}
use Rattle.platform.specs.declared.access.Request.{Request}
use Rattle.platform.specs.declared.event.Event.{Event}
use Rattle.platform.specs.declared.event.EventKind.TheVariants.{ReturnBegan}
use Rattle.reference.specs.declared.failure.Failure.{Failure}
use Rattle.reference.specs.declared.failure.Failure.TheVariants.{Usage}
use Rattle.reference.specs.declared.failure.UsageFault.TheVariants.{InvalidReturn}
use Rattle.platform.specs.declared.stop.Stop.TheVariants.{Unpredictable}
use Rattle.reference.specs.Accesses.{ListResult, perform_all}
use Rattle.reference.specs.ExceptionEntry.{words_from}
use Rattle.reference.specs.Faults.{failed}
use Rattle.platform.specs.Priorities.{candidate, is_in, is_other_active}
use Rattle.reference.specs.State.{State, Stepped, with_bus, with_registers, with_system, stopped}
use Rattle.platform.specs.Status.{nonbasethrdena}
use Rattle.platform.specs.System.{exception_ended}

-- an entry begins with the EXC_RETURN of the return
abbrev pub with_entry : State → ℕ → State
with_entry s e = record s { entry = Some e }

-- ---- PopStack()

-- EXC_RETURN's mode agrees with the popped IPSR: Handler exactly where it isn't 0
abbrev pub fits_mode : ℕ → List ℕ → Bool
fits_mode e frame =
    if returns_to_handler e then not (popped_exception frame == 0) else popped_exception frame == 0

-- the frame was read: it's checked, and the registers come from it. INVPC comes before the stop at an odd return
-- address; at either, SP and the frame stay (profile)
unfoldable pub unstacked : State → List Event → ℕ → List ℕ → Stepped
unstacked s events e frame =
    if not (fits_mode e frame) then failed (with_entry s e) events (Usage InvalidReturn)
    else if is_bit (popped_pc frame) 0 then stopped s events (Unpredictable unpredictable.PoppedPc)
    else record { state = with_registers s (popped s.registers e frame); events = events }

-- the frame was read, or a pop was refused
abbrev pub frame_read : State → List Event → ℕ → ListResult → Option Failure → Stepped
frame_read s events e all None = unstacked (with_bus s all.bus) (events ++ all.events) e all.values
frame_read s events e all (Some why) = failed (with_entry (with_bus s all.bus) e) (events ++ all.events) why

-- Handler mode is privileged, and Thread mode as CONTROL.nPRIV says
abbrev pub returns_privileged : Registers → ℕ → Bool
returns_privileged r e = returns_to_handler e || not r.unprivileged

-- the words of the frame, popped with the privilege of the code that is returned to
unfoldable pub pops : Registers → ℕ → List Request
pops r e = words_from Pop (returns_privileged r e) (frame_pointer r e) (replicate 8 0)

-- a refused pop is a fault at the execution priority after DeActivate()
unfoldable pub pop_stack : State → List Event → ℕ → Stepped
pop_stack s events e =
    let all = perform_all s.registers.exception s.bus.system.time.ticks s.bus (pops s.registers e) in
    frame_read s events e all all.failure

-- ---- ExceptionReturn()

-- tail-chaining: where there is an exception to take, nothing is popped or pushed, and its entry begins
abbrev pub tail_chained : State → List Event → ℕ → Option ℕ → Stepped
tail_chained s events e (Some x) = record { state = with_entry s e; events = events }
tail_chained s events e None = pop_stack s events e

-- a return that passed the check goes on; any other is UsageFault INVPC, at the execution priority after DeActivate()
abbrev pub returned : State → List Event → ℕ → Bool → Stepped
returned s events e true = tail_chained s events e (candidate s.bus.system.nvic)
returned s events e false = failed (with_entry s e) events (Usage InvalidReturn)

-- the handler's exception is active; EXC_RETURN<3:0> is 0001, 1001 or 1101; and on a return to Thread mode no other
-- exception is active, or CCR.NONBASETHRDENA is 1
abbrev pub is_allowed : State → ℕ → Bool
is_allowed s e =
    is_in s.bus.system.nvic.active s.registers.exception
    && (returns_to_handler e
    || (returns_to_thread e
    && (not (is_other_active s.bus.system.nvic s.registers.exception) || nonbasethrdena s.bus.system.status)))

-- the line of a return that begins
abbrev pub return_line : State → ℕ → Event
return_line s e = record { tick = s.bus.system.time.ticks; what = ReturnBegan e }

-- A return with this EXC_RETURN.
unfoldable pub exception_return : State → List Event → ℕ → Stepped
exception_return s before e =
    let events = before ++ return_line s e ∷ [] in
    if has_reserved_ones e
    then returned (with_system s (exception_ended s.bus.system s.registers.exception)) events e (is_allowed s e)
    else stopped s events (Unpredictable unpredictable.ExceptionReturn)
