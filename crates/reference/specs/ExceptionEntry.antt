-- Exception entry in two steps: the frame is pushed, and the vector is read (ARM DDI 0403, ExceptionEntry():
-- PushStack() and ExceptionTaken(); the split into two steps, and what comes between, is the profile's). In this file
-- `e` is the value of EXC_RETURN, which the handler gets in LR, and `x` is the number of the exception that is taken.
use Rattle.std.specs.Prelude.{ℕ, ◌*◌, Bool, true, false, if◌then◌else◌, List, [], ◌∷◌, ◌++◌, Option, Some, None, Result}
use Rattle.std.specs.Prelude.{Ok, Err}
use Rattle.instruction_set.specs.declared.size.Size.TheVariants.{Word}
use Rattle.instruction_set.specs.Frames.{exc_return, frame, frame_base, with_frame, in_handler}
use Rattle.instruction_set.specs.Registers.{Registers, is_privileged, sp}
use Rattle.instruction_set.specs.Words.{word_sum}
use Rattle.platform.specs.declared.access.Kind.{Kind}
use Rattle.platform.specs.declared.access.Kind.TheVariants.{Push, Vector}
use Rattle.platform.specs.declared.access.Request.{Request}
use Rattle.platform.specs.declared.event.Event.{Event}
use Rattle.platform.specs.declared.event.EventKind.TheVariants.{HandlerEntered}
use Rattle.platform.specs.declared.exception.TheConstants.{HARD_FAULT}
use Rattle.reference.specs.declared.failure.Failure.{Failure}
use Rattle.reference.specs.declared.failure.Failure.TheVariants as failure
use Rattle.reference.specs.Accesses.{ListResult, perform, perform_all, access_lines, value_of}
use Rattle.reference.specs.Faults.{recorded, vector_fault, pended_by_fault, locked_up, failed}
use Rattle.reference.specs.LoadStore.{request}
use Rattle.platform.specs.Priorities.{candidate, is_fixed, activated}
use Rattle.reference.specs.State.{State, Stepped, with_bus, with_registers, with_exceptions}

-- ---- PushStack()

-- accesses to words that follow one another upward from an address
abbrev pub words_from : Kind → Bool → ℕ → List ℕ → List Request
words_from kind privileged address [] = []
words_from kind privileged address (value ∷ values) =
    request kind privileged Word address value ∷ words_from kind privileged (word_sum address 4) values

-- the words of the frame, pushed with the privilege of the code that is interrupted
unfoldable pub pushes : Registers → List Request
pushes r = words_from Push (is_privileged r) (frame_base (sp r)) (frame r)

-- the entry begins: SP is moved whether the pushes are done or not, and sleep ends
abbrev pub entering : State → State
entering s = record s { registers = with_frame s.registers; asleep = false; entry = Some (exc_return s.registers) }

-- after a refused push no further word is pushed; its fault is raised, and the entry goes on, unless the machine stops
-- (profile)
abbrev pub stacked : State → ListResult → Option Failure → Stepped
stacked s all None = record { state = with_bus s all.bus; events = all.events }
stacked s all (Some why) = failed (with_bus s all.bus) all.events why

-- A Stack step.
unfoldable pub begin_entry : State → Stepped
begin_entry s =
    let all = perform_all s.registers.exception s.bus.system.time.ticks s.bus (pushes s.registers) in
    stacked (entering s) all all.failure

-- ---- ExceptionTaken()

-- the address of a vector
abbrev pub vector_address : State → ℕ → ℕ
vector_address s x = word_sum s.bus.system.status.vtor (4 * x)

abbrev pub vector_read : State → ℕ → Request
vector_read s x = request Vector true Word (vector_address s x) 0

-- the handler begins, and the entry ends
abbrev pub handler_entered : State → List Event → ℕ → ℕ → ℕ → Stepped
handler_entered s events x e vector = record {
  state = record (with_exceptions (with_registers s (in_handler s.registers x e vector))
      (activated s.bus.system.nvic x)) { entry = None };
  events = events ++ (record { tick = s.bus.system.time.ticks; what = HandlerEntered x } ∷ []);
}

-- the read of the vector was refused: lockup where x is NMI or HardFault; otherwise HardFault becomes pending, x stays
-- pending, and the entry goes on (profile)
abbrev pub vector_refused : State → List Event → ℕ → Stepped
vector_refused s events x =
    if is_fixed x then locked_up (recorded s vector_fault) events
    else pended_by_fault (recorded s vector_fault) events HARD_FAULT

-- the vector was read, or its read was refused or stopped the machine
abbrev pub vector_taken : State → List Event → ℕ → ℕ → Result ℕ Failure → Stepped
vector_taken s events x e (Ok vector) = handler_entered s events x e vector
vector_taken s events x e (Err (failure.Refused access cause)) = vector_refused s events x
vector_taken s events x e (Err (failure.Usage fault)) = failed s events (failure.Usage fault)
vector_taken s events x e (Err (failure.Stop why)) = failed s events (failure.Stop why)

-- the vector of an exception is read
unfoldable pub exception_taken : State → ℕ → ℕ → Stepped
exception_taken s e x =
    let q = vector_read s x in
    let answer = perform s.registers.exception s.bus q in
    vector_taken (with_bus s answer.after) (access_lines s.bus.system.time.ticks q answer.performed) x e
    (value_of q answer.performed)

-- the current candidate is taken; if there is no candidate, which `Invariant` excludes, the step only ticks, and the
-- entry stays open
abbrev pub taken_if_any : State → ℕ → Option ℕ → Stepped
taken_if_any s e None = record { state = s; events = [] }
taken_if_any s e (Some x) = exception_taken s e x

-- A Vector step: the exception is chosen anew, so a late one of a higher priority is taken in place of the first.
unfoldable pub take_vector : State → ℕ → Stepped
take_vector s e = taken_if_any s e (candidate s.bus.system.nvic)
