-- A return that reaches its end, after an entry whose pushes were carried out.
use Rattle.std.proofs.Common.{◌≡◌, ℕ, ◌≤◌, Bool, true, false, not, List, [], ◌∷◌, ◌++◌, length, Option, Some, None}
use Rattle.std.proofs.Common.{refl, sym, ◌∙◌, ap, subst, arith}
use Rattle.std.proofs.lemmas.Bool.{cond_both}
use Rattle.instruction_set.specs.Frames.{exc_return, frame, frame_base, frame_pointer, has_reserved_ones, popped_pc}
use Rattle.instruction_set.specs.Frames.{popped, with_frame}
use Rattle.instruction_set.specs.Registers.{Registers, is_privileged, sp}
use Rattle.instruction_set.specs.Words.{is_bit}
use Rattle.platform.specs.declared.event.Event.{Event}
use Rattle.platform.specs.declared.exception.Escalation.{Escalation}
use Rattle.platform.specs.declared.exception.Escalation.TheVariants.{Itself, HardFault, Lockup}
use Rattle.reference.specs.declared.failure.Failure.{Failure}
use Rattle.reference.specs.declared.failure.Failure.TheVariants as failure
use Rattle.reference.specs.declared.failure.UsageFault.TheVariants.{InvalidReturn}
use Rattle.platform.specs.declared.fault_status.FaultEffect.{FaultEffect}
use Rattle.reference.specs.Accesses.{ListResult, perform_all}
use Rattle.reference.specs.ExceptionEntry.{pushes, entering, begin_entry}
use Rattle.reference.specs.ExceptionReturn.{with_entry, fits_mode, unstacked, frame_read, returns_privileged, pops}
use Rattle.reference.specs.ExceptionReturn.{pop_stack, tail_chained, returned, is_allowed, return_line}
use Rattle.platform.specs.System.{exception_ended}
use Rattle.reference.specs.ExceptionReturn.{exception_return}
use Rattle.reference.specs.Faults.{escalated, faulted, failed}
use Rattle.platform.specs.Memory.{Memory}
use Rattle.reference.specs.State.{State, Stepped, with_bus, with_system}
use Rattle.reference.specs.Invariant.{HasRegisters, Invariant}
use Rattle.platform.specs.SystemInvariant.{IsLaidOut}
use Rattle.step_laws.specs.FrameLaw.{AreBack, KeepsFrame, IsFree, IsStacked, HasFrameOf, ReturnGivesBack}
use Rattle.step_laws.proofs.Frames.{gives_back, pushed_sp}
use Rattle.step_laws.proofs.Stacks.{HoldsWords, AreWords, words_pushed, words_popped, frame_stays}
use Rattle.step_laws.proofs.Words.{xpsr_is_word}

-- ---- the points of a return

-- a failure leaves the entry phase as it is
escalated_entry : (s : State) (events : List Event) (x : ℕ) (e : Escalation) →
    (escalated s events x e).state.entry ≡ s.entry
escalated_entry s events x Itself = refl
escalated_entry s events x HardFault = refl
escalated_entry s events x Lockup = refl

faulted_entry : (s : State) (events : List Event) (f : FaultEffect) → (faulted s events f).state.entry ≡ s.entry
unfolding faulted
faulted_entry s events f = escalated_entry _ events f.exception _

failed_entry : (s : State) (events : List Event) (why : Failure) → (failed s events why).state.entry ≡ s.entry
failed_entry s events (failure.Refused access cause) = faulted_entry s events _
failed_entry s events (failure.Usage fault) = faulted_entry s events _
failed_entry s events (failure.Stop why) = refl

-- a failure after which an entry begins is no end of a return
not_free : {A : Type 0} (s : State) (events : List Event) (e : ℕ) (why : Failure) →
    IsFree (failed (with_entry s e) events why).state → A
not_free s events e why free = absurd cc (sym (failed_entry (with_entry s e) events why) ∙ free.0)

-- the pops of a state were carried out, and its registers come from them
record IsBackFrom (u : Registers) (e : ℕ) (all : ListResult) (after : Registers) : Type 0 where
  done : all.failure ≡ None
  popped : after ≡ popped u e all.values

abbrev EndsWith : Registers → ℕ → ListResult → Stepped → Type 0
EndsWith u e all step = IsFree step.state → IsBackFrom u e all step.state.registers

unstacked_ends : (s : State) (events : List Event) (e : ℕ) (all : ListResult) → all.failure ≡ None →
    EndsWith s.registers e all (unstacked s events e all.values)
unfolding unstacked
unstacked_ends s events e all done =
    cond_both (not (fits_mode e all.values)) _ _ (EndsWith s.registers e all)
    (λ unfit free. not_free s events e (failure.Usage InvalidReturn) free)
    (λ fit. cond_both (is_bit (popped_pc all.values) 0) _ _ (EndsWith s.registers e all)
    (λ odd free. absurd cc (free.1))
    (λ even free. record { done = done; popped = refl }))

read_ends : (s : State) (events : List Event) (e : ℕ) (all : ListResult) (end : Option Failure) → all.failure ≡ end →
    EndsWith s.registers e all (frame_read s events e all end)
read_ends s events e all None is free = unstacked_ends (with_bus s all.bus) (events ++ all.events) e all is free
read_ends s events e all (Some why) is free = not_free (with_bus s all.bus) (events ++ all.events) e why free

abbrev pops_of : State → ℕ → ListResult
pops_of s e = perform_all s.registers.exception s.bus.system.time.ticks s.bus (pops s.registers e)

popped_ends : (s : State) (events : List Event) (e : ℕ) → EndsWith s.registers e (pops_of s e) (pop_stack s events e)
unfolding pop_stack
popped_ends s events e = read_ends s events e (pops_of s e) _ refl

chained_ends : (s : State) (events : List Event) (e : ℕ) (next : Option ℕ) →
    EndsWith s.registers e (pops_of s e) (tail_chained s events e next)
chained_ends s events e (Some x) free = absurd cc (free.0)
chained_ends s events e None free = popped_ends s events e free

returned_ends : (s : State) (events : List Event) (e : ℕ) (allowed : Bool) →
    EndsWith s.registers e (pops_of s e) (returned s events e allowed)
returned_ends s events e true free = chained_ends s events e _ free
returned_ends s events e false free = not_free s events e (failure.Usage InvalidReturn) free

-- the state of the pops
abbrev deactivating : State → State
deactivating s = with_system s (exception_ended s.bus.system s.registers.exception)

return_ends : (s : State) (before : List Event) (e : ℕ) →
    EndsWith s.registers e (pops_of (deactivating s) e) (exception_return s before e)
unfolding exception_return
return_ends s before e =
    cond_both (has_reserved_ones e) _ _ (EndsWith s.registers e (pops_of (deactivating s) e))
    (λ ones. returned_ends (deactivating s) (before ++ return_line s e ∷ []) e (is_allowed s e))
    (λ other free. absurd cc (free.1))

-- ---- the frame

frame_words : (r : Registers) → HasRegisters r → AreWords (frame r)
unfolding frame
frame_words r is =
    let last = xpsr_is_word r is.it_state is.exception in (
      is.general 0,
      (is.general 1, (is.general 2, (is.general 3, (is.general 12, (is.lr, (is.pc.word, (last, tt))))))),
    )

pops_back : (t : State) (e : ℕ) (r : Registers) → HasRegisters r → IsLaidOut t.bus.memory →
    HoldsWords t.bus.memory (frame_pointer t.registers e) (frame r) → (pops_of t e).failure ≡ None →
    (pops_of t e).values ≡ frame r
unfolding pops frame
pops_back t e r is apart holds done =
    words_popped t.registers.exception t.bus.system.time.ticks (returns_privileged t.registers e) t.bus
    (frame_pointer t.registers e) (frame r) apart holds (frame_words r is) done

eight : (r : Registers) → length (frame r) ≤ 8
unfolding frame
eight r = omega arith

abbrev pushes_of : State → ListResult
pushes_of s = perform_all s.registers.exception s.bus.system.time.ticks s.bus (pushes s.registers)

entered : (s : State) → IsStacked s → (begin_entry s).state ≡ with_bus (entering s) (pushes_of s).bus
unfolding begin_entry
entered s pushed = rw pushed refl

holds_frame : (s : State) → IsLaidOut s.bus.memory → IsStacked s →
    HoldsWords (pushes_of s).bus.memory (frame_base (sp s.registers)) (frame s.registers)
unfolding pushes
holds_frame s apart pushed =
    (words_pushed s.registers.exception s.bus.system.time.ticks (is_privileged s.registers) s.bus
    (frame_base (sp s.registers)) (frame s.registers) apart (omega arith) (omega arith) pushed).words

-- SP after the pushes
entered_sp : (s : State) → IsStacked s → sp (begin_entry s).state.registers ≡ sp (with_frame s.registers)
entered_sp s pushed = ap (λ (t : State). sp t.registers) (entered s pushed)

-- the words popped are those pushed
values_back : (s u : State) → Invariant s → Invariant u → IsStacked s → HasFrameOf s u →
    (pops_of (deactivating u) (exc_return s.registers)).failure ≡ None →
    (pops_of (deactivating u) (exc_return s.registers)).values ≡ frame s.registers
values_back s u is later pushed has done =
    let e = exc_return s.registers in
    let base = frame_base (sp s.registers) in
    let at : sp (begin_entry s).state.registers ≡ base = entered_sp s pushed ∙ pushed_sp s.registers in
    let keeps : KeepsFrame (pushes_of s).bus.memory u.bus.memory base =
    subst (λ (m : Memory). KeepsFrame m u.bus.memory base) (ap (λ (t : State). t.bus.memory) (entered s pushed))
    (subst (λ address. KeepsFrame (begin_entry s).state.bus.memory u.bus.memory address) at has.bytes) in
    let holds : HoldsWords u.bus.memory base (frame s.registers) =
    frame_stays (pushes_of s).bus.memory u.bus.memory base (frame s.registers) (omega arith) (omega arith)
    (eight s.registers) keeps (holds_frame s is.memory pushed) in
    pops_back (deactivating u) e s.registers is.registers later.memory
    (subst (λ address. HoldsWords u.bus.memory address (frame s.registers)) (sym (has.stack ∙ at)) holds) done

pub return_gives_back : (s u : State) (before : List Event) → ReturnGivesBack s u before
return_gives_back s u before is later pushed has free =
    let e = exc_return s.registers in
    let back = return_ends u before e free in
    let registers = back.popped ∙ ap (popped u.registers e) (values_back s u is later pushed has back.done) in
    subst (λ (r : Registers). AreBack s.registers r) (sym registers)
    (gives_back s.registers u.registers is.registers later.registers (has.stack ∙ entered_sp s pushed))
