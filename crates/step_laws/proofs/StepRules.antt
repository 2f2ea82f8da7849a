-- What each small change of a step keeps, the step keeps: the one walk over the step for all laws about it.
--
-- - `StepRules P Q` has a field for each small change. P holds inside the step, of the state and the events so far:
--   with None where the step goes on, and with Some why where an access has just failed so. Q holds of the end of the
--   step.
-- - An access in the entry phase is a push or the read of a vector (`FitsEntry`), and some changes are made outside
--   the entry phase alone. The walk proves both, and names the candidate where an entry begins.
-- - The lemmas follow `reference` from the last phase up: a list of accesses, entry, return, an instruction, the
--   fetches, the step. `cond_both` takes both branches of a test.
-- - `search ends` proves an end of the step with any further lines of no access, so it names none of them.
-- - `step_keeps` is what a law uses, with what holds before and after the tick. A law about the bus alone proves the
--   four changes of `BusRules` in place of these.
use Rattle.std.proofs.Common.{◌≡◌, ℕ, nat_le, Bool, true, false, not, ◌||◌, is_some, List, [], ◌∷◌, ◌++◌, Option, Some}
use Rattle.std.proofs.Common.{None, Result, Ok, Err, refl, sym, subst, append_assoc}
use Rattle.std.specs.Prelude.{⊤}
use Rattle.std.proofs.lemmas.Bool.{cond_both}
use Rattle.std.proofs.lemmas.List.{append-nil}
use Rattle.instruction_set.specs.declared.instruction.CodedInstruction.{CodedInstruction}
use Rattle.instruction_set.specs.declared.instruction.Decoded.{Decoded}
use Rattle.instruction_set.specs.declared.instruction.Decoded.TheVariants as decoded
use Rattle.instruction_set.specs.declared.instruction.InstructionLength.{InstructionLength}
use Rattle.instruction_set.specs.declared.instruction.InstructionLength.TheVariants.{Short, Long}
use Rattle.instruction_set.specs.declared.system.ChangeProcessorState.{ChangeProcessorState}
use Rattle.instruction_set.specs.declared.system.MoveFromSpecial.{MoveFromSpecial}
use Rattle.instruction_set.specs.declared.system.SpecialRegister.{SpecialRegister}
use Rattle.instruction_set.specs.Arithmetic.{condition_passed}
use Rattle.instruction_set.specs.Decoding.{is_long}
use Rattle.instruction_set.specs.Frames.{exc_return, frame, frame_base, has_reserved_ones, in_handler}
use Rattle.instruction_set.specs.Frames.{popped, popped_pc, with_frame}
use Rattle.instruction_set.specs.Registers.{Registers, is_privileged, sp}
use Rattle.instruction_set.specs.Words.{is_bit, word_sum}
use Rattle.platform.specs.declared.access.Access.{Access}
use Rattle.platform.specs.declared.access.Cause.{Cause}
use Rattle.platform.specs.declared.access.Kind.{Kind}
use Rattle.platform.specs.declared.access.Kind.TheVariants.{Push, Vector}
use Rattle.platform.specs.declared.access.Performed.{Performed}
use Rattle.platform.specs.declared.access.Performed.TheVariants as performed
use Rattle.platform.specs.declared.access.Request.{Request}
use Rattle.platform.specs.declared.event.Event.{Event}
use Rattle.platform.specs.declared.exception.Escalation.{Escalation}
use Rattle.platform.specs.declared.exception.Escalation.TheVariants.{Itself, HardFault, Lockup}
use Rattle.platform.specs.declared.exception.TheConstants.{HARD_FAULT, SV_CALL}
use Rattle.platform.specs.declared.fault_status.TheConstants.{FORCED}
use Rattle.platform.specs.declared.stop.Stop.{Stop}
use Rattle.platform.specs.Events.{access_of}
use Rattle.platform.specs.Kinds.{is_load, is_store}
use Rattle.platform.specs.Priorities.{Nvic, activated, candidate}
use Rattle.platform.specs.Status.{Status, with_fault_bits}
use Rattle.platform.specs.System.{exception_ended}
use Rattle.platform.specs.Time.{last_tick}
use Rattle.reference.specs.declared.ending.Ending.{Ending}
use Rattle.reference.specs.declared.ending.Ending.TheVariants as ending
use Rattle.reference.specs.declared.failure.Failure.{Failure}
use Rattle.reference.specs.declared.failure.Failure.TheVariants as failure
use Rattle.reference.specs.declared.failure.UsageFault.{UsageFault}
use Rattle.reference.specs.declared.failure.UsageFault.TheVariants.{InvalidReturn, InvalidState, NoCoprocessor}
use Rattle.reference.specs.declared.failure.UsageFault.TheVariants.{UndefinedInstruction}
use Rattle.reference.specs.Accesses.{ListResult, access_lines, followed, perform, perform_all, value_of}
use Rattle.reference.specs.ExceptionEntry.{begin_entry, entering, exception_taken, pushes, stacked, take_vector}
use Rattle.reference.specs.ExceptionEntry.{taken_if_any, vector_read, vector_refused, vector_taken, words_from}
use Rattle.reference.specs.ExceptionReturn.{tail_chained, exception_return, fits_mode, frame_read, is_allowed}
use Rattle.reference.specs.ExceptionReturn.{pop_stack}
use Rattle.reference.specs.ExceptionReturn.{pops, return_line, returned, unstacked, with_entry}
use Rattle.reference.specs.Faults.{failed, pended, supervisor_called, supervisor_called_by, with_status}
use Rattle.reference.specs.LoadStore.{fetch_at}
use Rattle.reference.specs.Operations.{result_of}
use Rattle.reference.specs.ProgramCounter.{Finished, advances}
use Rattle.reference.specs.State.{Bus, State, Stepped, stopped, ticked, with_bus, with_exceptions, with_registers}
use Rattle.reference.specs.State.{with_system}
use Rattle.reference.specs.Step.{ended, executed, fetched_first, fetched_second, finished, completed, instruction}
use Rattle.reference.specs.Step.{performed_all, phase, planned, running, after_accesses, sleeps_on, step}
use Rattle.reference.specs.Step.{unless_stopped}
use Rattle.reference.specs.Step.{with_second, with_special_read, with_special_written, with_state_changed}
use Rattle.reference.specs.Step.{undefined_instruction}

-- ---- accesses

-- the failure of an access, if it failed
abbrev pub failure_in : Result ℕ Failure → Option Failure
failure_in (Ok value) = None
failure_in (Err why) = Some why

-- an access in the entry phase is neither a load nor a store
abbrev pub FitsEntry : Option ℕ → Request → Type 0
FitsEntry entry q = is_some entry ≡ true → (is_load q.access.kind || is_store q.access.kind) ≡ false

-- the state and the events after an access
abbrev pub after_access : State → Request → State
after_access s q = with_bus s (perform s.registers.exception s.bus q).after

abbrev pub lines_after : ℕ → State → List Event → Request → List Event
lines_after tick s events q = events ++ access_lines tick q (perform s.registers.exception s.bus q).performed

-- ---- the small changes

-- each keeps what holds inside a step, or gives what holds of its end
pub record StepRules (P : Option Failure → State → List Event → Type 0) (Q : Stepped → Type 0) : Type 0 where
  -- the step ends: it's done, the machine stops, or an access failed, and an entry phase may begin
  pub ends : (s : State) (events : List Event) → P None s events → Q (completed s events)
  pub stops : (s : State) (events : List Event) (why : Stop) → P None s events → Q (stopped s events why)
  pub fails : (why : Failure) (s : State) (events : List Event) (entry : Option ℕ) → P (Some why) s events
      → Q (failed (record s { entry = entry }) events why)
  -- a failure of no access
  pub failing : (why : Failure) (s : State) (events : List Event) → P None s events → P (Some why) s events
  -- an access, and a line of no access
  pub access : (tick : ℕ) (s : State) (events : List Event) (q : Request) → FitsEntry s.entry q → P None s events
      → P (failure_in (value_of q (perform s.registers.exception s.bus q).performed)) (after_access s q)
      (lines_after tick s events q)
  pub line : (s : State) (events : List Event) (e : Event) → access_of e.what ≡ None → P None s events
      → P None s (events ++ e ∷ [])
  -- sleep, an exception that becomes pending, and the status registers
  pub asleep : (s : State) (events : List Event) (on : Bool) → P None s events
      → P None (record s { asleep = on }) events
  pub pending : (s : State) (events : List Event) (x : ℕ) → P None s events → P None (pended s x) events
  pub status : (s : State) (events : List Event) (st : Status) → P None s events → P None (with_status s st) events
  -- an instruction: its registers, those of one that does nothing, MRS, MSR and CPS
  pub result : (s : State) (events : List Event) (i : CodedInstruction) (values : List ℕ) → P None s events
      → P None (with_registers s (result_of i s.registers values).registers) events
  pub moved : (s : State) (events : List Event) (length : InstructionLength) → P None s events
      → P None (with_registers s (advances length s.registers).registers) events
  pub special_read : (s : State) (events : List Event) (o : MoveFromSpecial) → P None s events
      → P None (with_special_read s o) events
  pub special_written : (s : State) (events : List Event) (special : SpecialRegister) (value : ℕ) → s.entry ≡ None
      → P None s events → P None (with_special_written s special value) events
  pub state_changed : (s : State) (events : List Event) (o : ChangeProcessorState) → s.entry ≡ None → P None s events
      → P None (with_state_changed s o) events
  -- entry: it begins where there is a candidate, SP is moved whether the pushes are done or not, the vector's read is
  -- refused, or the handler of a candidate begins
  pub entry : (s : State) (events : List Event) (e x : ℕ) → candidate s.bus.system.nvic ≡ Some x → P None s events
      → P None (with_entry s e) events
  pub stacked : (end : Option Failure) (s : State) (events : List Event) → P end s events
      → P end (record s { registers = with_frame s.registers; asleep = false }) events
  pub refused : (s : State) (events : List Event) (x : ℕ) (access : Access) (cause : Cause) → access.kind ≡ Vector
      → P (Some (failure.Refused access cause)) s events → Q (vector_refused s events x)
  pub handler : (n : Nvic) (s : State) (events : List Event) (x e vector : ℕ) → candidate n ≡ Some x → P None s events
      → P None (record (with_exceptions (with_registers s (in_handler s.registers x e vector))
      (activated s.bus.system.nvic x)) { entry = None }) events
  -- return: the handler's exception ends, and the registers come from the frame
  pub deactivated : (s : State) (events : List Event) → s.entry ≡ None → P None s events
      → P None (with_system s (exception_ended s.bus.system s.registers.exception)) events
  pub unstacked : (s : State) (events : List Event) (e : ℕ) (frame : List ℕ) → is_bit (popped_pc frame) 0 ≡ false
      → P None s events → P None (with_registers s (popped s.registers e frame)) events

-- ---- which accesses fit the entry phase

-- all accesses of a list do
abbrev pub AllFit : Option ℕ → List Request → Type 0
AllFit entry [] = ⊤
AllFit entry (q ∷ qs) = FitsEntry entry q × AllFit entry qs

not_entering : (entry : Option ℕ) (P : Type 0) → entry ≡ None → is_some entry ≡ true → P
not_entering None P out e = absurd (let w : ⊥ = cc in w)
not_entering (Some x) P out e = absurd (let w : ⊥ = cc in w)

outside_fit : (entry : Option ℕ) (qs : List Request) → entry ≡ None → AllFit entry qs
outside_fit entry [] out = tt
outside_fit entry (q ∷ qs) out = (λ e. not_entering entry _ out e, outside_fit entry qs out)

words_fit : (entry : Option ℕ) (kind : Kind) (privileged : Bool) (address : ℕ) (values : List ℕ)
    → (is_load kind || is_store kind) ≡ false → AllFit entry (words_from kind privileged address values)
words_fit entry kind privileged address [] apart = tt
words_fit entry kind privileged address (v ∷ values) apart =
    (λ e. apart, words_fit entry kind privileged (word_sum address 4) values apart)

pushes_fit : (entry : Option ℕ) (r : Registers) → AllFit entry (pushes r)
unfolding pushes
pushes_fit entry r = words_fit entry Push (is_privileged r) (frame_base (sp r)) (frame r) refl

-- ---- the walk

module _ {P : Option Failure → State → List Event → Type 0} {Q : Stepped → Type 0} (k : StepRules P Q) where
  -- ---- the ends of a step

  done : (s : State) (events : List Event) → P None s events → Q (completed s events)
  done = k.ends

  stop_ends : (s : State) (events : List Event) (why : Stop) → P None s events → Q (stopped s events why)
  stop_ends = k.stops

  line_added : (s : State) (events : List Event) (e : Event) → access_of e.what ≡ None → P None s events
      → P None s (events ++ e ∷ [])
  line_added = k.line

  ruleset ends = (done, stop_ends, line_added)

  -- a fault of no access, after which an entry may begin
  faults : (s : State) (events : List Event) (fault : UsageFault) (entry : Option ℕ) → P None s events
      → Q (failed (record s { entry = entry }) events (failure.Usage fault))
  faults s events fault entry p =
      k.fails (failure.Usage fault) s events entry (k.failing (failure.Usage fault) s events p)

  -- ---- a list of accesses

  abbrev AfterAll : State → List Event → ListResult → Type 0
  AfterAll s events all = P all.failure (with_bus s all.bus) (events ++ all.events)

  followed_keeps : (s : State) (events more : List Event) (after : Bus) (value : Result ℕ Failure) (rest : ListResult)
      → P (failure_in value) (with_bus s after) (events ++ more)
      → (P None (with_bus s after) (events ++ more) → AfterAll (with_bus s after) (events ++ more) rest)
      → AfterAll s events (followed more after value rest)
  followed_keeps s events more after (Ok value) rest first others =
      subst (λ lines. P rest.failure (with_bus s rest.bus) lines) (append_assoc events more rest.events) (others first)
  followed_keeps s events more after (Err why) rest first others = first

  list_keeps : (tick : ℕ) (s : State) (events : List Event) (qs : List Request) → AllFit s.entry qs → P None s events
      → AfterAll s events (perform_all s.registers.exception tick s.bus qs)
  unfolding perform_all
  list_keeps tick s events [] fit p = subst (λ lines. P None s lines) (sym (append-nil events)) p
  list_keeps tick s events (q ∷ qs) fit p =
      followed_keeps s events _ _ (value_of q (perform s.registers.exception s.bus q).performed) _
      (k.access tick s events q fit.0 p) (list_keeps tick (after_access s q) (lines_after tick s events q) qs fit.1)

  -- ---- SVC

  called_keeps : (s : State) (events : List Event) (e : Escalation) → P None s events
      → Q (supervisor_called_by s events e)
  called_keeps s events Itself p = let after = k.pending _ events SV_CALL (k.moved s events Short p) in search ends
  called_keeps s events HardFault p =
      let forced = k.status s events (with_fault_bits s.bus.system.status 0 FORCED) p in
      let after = k.pending _ events HARD_FAULT forced in search ends
  called_keeps s events Lockup p = search ends

  supervisor_keeps : (s : State) (events : List Event) → P None s events → Q (supervisor_called s events)
  unfolding supervisor_called
  supervisor_keeps s events p = called_keeps s events _ p

  -- ---- entry

  stacked_keeps : (s : State) (all : ListResult) (end : Option Failure) → P end (with_bus s all.bus) all.events
      → Q (stacked s all end)
  stacked_keeps s all None p = search ends
  stacked_keeps s all (Some why) p = k.fails why (with_bus s all.bus) all.events s.entry p

  entry_keeps : (s : State) (x : ℕ) → candidate s.bus.system.nvic ≡ Some x → P None s [] → Q (begin_entry s)
  unfolding begin_entry
  entry_keeps s x next p =
      let tick = s.bus.system.time.ticks in
      let begun = with_entry s (exc_return s.registers) in
      let all = perform_all s.registers.exception tick s.bus (pushes s.registers) in
      stacked_keeps (entering s) all all.failure
      (k.stacked all.failure (with_bus begun all.bus) all.events
      (list_keeps tick begun [] (pushes s.registers) (pushes_fit begun.entry s.registers)
      (k.entry s [] (exc_return s.registers) x next p)))

  vector_keeps : (n : Nvic) (s : State) (events : List Event) (x e : ℕ) (q : Request) (o : Performed)
      → q.access.kind ≡ Vector → candidate n ≡ Some x → P (failure_in (value_of q o)) s events
      → Q (vector_taken s events x e (value_of q o))
  vector_keeps n s events x e q (performed.Done access) kind next p =
      let after = k.handler n s events x e access.value next p in search ends
  vector_keeps n s events x e q (performed.Denied rule cause) kind next p = k.refused s events x q.access cause kind p
  vector_keeps n s events x e q (performed.Stop why) kind next p = k.fails (failure.Stop why) s events s.entry p

  taken_keeps : (s : State) (e x : ℕ) → candidate s.bus.system.nvic ≡ Some x → P None s [] → Q (exception_taken s e x)
  unfolding exception_taken
  taken_keeps s e x next p =
      let tick = s.bus.system.time.ticks in
      let q = vector_read s x in
      let o = (perform s.registers.exception s.bus q).performed in
      vector_keeps s.bus.system.nvic (after_access s q) (access_lines tick q o) x e q o refl next
      (k.access tick s [] q (λ f. refl) p)

  any_keeps : (s : State) (e : ℕ) (next : Option ℕ) → candidate s.bus.system.nvic ≡ next → P None s []
      → Q (taken_if_any s e next)
  any_keeps s e None is p = k.ends s [] p
  any_keeps s e (Some x) is p = taken_keeps s e x is p

  vector_step_keeps : (s : State) (e : ℕ) → P None s [] → Q (take_vector s e)
  unfolding take_vector
  vector_step_keeps s e p = any_keeps s e (candidate s.bus.system.nvic) refl p

  -- ---- return

  unstacked_keeps : (s : State) (events : List Event) (e : ℕ) (frame : List ℕ) → P None s events
      → Q (unstacked s events e frame)
  unfolding unstacked
  unstacked_keeps s events e frame p =
      cond_both (not (fits_mode e frame)) _ _ Q (λ is. faults s events InvalidReturn (Some e) p)
      (λ is. cond_both (is_bit (popped_pc frame) 0) _ _ Q (λ odd. search ends)
      (λ even. let after = k.unstacked s events e frame even p in search ends))

  read_keeps : (s : State) (events : List Event) (e : ℕ) (all : ListResult) (end : Option Failure)
      → P end (with_bus s all.bus) (events ++ all.events) → Q (frame_read s events e all end)
  read_keeps s events e all None p = unstacked_keeps (with_bus s all.bus) (events ++ all.events) e all.values p
  read_keeps s events e all (Some why) p = k.fails why (with_bus s all.bus) (events ++ all.events) (Some e) p

  popped_keeps : (s : State) (events : List Event) (e : ℕ) → s.entry ≡ None → P None s events
      → Q (pop_stack s events e)
  unfolding pop_stack
  popped_keeps s events e out p =
      let tick = s.bus.system.time.ticks in
      let qs = pops s.registers e in
      let all = perform_all s.registers.exception tick s.bus qs in
      read_keeps s events e all all.failure (list_keeps tick s events qs (outside_fit s.entry qs out) p)

  chained_keeps : (s : State) (events : List Event) (e : ℕ) (next : Option ℕ) → candidate s.bus.system.nvic ≡ next
      → s.entry ≡ None → P None s events → Q (tail_chained s events e next)
  chained_keeps s events e (Some x) is out p = let after = k.entry s events e x is p in search ends
  chained_keeps s events e None is out p = popped_keeps s events e out p

  returned_keeps : (s : State) (events : List Event) (e : ℕ) (allowed : Bool) → s.entry ≡ None → P None s events
      → Q (returned s events e allowed)
  returned_keeps s events e true out p = chained_keeps s events e (candidate s.bus.system.nvic) refl out p
  returned_keeps s events e false out p = faults s events InvalidReturn (Some e) p

  return_keeps : (s : State) (before : List Event) (e : ℕ) → s.entry ≡ None → P None s before
      → Q (exception_return s before e)
  unfolding exception_return
  return_keeps s before e out p =
      let begun = k.line s before (return_line s e) refl p in
      cond_both (has_reserved_ones e) _ _ Q
      (λ ones. returned_keeps (with_system s (exception_ended s.bus.system s.registers.exception))
      (before ++ return_line s e ∷ []) e (is_allowed s e) out (k.deactivated s _ out begun))
      (λ other. search ends)

  -- ---- the end of an instruction, and its accesses

  ended_keeps : (s : State) (events : List Event) (end : Ending) → s.entry ≡ None → P None s events
      → Q (ended s events end)
  ended_keeps s events ending.Next out p = search ends
  ended_keeps s events (ending.ReadSpecial o) out p = let after = k.special_read s events o p in search ends
  ended_keeps s events (ending.WriteSpecial special value) out p =
      let after = k.special_written s events special value out p in search ends
  ended_keeps s events (ending.ChangeState o) out p = let after = k.state_changed s events o out p in search ends
  ended_keeps s events ending.Sleep out p = let after = k.asleep s events true p in search ends
  ended_keeps s events (ending.SupervisorCall number) out p = supervisor_keeps s events p
  ended_keeps s events (ending.Breakpoint number) out p = search ends
  ended_keeps s events (ending.ExceptionReturn value) out p = return_keeps s events value out p

  finished_keeps : (s : State) (events : List Event) (f : Finished) → s.entry ≡ None
      → P None (with_registers s f.registers) events → Q (finished s events f)
  finished_keeps s events f out p = ended_keeps (with_registers s f.registers) events f.ending out p

  served_keeps : (s : State) (events : List Event) (i : CodedInstruction) (all : ListResult) (end : Option Failure)
      → s.entry ≡ None → P end (with_bus s all.bus) (events ++ all.events) → Q (after_accesses s events i all end)
  served_keeps s events i all None out p =
      let after = with_bus s all.bus in
      finished_keeps after (events ++ all.events) (result_of i s.registers all.values) out
      (k.result after (events ++ all.events) i all.values p)
  served_keeps s events i all (Some why) out p = k.fails why (with_bus s all.bus) (events ++ all.events) s.entry p

  performed_keeps : (s : State) (events : List Event) (i : CodedInstruction) (qs : List Request) → s.entry ≡ None
      → P None s events → Q (performed_all s events i qs)
  unfolding performed_all
  performed_keeps s events i qs out p =
      let tick = s.bus.system.time.ticks in
      let all = perform_all s.registers.exception tick s.bus qs in
      served_keeps s events i all all.failure out (list_keeps tick s events qs (outside_fit s.entry qs out) p)

  planned_keeps : (s : State) (events : List Event) (i : CodedInstruction) (asked : Result (List Request) Failure)
      → s.entry ≡ None → P None s events → Q (planned s events i asked)
  planned_keeps s events i (Ok qs) out p = performed_keeps s events i qs out p
  planned_keeps s events i (Err why) out p = k.fails why s events s.entry (k.failing why s events p)

  -- ---- the decoded instruction

  meaningless_keeps : (s : State) (events : List Event) (length : InstructionLength) (fault : UsageFault)
      → s.entry ≡ None → P None s events → Q (undefined_instruction s events length fault)
  meaningless_keeps s events length fault out p =
      cond_both (condition_passed s.registers.it_state s.registers.flags) _ _ Q
      (λ passed. faults s events fault s.entry p)
      (λ skipped. finished_keeps s events (advances length s.registers) out (k.moved s events length p))

  executed_keeps : (s : State) (events : List Event) (length : InstructionLength) (d : Decoded) → s.entry ≡ None
      → P None s events → Q (executed s events length d)
  executed_keeps s events length (decoded.Instr i) out p = planned_keeps s events i _ out p
  executed_keeps s events length decoded.Undefined out p = meaningless_keeps s events length UndefinedInstruction out p
  executed_keeps s events length decoded.NoCoprocessor out p = meaningless_keeps s events length NoCoprocessor out p
  executed_keeps s events length (decoded.Unpredictable place why) out p = search ends

  -- ---- the fetches

  second_keeps : (s : State) (events : List Event) (hw1 : ℕ) (answer : Result ℕ Failure) → s.entry ≡ None
      → P (failure_in answer) s events → Q (fetched_second s events hw1 answer)
  second_keeps s events hw1 (Ok hw2) out p = executed_keeps s events Long _ out p
  second_keeps s events hw1 (Err why) out p = k.fails why s events s.entry p

  with_second_keeps : (s : State) (events : List Event) (hw1 : ℕ) → s.entry ≡ None → P None s events
      → Q (with_second s events hw1)
  unfolding with_second
  with_second_keeps s events hw1 out p =
      let q = fetch_at (word_sum s.registers.pc 2) (is_privileged s.registers) in
      cond_both (is_long hw1) _ _ Q
      (λ long. second_keeps (after_access s q) (lines_after s.bus.system.time.ticks s events q) hw1 _ out
      (k.access s.bus.system.time.ticks s events q (λ e. refl) p))
      (λ short. executed_keeps s events Short _ out p)

  first_keeps : (s : State) (events : List Event) (answer : Result ℕ Failure) → s.entry ≡ None
      → P (failure_in answer) s events → Q (fetched_first s events answer)
  first_keeps s events (Ok hw1) out p = with_second_keeps s events hw1 out p
  first_keeps s events (Err why) out p = k.fails why s events s.entry p

  instruction_keeps : (s : State) → s.entry ≡ None → P None s [] → Q (instruction s)
  unfolding instruction
  instruction_keeps s out p =
      let q = fetch_at s.registers.pc (is_privileged s.registers) in
      cond_both s.registers.thumb _ _ Q
      (λ thumb. first_keeps (after_access s q) (lines_after s.bus.system.time.ticks s [] q) _ out
      (k.access s.bus.system.time.ticks s [] q (λ e. refl) p))
      (λ arm. faults s [] InvalidState s.entry p)

  -- ---- the step

  phase_keeps : (s : State) (entry next : Option ℕ) → s.entry ≡ entry → candidate s.bus.system.nvic ≡ next
      → P None s [] → Q (phase s entry next)
  unfolding phase
  phase_keeps s (Some e) next is is_next p = vector_step_keeps s e p
  phase_keeps s None (Some x) is is_next p = entry_keeps s x is_next p
  phase_keeps s None None is is_next p =
      cond_both (sleeps_on s) _ _ Q (λ sleeps. k.ends s [] p)
      (λ wakes. instruction_keeps (record s { asleep = false }) is (k.asleep s [] false p))

  -- what holds after the tick, where the clock isn't at its end
  abbrev pub AfterTick : State → Type 0
  AfterTick s = nat_le last_tick s.bus.system.time.ticks ≡ false → P None (ticked s) []

  running_keeps : (s : State) → P None s [] → AfterTick s → Q (running s)
  running_keeps s p after =
      cond_both (nat_le last_tick s.bus.system.time.ticks) _ _ Q (λ late. k.stops s [] _ p)
      (λ early. phase_keeps (ticked s) s.entry _ refl refl (after early))

  stopped_keeps : (s : State) (why : Option Stop) → P None s [] → AfterTick s → Q (unless_stopped s why)
  stopped_keeps s None p after = running_keeps s p after
  stopped_keeps s (Some why) p after = k.ends s [] p

  pub step_keeps : (s : State) → P None s [] → AfterTick s → Q (step s)
  unfolding step
  step_keeps s p after = stopped_keeps s s.stop p after

  -- a step that is made, of a machine that hasn't stopped and whose clock isn't at its end: what holds after the tick
  unless_made_keeps : (s : State) (stop : Option Stop) → stop ≡ None
      → nat_le last_tick s.bus.system.time.ticks ≡ false → P None (ticked s) [] → Q (unless_stopped s stop)
  unless_made_keeps s (Some why) goes early p = absurd (let w : ⊥ = cc in w)
  unless_made_keeps s None goes early p = rw early (phase_keeps (ticked s) s.entry _ refl refl p)

  pub made_keeps : (s : State) → s.stop ≡ None → nat_le last_tick s.bus.system.time.ticks ≡ false
      → P None (ticked s) [] → Q (step s)
  unfolding step
  made_keeps s goes early p = unless_made_keeps s s.stop goes early p
