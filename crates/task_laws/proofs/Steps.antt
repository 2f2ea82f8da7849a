-- The phases of an Instruction step of a task, from two states that differ only in memory, where the memories look the
-- same to it. Each phase has one lemma: from `Ready` before it to `SameStep` at the end of the step.
--
-- - The lemmas follow `reference`'s Step from its last phase up: faults, the end of an instruction, its accesses, the
--   decoded instruction, the fetches, the step.
-- - Both runs take the same branch at each test, since no test reads memory: `both` proves the two branches.
-- - What an access or a list of them returns is equal but for memory (`perform_alike`, `all_alike`): the second result
--   is replaced by the first with another memory, and the rest of the step goes on from there.
use Rattle.std.proofs.Common.{◌≡◌, ℕ, ◌%◌, Bool, true, List, [], ◌++◌, Option, Some, None, Result, Ok, Err, refl, sym}
use Rattle.std.proofs.Common.{ap, subst, ◌∙◌, arith}
use Rattle.instruction_set.specs.declared.instruction.CodedInstruction.{CodedInstruction}
use Rattle.instruction_set.specs.declared.instruction.Decoded.{Decoded}
use Rattle.instruction_set.specs.declared.instruction.Decoded.TheVariants as decoded
use Rattle.instruction_set.specs.declared.instruction.InstructionLength.{InstructionLength}
use Rattle.instruction_set.specs.declared.instruction.InstructionLength.TheVariants.{Short, Long}
use Rattle.instruction_set.specs.Arithmetic.{condition_passed}
use Rattle.instruction_set.specs.Decoding.{is_long}
use Rattle.instruction_set.specs.Registers.{Registers, is_privileged}
use Rattle.instruction_set.specs.Words.{word_sum}
use Rattle.platform.specs.declared.access.Request.{Request}
use Rattle.reference.specs.declared.ending.Ending.{Ending}
use Rattle.reference.specs.declared.ending.Ending.TheVariants as ending
use Rattle.platform.specs.declared.event.Event.{Event}
use Rattle.platform.specs.declared.exception.Escalation.{Escalation}
use Rattle.platform.specs.declared.exception.Escalation.TheVariants.{Itself, HardFault, Lockup}
use Rattle.platform.specs.declared.exception.TheConstants.{SV_CALL, HARD_FAULT}
use Rattle.reference.specs.declared.failure.Failure.{Failure}
use Rattle.reference.specs.declared.failure.Failure.TheVariants as failure
use Rattle.reference.specs.declared.failure.UsageFault.{UsageFault}
use Rattle.reference.specs.declared.failure.UsageFault.TheVariants.{UndefinedInstruction, NoCoprocessor, InvalidState}
use Rattle.platform.specs.declared.fault_status.FaultEffect.{FaultEffect}
use Rattle.reference.specs.Accesses.{ListResult, perform, perform_all, access_lines, value_of}
use Rattle.reference.specs.Faults.{fault_of, usage_fault_of, recorded, with_status, pended, escalated, faulted, failed}
use Rattle.reference.specs.Faults.{supervisor_called_by, supervisor_called}
use Rattle.platform.specs.Memory.{Memory}
use Rattle.reference.specs.LoadStore.{fetch_at}
use Rattle.reference.specs.Operations.{result_of}
use Rattle.platform.specs.Outcomes.{Outcome}
use Rattle.platform.specs.Priorities.{Nvic, is_below_zero}
use Rattle.reference.specs.ProgramCounter.{Finished, advances}
use Rattle.platform.specs.Regions.{Mpu, IsSound}
use Rattle.platform.specs.SpecialRegisters.{write_special}
use Rattle.reference.specs.State.{Bus, State, Stepped, ticked, with_bus, with_system, with_registers, with_exceptions}
use Rattle.platform.specs.Status.{Status}
use Rattle.reference.specs.Step.{ended, finished, after_accesses, performed_all, planned, undefined_instruction}
use Rattle.reference.specs.Step.{executed}
use Rattle.reference.specs.Step.{fetched_second, with_second, fetched_first, instruction, step, traps}
use Rattle.platform.specs.System.{System}
use Rattle.state_laws.proofs.Effects.{IsEndIn, Leaves, register_kept, advances_kept, result_kept}
use Rattle.task_laws.specs.Sight.{with_memory}
use Rattle.task_laws.specs.TaskLaw.{IsOfTask, AreOfTask, AskOfTask}
use Rattle.task_laws.proofs.Accesses.{Alike, SameOutcome, SameList, outcome_with, list_with, with_memory_of}
use Rattle.task_laws.proofs.Accesses.{perform_alike, all_alike}
use Rattle.task_laws.proofs.Instructions.{IsInstruction, awoken, step_is}
use Rattle.physical_memory.proofs.Blocks.{both}
use Rattle.task_laws.proofs.Priorities.{Decides, pending_alike, tick_decides}
use Rattle.task_laws.proofs.Requests.{plan_asked, fetch_of}
use Rattle.task_laws.proofs.Unprivileged.{IsUnprivileged, writes_kept, not_handler, unprivileged_is, special_kept}
use Rattle.task_laws.proofs.Unprivileged.{mask_kept, state_kept}

-- the next step is an Instruction step whatever memory holds
pub instruction_there : (s : State) (k : Memory) → IsInstruction s → IsInstruction (with_memory s k)
instruction_there s k i = record {
  running = i.running;
  early = i.early;
  outside = i.outside;
  unpreempted = i.unpreempted;
  awake = i.awake;
}

-- the end of a step with another memory
abbrev step_with : Stepped → Memory → Stepped
step_with p k = record p { state = with_memory p.state k }

-- the rest of a step after the fetch of the first halfword, and of the second one
abbrev rest_of_first : Request → State → Outcome Bus → Stepped
rest_of_first q s o =
    fetched_first (with_bus s o.after) ([] ++ access_lines s.bus.system.time.ticks q o.performed)
    (value_of q o.performed)

abbrev rest_of_second : List Event → ℕ → Request → State → Outcome Bus → Stepped
rest_of_second events hw1 q s o =
    fetched_second (with_bus s o.after) (events ++ access_lines s.bus.system.time.ticks q o.performed) hw1
    (value_of q o.performed)

-- m and z are what the decision depends on, and `old` is the memory before the step
module _ (m : Mpu) (z : Bool) (old : Memory) where
  -- ---- what each phase takes and leaves

  -- a bus, registers and an entry phase in which unprivileged code runs, and the memory k, which looks the same to it
  pub record Inside (b : Bus) (r : Registers) (entry : Option ℕ) (k : Memory) : Type 0 where
    pub sound : IsSound m
    pub alike : Alike m z old b k
    pub thread : IsUnprivileged r
    pub outside : entry ≡ None

  -- a state that has them
  abbrev pub Ready : State → Memory → Type 0
  Ready s k = Inside s.bus s.registers s.entry k

  -- the ends of the two steps: they differ only in memory, and the first state is ready again
  pub record SameStep (one two : Stepped) : Type 0 where
    pub rest : two ≡ step_with one two.state.bus.memory
    pub ready : Ready one.state two.state.bus.memory

  -- the rest of a step, from each state that is ready, ends so
  abbrev EndsSame : (State → Stepped) → Type 0
  EndsSame rest = (s : State) (k : Memory) → Ready s k → SameStep (rest s) (rest (with_memory s k))

  -- a state that is ready stays so with other registers, another bus, ..
  with_new_registers : (s : State) (k : Memory) (r : Registers) → IsUnprivileged r → Ready s k →
      Ready (with_registers s r) k
  with_new_registers s k new thread r =
      record { sound = r.sound; alike = r.alike; thread = thread; outside = r.outside }

  with_new_bus : (s : State) (k new : Memory) (b : Bus) → Alike m z old b new → Ready s k → Ready (with_bus s b) new
  with_new_bus s k new b alike r =
      record { sound = r.sound; alike = alike; thread = r.thread; outside = r.outside }

  with_new_system : (s : State) (k : Memory) (y : System) → Decides m z y → Ready s k → Ready (with_system s y) k
  with_new_system s k y decides r =
      with_new_bus s k k (with_system s y).bus
      (record { looks = r.alike.looks; kept = r.alike.kept; decides = decides }) r

  -- the fault status isn't what the decision depends on
  with_new_status : (s : State) (k : Memory) (status : Status) → Ready s k → Ready (with_status s status) k
  with_new_status s k status r =
      with_new_system s k (with_status s status).bus.system
      (record { mpu = r.alike.decides.mpu; below_zero = r.alike.decides.below_zero }) r

  with_new_nvic : (s : State) (k : Memory) (n : Nvic) → is_below_zero n ≡ is_below_zero s.bus.system.nvic → Ready s k →
      Ready (with_exceptions s n) k
  with_new_nvic s k n e r =
      with_new_system s k (with_exceptions s n).bus.system
      (record { mpu = r.alike.decides.mpu; below_zero = e ∙ r.alike.decides.below_zero }) r

  -- ---- faults

  -- an exception becomes pending
  pended_ready : (s : State) (k : Memory) (x : ℕ) → Ready s k → Ready (pended s x) k
  pended_ready s k x r = with_new_nvic s k _ (pending_alike s.bus.system.nvic x true) r

  escalated_alike : (events : List Event) (x : ℕ) (e : Escalation) → EndsSame (λ s. escalated s events x e)
  escalated_alike events x Itself s k r = record { rest = refl; ready = pended_ready s k x r }
  escalated_alike events x HardFault s k r =
      record { rest = refl; ready = pended_ready (with_status s _) k HARD_FAULT (with_new_status s k _ r) }
  escalated_alike events x Lockup s k r = record { rest = refl; ready = r }

  faulted_alike : (events : List Event) (f : FaultEffect) → EndsSame (λ s. faulted s events f)
  unfolding faulted
  faulted_alike events f s k r =
      escalated_alike events f.exception _ (recorded s f) k (with_new_status s k _ r)

  failed_alike : (events : List Event) (why : Failure) → EndsSame (λ s. failed s events why)
  failed_alike events (failure.Refused access cause) s k r = faulted_alike events (fault_of access cause) s k r
  failed_alike events (failure.Usage fault) s k r = faulted_alike events (usage_fault_of fault) s k r
  failed_alike events (failure.Stop why) s k r = record { rest = refl; ready = r }

  -- ---- the end of an instruction

  called_alike : (events : List Event) (e : Escalation) → EndsSame (λ s. supervisor_called_by s events e)
  called_alike events Itself s k r = record {
    rest = refl;
    ready =
        pended_ready (with_registers s (advances Short s.registers).registers) k SV_CALL
        (with_new_registers s k _ (advances_kept writes_kept Short s.registers r.thread).kept r);
  }
  called_alike events HardFault s k r = escalated_alike events SV_CALL HardFault s k r
  called_alike events Lockup s k r = escalated_alike events SV_CALL Lockup s k r

  supervisor_alike : (events : List Event) → EndsSame (λ s. supervisor_called s events)
  unfolding supervisor_called
  supervisor_alike events s k r = called_alike events _ s k r

  ended_alike : (events : List Event) (end : Ending) (s : State) (k : Memory) → IsEndIn s.registers end → Ready s k →
      SameStep (ended s events end) (ended (with_memory s k) events end)
  ended_alike events ending.Next s k e r = record { rest = refl; ready = r }
  ended_alike events (ending.ReadSpecial o) s k e r = record {
    rest = refl;
    ready = with_new_registers s k _ (register_kept writes_kept s.registers o.destination _ r.thread) r;
  }
  ended_alike events (ending.WriteSpecial special value) s k e r = record {
    rest = refl;
    ready =
        with_new_nvic (with_registers s (write_special s.registers special value)) k _
        (ap is_below_zero (mask_kept s.registers s.bus.system.nvic special value r.thread))
        (with_new_registers s k _ (special_kept s.registers special value r.thread) r);
  }
  ended_alike events (ending.ChangeState o) s k e r = record {
    rest = refl;
    ready = with_new_nvic s k _ (ap is_below_zero (state_kept s.registers s.bus.system.nvic o r.thread)) r;
  }
  ended_alike events ending.Sleep s k e r = record { rest = refl; ready = r }
  ended_alike events (ending.SupervisorCall number) s k e r = supervisor_alike events s k r
  ended_alike events (ending.Breakpoint number) s k e r = record { rest = refl; ready = r }
  ended_alike events (ending.ExceptionReturn value) s k e r = absurd (not_handler s.registers r.thread e)

  finished_alike : (events : List Event) (f : Finished) → Leaves IsUnprivileged f → EndsSame (λ s. finished s events f)
  finished_alike events f leaves s k r =
      ended_alike events f.ending (with_registers s f.registers) k leaves.ending
      (with_new_registers s k f.registers leaves.kept r)

  -- ---- its accesses

  -- `all` is what its accesses left, and the other run has the memory `new` after them
  served_alike : (events : List Event) (i : CodedInstruction) (all : ListResult) (end : Option Failure) (s : State)
      (k new : Memory) → Ready s k → Alike m z old all.bus new →
      SameStep (after_accesses s events i all end) (after_accesses (with_memory s k) events i (list_with all new) end)
  served_alike events i all None s k new r alike =
      finished_alike (events ++ all.events) (result_of i s.registers all.values)
      (result_kept writes_kept i s.registers all.values r.thread) (with_bus s all.bus) new
      (with_new_bus s k new all.bus alike r)
  served_alike events i all (Some why) s k new r alike =
      failed_alike (events ++ all.events) why (with_bus s all.bus) new (with_new_bus s k new all.bus alike r)

  performed_alike : (events : List Event) (i : CodedInstruction) (qs : List Request) → AreOfTask qs →
      EndsSame (λ s. performed_all s events i qs)
  unfolding performed_all
  performed_alike events i qs of s k r =
      let x = s.registers.exception in
      let tick = s.bus.system.time.ticks in
      let one = perform_all x tick s.bus qs in
      let two = perform_all x tick (with_memory_of s.bus k) qs in
      let both : SameList m z old one two = all_alike m z old x tick s.bus k qs r.sound of r.alike in
      subst
      (λ (all : ListResult). SameStep (after_accesses s events i one one.failure)
      (after_accesses (with_memory s k) events i all all.failure))
      (sym both.rest) (served_alike events i one one.failure s k two.bus.memory r both.alike)

  planned_alike : (events : List Event) (i : CodedInstruction) (asked : Result (List Request) Failure) →
      AskOfTask asked → EndsSame (λ s. planned s events i asked)
  planned_alike events i (Ok qs) of = performed_alike events i qs of
  planned_alike events i (Err why) of = failed_alike events why

  -- ---- the decoded instruction

  meaningless_alike : (events : List Event) (length : InstructionLength) (fault : UsageFault) →
      EndsSame (λ s. undefined_instruction s events length fault)
  meaningless_alike events length fault s k r =
      both SameStep (condition_passed s.registers.it_state s.registers.flags) _ _ _ _
      (λ passed. failed_alike events (failure.Usage fault) s k r)
      (λ skipped. finished_alike events (advances length s.registers)
      (advances_kept writes_kept length s.registers r.thread) s k r)

  executed_alike : (events : List Event) (length : InstructionLength) (d : Decoded) →
      EndsSame (λ s. executed s events length d)
  executed_alike events length (decoded.Instr i) s k r =
      planned_alike events i _ (plan_asked s.registers (unprivileged_is s.registers r.thread) (traps s) i) s k r
  executed_alike events length decoded.Undefined s k r = meaningless_alike events length UndefinedInstruction s k r
  executed_alike events length decoded.NoCoprocessor s k r = meaningless_alike events length NoCoprocessor s k r
  executed_alike events length (decoded.Unpredictable place why) s k r = record { rest = refl; ready = r }

  -- ---- the fetches

  -- an access, and the rest of the step after it
  after_access : (s : State) (k : Memory) (q : Request) (rest : State → Outcome Bus → Stepped) → IsOfTask q →
      Ready s k → ((one : Outcome Bus) (new : Memory) → Ready (with_bus s one.after) new →
      SameStep (rest s one) (rest (with_memory s k) (outcome_with one new))) →
      SameStep (rest s (perform s.registers.exception s.bus q))
      (rest (with_memory s k) (perform s.registers.exception (with_memory_of s.bus k) q))
  after_access s k q rest of r others =
      let x = s.registers.exception in
      let one = perform x s.bus q in
      let two = perform x (with_memory_of s.bus k) q in
      let both : SameOutcome m z old one two = perform_alike m z old x s.bus k q r.sound of r.alike in
      subst (λ (o : Outcome Bus). SameStep (rest s one) (rest (with_memory s k) o)) (sym both.rest)
      (others one two.after.memory (with_new_bus s k two.after.memory one.after both.alike r))

  second_alike : (events : List Event) (hw1 : ℕ) (answer : Result ℕ Failure) →
      EndsSame (λ s. fetched_second s events hw1 answer)
  second_alike events hw1 (Ok hw2) = executed_alike events Long _
  second_alike events hw1 (Err why) = failed_alike events why

  with_second_alike : (events : List Event) (hw1 : ℕ) (s : State) (k : Memory) → s.registers.pc % 2 ≡ 0 → Ready s k →
      SameStep (with_second s events hw1) (with_second (with_memory s k) events hw1)
  unfolding with_second
  with_second_alike events hw1 s k even r =
      let q = fetch_at (word_sum s.registers.pc 2) (is_privileged s.registers) in
      let next : word_sum s.registers.pc 2 % 2 ≡ 0 = omega arith in
      both SameStep (is_long hw1) _ _ _ _
      (λ long. after_access s k q (rest_of_second events hw1 q)
      (fetch_of s.registers (unprivileged_is s.registers r.thread) _ next) r
      (λ one. second_alike (events ++ access_lines s.bus.system.time.ticks q one.performed) hw1
      (value_of q one.performed) (with_bus s one.after)))
      (λ short. executed_alike events Short _ s k r)

  first_alike : (events : List Event) (answer : Result ℕ Failure) (s : State) (k : Memory) → s.registers.pc % 2 ≡ 0 →
      Ready s k → SameStep (fetched_first s events answer) (fetched_first (with_memory s k) events answer)
  first_alike events (Ok hw1) s k even r = with_second_alike events hw1 s k even r
  first_alike events (Err why) s k even r = failed_alike events why s k r

  instruction_alike : (s : State) (k : Memory) → s.registers.pc % 2 ≡ 0 → Ready s k →
      SameStep (instruction s) (instruction (with_memory s k))
  unfolding instruction
  instruction_alike s k even r =
      let q = fetch_at s.registers.pc (is_privileged s.registers) in
      both SameStep s.registers.thumb _ _ _ _
      (λ thumb. after_access s k q (rest_of_first q)
      (fetch_of s.registers (unprivileged_is s.registers r.thread) _ even) r
      (λ one new. first_alike ([] ++ access_lines s.bus.system.time.ticks q one.performed) (value_of q one.performed)
      (with_bus s one.after) new even))
      (λ arm. failed_alike [] (failure.Usage InvalidState) s k r)

  -- ---- the step

  -- the tick, and the wake-up
  awoken_ready : (s : State) (k : Memory) → Ready s k → Ready (awoken s) k
  awoken_ready s k r =
      with_new_system s k (ticked s).bus.system (tick_decides m z s.bus.system r.alike.decides) r

  -- an Instruction step
  pub step_alike : (s : State) (k : Memory) → s.registers.pc % 2 ≡ 0 → IsInstruction s → Ready s k →
      SameStep (step s) (step (with_memory s k))
  step_alike s k even i r =
      rw (step_is s i, step_is (with_memory s k) (instruction_there s k i))
      (instruction_alike (awoken s) k even (awoken_ready s k r))
