-- The laws of tasks: of one access, of one step, of n steps, of a run, and of two runs.
use Rattle.std.specs.Prelude.{◌≡◌, ◌⊎◌, ℕ, ◌%◌, ◌≤◌, false, true, ◌||◌, is_some, List, [], ◌∷◌, Result, Ok, Err}
use Rattle.instruction_set.specs.declared.instruction.CodedInstruction.{CodedInstruction}
use Rattle.instruction_set.specs.Registers.{Registers, is_privileged}
use Rattle.instruction_set.specs.Sizes.{bytes_in}
use Rattle.platform.specs.declared.access.Kind.{Kind}
use Rattle.platform.specs.declared.access.Kind.TheVariants.{Fetch, Load, Store, Probe}
use Rattle.platform.specs.declared.access.Request.{Request}
use Rattle.reference.specs.declared.failure.Failure.{Failure}
use Rattle.reference.specs.declared.failure.Traps.{Traps}
use Rattle.reference.specs.Accesses.{perform}
use Rattle.reference.specs.Invariant.{Invariant}
use Rattle.reference.specs.LoadStore.{fetch_at}
use Rattle.reference.specs.Operations.{plan}
use Rattle.reference.specs.Run.{after, events_of}
use Rattle.reference.specs.State.{State, with_bus}
use Rattle.reference.specs.Step.{step}
use Rattle.task_laws.specs.declared.task.TaskEnd.{TaskEnd}
use Rattle.task_laws.specs.NextStep.{is_instruction_next}
use Rattle.task_laws.specs.Sight.{KeepsDenied, Same}
use Rattle.task_laws.specs.Tasks.{AreInstructions, EndsTask, is_task, runs_unprivileged}

-- ---- one access

-- the kinds of access that an instruction makes
abbrev pub IsTaskKind : Kind → Type 0
IsTaskKind kind = (kind ≡ Fetch) ⊎ ((kind ≡ Load) ⊎ ((kind ≡ Store) ⊎ (kind ≡ Probe)))

-- a request as unprivileged code makes it: a fetch, a load, a store or a probe, at a multiple of its size
pub record IsOfTask (q : Request) : Type 0 where
  pub unprivileged : q.access.privileged ≡ false
  pub kind : IsTaskKind q.access.kind
  pub aligned : q.access.address % bytes_in q.access.size ≡ 0

abbrev pub AreOfTask : List Request → Type 0
AreOfTask [] = Unit {0}
AreOfTask (q ∷ qs) = IsOfTask q × AreOfTask qs

-- the accesses that an instruction makes, if it makes any, are such requests
abbrev pub AskOfTask : Result (List Request) Failure → Type 0
AskOfTask (Ok requests) = AreOfTask requests
AskOfTask (Err why) = Unit {0}

-- in unprivileged code each access that an instruction makes is such a request, and so is a fetch from an even address
abbrev pub RequestsLaw : Registers → Type 0
RequestsLaw r =
    is_privileged r ≡ false →
    ((traps : Traps) (i : CodedInstruction) → AskOfTask (plan traps i r))
    × ((address : ℕ) → address % 2 ≡ 0 → IsOfTask (fetch_at address (is_privileged r)))

-- the state after an access
abbrev pub performed_in : State → Request → State
performed_in s q = with_bus s (perform s.registers.exception s.bus q).after

-- the access has the same answer in both states, they look the same after it, and it changes no byte that a task may
-- not store
pub record AccessAlike (s t : State) (q : Request) : Type 0 where
  pub answer : (perform t.registers.exception t.bus q).performed ≡ (perform s.registers.exception s.bus q).performed
  pub same : Same (performed_in s q) (performed_in t q)
  pub kept : KeepsDenied s s.bus.memory (performed_in s q).bus.memory

abbrev pub AccessLaw : State → State → Request → Type 0
AccessLaw s t q = Invariant s → Same s t → IsOfTask q → AccessAlike s t q

-- ---- one step

-- the steps from both states are Instruction steps with the same events, and the states after them look the same; each
-- changes no byte that a task may not store, and leaves a task
pub record StepAlike (s t : State) : Type 0 where
  pub instruction : is_instruction_next t ≡ true
  pub events : (step t).events ≡ (step s).events
  pub same : Same (step s).state (step t).state
  pub kept_here : KeepsDenied s s.bus.memory (step s).state.bus.memory
  pub kept_there : KeepsDenied t t.bus.memory (step t).state.bus.memory
  pub task : is_task (step s).state ≡ true

abbrev pub StepLaw : State → State → Type 0
StepLaw s t = Invariant s → is_task s ≡ true → Same s t → is_instruction_next s ≡ true → StepAlike s t

-- ---- n steps

-- n steps from both states are Instruction steps with the same events, and the states after them look the same; in each
-- run no byte differs from before that a task may not store
pub record RunAlike (n : ℕ) (s t : State) : Type 0 where
  pub instructions : AreInstructions n t
  pub events : events_of n t ≡ events_of n s
  pub same : Same (after n s) (after n t)
  pub kept_here : KeepsDenied s s.bus.memory (after n s).bus.memory
  pub kept_there : KeepsDenied t t.bus.memory (after n t).bus.memory

abbrev pub RunLaw : State → State → ℕ → Type 0
RunLaw s t n = Invariant s → is_task s ≡ true → Same s t → AreInstructions n s → RunAlike n s t

-- likewise for all unprivileged code in Thread mode, outside the entry phase, whether or not the regions decide
abbrev pub UnprivilegedRunLaw : State → State → ℕ → Type 0
UnprivilegedRunLaw s t n = Invariant s → runs_unprivileged s ≡ true → Same s t → AreInstructions n s → RunAlike n s t

-- ---- a run

-- a run of a task from t ends as one from s does, after as many steps
abbrev pub EndsAlike : ℕ → State → State → ℕ → TaskEnd → Type 0
EndsAlike n s t steps end =
    Invariant s → is_task s ≡ true → Same s t → AreInstructions steps s → EndsTask n steps (after steps s) end →
    AreInstructions steps t × EndsTask n steps (after steps t) end × (events_of steps t ≡ events_of steps s)

-- ---- two runs

-- a run of at most n steps from a state ended so: it made `steps` steps, each of them an Instruction step
pub record EndsAfter (n : ℕ) (s : State) (steps : ℕ) (end : TaskEnd) : Type 0 where
  pub few : steps ≤ n
  pub instructions : AreInstructions steps s
  pub ends : EndsTask n steps (after steps s) end

-- a run of at most n steps from a state ends in one way: after one number of steps, for one reason
abbrev pub EndsInOneWay : ℕ → State → ℕ → ℕ → TaskEnd → TaskEnd → Type 0
EndsInOneWay n s a b x y = EndsAfter n s a x → EndsAfter n s b y → (a ≡ b) × (x ≡ y)

-- a run of a steps from s and one of b steps from t: they made equally many steps, with equal events, and ended for the
-- same reason, and the states after them look the same
pub record EndedAlike (s t : State) (a b : ℕ) (x y : TaskEnd) : Type 0 where
  pub steps : b ≡ a
  pub end : y ≡ x
  pub events : events_of b t ≡ events_of a s
  pub same : Same (after a s) (after b t)

-- where a task runs in s, or the machine has stopped, and t looks the same: a run of at most n steps from t ended as
-- one from s did
abbrev pub TwoRunsLaw : ℕ → State → State → ℕ → ℕ → TaskEnd → TaskEnd → Type 0
TwoRunsLaw n s t a b x y =
    Invariant s → is_some s.stop || is_task s ≡ true → Same s t → EndsAfter n s a x → EndsAfter n t b y →
    EndedAlike s t a b x y
