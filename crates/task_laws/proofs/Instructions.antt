-- An Instruction step, by the parts of a state on which the kind of the next step depends.
use Rattle.std.proofs.Common.{◌≡◌, ℕ, nat_le, Bool, true, false, if◌then◌else◌, [], Option, Some, None, refl, sym, ap}
use Rattle.std.proofs.Common.{◌∙◌}
use Rattle.platform.specs.declared.stop.Unsupported.TheVariants.{ClockEnd}
use Rattle.platform.specs.declared.stop.Stop.{Stop}
use Rattle.platform.specs.declared.stop.Stop.TheVariants as stop
use Rattle.platform.specs.Priorities.{candidate}
use Rattle.reference.specs.State.{State, stopped, ticked}
use Rattle.reference.specs.Step.{completed, instruction, phase, sleeps_on, step, unless_stopped}
use Rattle.platform.specs.Time.{last_tick}
use Rattle.task_laws.specs.declared.next_step.StepKind.{StepKind}
use Rattle.task_laws.specs.declared.next_step.StepKind.TheVariants as kind
use Rattle.task_laws.specs.NextStep.{kind_after, kind_of_running, kind_unless_stopped, next_kind_of, is_instruction}
use Rattle.task_laws.specs.NextStep.{is_instruction_next}

-- the next step is an Instruction step: the machine hasn't stopped, the clock isn't at its end, it isn't in the entry
-- phase, and after the tick it has no candidate and doesn't sleep on
pub record IsInstruction (s : State) : Type 0 where
  pub running : s.stop ≡ None
  pub early : nat_le last_tick s.bus.system.time.ticks ≡ false
  pub outside : s.entry ≡ None
  pub unpreempted : candidate (ticked s).bus.system.nvic ≡ None
  pub awake : sleeps_on (ticked s) ≡ false

-- the kind of the next step, by the stop, whether the clock is at its end, the entry phase, the candidate, and whether
-- the machine sleeps on
abbrev kind_by : Option Stop → Bool → Option ℕ → Option ℕ → Bool → Option StepKind
kind_by (Some why) late entry x sleeps = None
kind_by None true entry x sleeps = None
kind_by None false (Some e) x sleeps = Some kind.Vector
kind_by None false None (Some x) sleeps = Some kind.Stack
kind_by None false None None true = Some kind.Sleep
kind_by None false None None false = Some kind.Instruction

after_by : (s : State) (entry x : Option ℕ) → Some (kind_after s entry x) ≡ kind_by None false entry x (sleeps_on s)
after_by s (Some e) x = refl
after_by s None (Some x) = refl
after_by s None None = split (sleeps_on s)
  where
    split : (b : Bool) → Some (if b then kind.Sleep else kind.Instruction) ≡ kind_by None false None None b
    split true = refl
    split false = refl

running_by : (s : State) (late : Bool) → nat_le last_tick s.bus.system.time.ticks ≡ late →
    kind_of_running s ≡ kind_by None late s.entry (candidate (ticked s).bus.system.nvic) (sleeps_on (ticked s))
running_by s true e = rw e refl
running_by s false e = rw e (after_by (ticked s) s.entry (candidate (ticked s).bus.system.nvic))

unless_by : (s : State) (why : Option Stop) →
    kind_unless_stopped s why ≡ kind_by why (nat_le last_tick s.bus.system.time.ticks) s.entry
    (candidate (ticked s).bus.system.nvic) (sleeps_on (ticked s))
unless_by s (Some why) = refl
unless_by s None = running_by s _ refl

-- the next step is of the kind that the parts determine
kind_is : (s : State) (why : Option Stop) (late : Bool) (entry x : Option ℕ) (sleeps : Bool) → s.stop ≡ why →
    nat_le last_tick s.bus.system.time.ticks ≡ late → s.entry ≡ entry → candidate (ticked s).bus.system.nvic ≡ x →
    sleeps_on (ticked s) ≡ sleeps → next_kind_of s ≡ kind_by why late entry x sleeps
kind_is s why late entry x sleeps a b c d e = cc (unless_by s s.stop)

by_parts : (s : State) (why : Option Stop) (late : Bool) (entry x : Option ℕ) (sleeps : Bool) → s.stop ≡ why →
    nat_le last_tick s.bus.system.time.ticks ≡ late → s.entry ≡ entry → candidate (ticked s).bus.system.nvic ≡ x →
    sleeps_on (ticked s) ≡ sleeps → is_instruction (kind_by why late entry x sleeps) ≡ true → IsInstruction s
by_parts s (Some why) late entry x sleeps a b c d e h = absurd cc
by_parts s None true entry x sleeps a b c d e h = absurd cc
by_parts s None false (Some y) x sleeps a b c d e h = absurd cc
by_parts s None false None (Some x) sleeps a b c d e h = absurd cc
by_parts s None false None None true a b c d e h = absurd cc
by_parts s None false None None false a b c d e h =
    record { running = a; early = b; outside = c; unpreempted = d; awake = e }

-- where `is_instruction_next` holds, the next step is one
pub instruction_is : (s : State) → is_instruction_next s ≡ true → IsInstruction s
instruction_is s e =
    by_parts s s.stop _ s.entry _ _ refl refl refl refl refl (sym (ap is_instruction (unless_by s s.stop)) ∙ e)

-- where the next step is one, `is_instruction_next` holds
pub instruction_says : (s : State) → IsInstruction s → is_instruction_next s ≡ true
instruction_says s i =
    ap is_instruction (kind_is s None false None None false i.running i.early i.outside i.unpreempted i.awake)

-- ---- what it is

-- the state after the tick, awake
abbrev pub awoken : State → State
awoken s = record (ticked s) { asleep = false }

phase_is : (s : State) → sleeps_on s ≡ false → phase s None None ≡ instruction (record s { asleep = false })
unfolding phase
phase_is s e = ap (λ (b : Bool). if b then completed s [] else instruction (record s { asleep = false })) e

-- an Instruction step is `instruction` after the tick
pub step_is : (s : State) → IsInstruction s → step s ≡ instruction (awoken s)
unfolding step
step_is s i =
    let next = candidate (ticked s).bus.system.nvic in
    ap (λ (why : Option Stop). unless_stopped s why) i.running
    ∙ ap
    (λ (late : Bool). if late then stopped s [] (stop.OutOfProfile ClockEnd) else phase (ticked s) s.entry next) i.early
    ∙ ap (λ (e : Option ℕ). phase (ticked s) e next) i.outside
    ∙ ap (λ (x : Option ℕ). phase (ticked s) None x) i.unpreempted
    ∙ phase_is (ticked s) i.awake
