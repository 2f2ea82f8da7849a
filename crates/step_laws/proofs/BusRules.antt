-- A law about the bus alone: if four changes keep a property of the bus and the events so far, a step keeps it.
--
-- - `BusRules B` has a field for each of the four. Registers, sleep, the entry phase and a stop aren't in the bus.
-- - An instance proves these, and has `bus_keeps`, where the property holds before and after the tick. A failure needs
--   nothing further: it sets status bits, makes an exception pending and adds its line.
use Rattle.std.proofs.Common.{◌≡◌, ℕ, nat_le, false, ◌==◌, List, [], ◌∷◌, ◌++◌, Option, None, refl}
use Rattle.std.proofs.lemmas.Bool.{cond_both}
use Rattle.platform.specs.declared.access.Request.{Request}
use Rattle.platform.specs.declared.event.Event.{Event}
use Rattle.platform.specs.declared.exception.Escalation.{Escalation}
use Rattle.platform.specs.declared.exception.Escalation.TheVariants.{Itself, HardFault, Lockup}
use Rattle.platform.specs.declared.exception.TheConstants.{HARD_FAULT, NMI}
use Rattle.platform.specs.declared.fault_status.FaultEffect.{FaultEffect}
use Rattle.platform.specs.declared.fault_status.TheConstants.{FORCED}
use Rattle.platform.specs.Events.{access_of}
use Rattle.platform.specs.Priorities.{Nvic, is_fixed}
use Rattle.platform.specs.Status.{Status, with_fault_bits}
use Rattle.platform.specs.System.{System, deactivated, exception_ended, is_asserted, with_nvic}
use Rattle.platform.specs.Time.{last_tick}
use Rattle.reference.specs.declared.failure.Failure.{Failure}
use Rattle.reference.specs.declared.failure.Failure.TheVariants as failure
use Rattle.reference.specs.Accesses.{access_lines, perform}
use Rattle.reference.specs.ExceptionEntry.{vector_refused}
use Rattle.reference.specs.Faults.{escalated, failed, fault_line, fault_of, faulted, recorded, usage_fault_of}
use Rattle.reference.specs.Faults.{vector_fault, with_status}
use Rattle.reference.specs.State.{Bus, State, Stepped, ticked}
use Rattle.reference.specs.Step.{step}
use Rattle.step_laws.proofs.StepRules.{StepRules, made_keeps, step_keeps}

-- the bus with another System Control Space
abbrev pub with_control : Bus → System → Bus
with_control b t = record b { system = t }

-- each of these changes keeps what holds of the bus and of the events so far: an access, a change of the exceptions or
-- of the status registers, and a line of no access
pub record BusRules (B : Bus → List Event → Type 0) : Type 0 where
  pub access : (x tick : ℕ) (b : Bus) (events : List Event) (q : Request) → B b events
      → B (perform x b q).after (events ++ access_lines tick q (perform x b q).performed)
  pub nvic : (b : Bus) (events : List Event) (n : Nvic) → B b events → B (with_control b (with_nvic b.system n)) events
  pub status : (b : Bus) (events : List Event) (st : Status) → B b events
      → B (with_control b (record b.system { status = st })) events
  pub line : (b : Bus) (events : List Event) (e : Event) → access_of e.what ≡ None → B b events
      → B b (events ++ e ∷ [])

module _ {B : Bus → List Event → Type 0} (k : BusRules B) where
  abbrev Inside : Option Failure → State → List Event → Type 0
  Inside end s events = B s.bus events

  abbrev AtEnd : Stepped → Type 0
  AtEnd r = B r.state.bus r.events

  -- ---- failures

  -- the line of a fault, and its exception or HardFault becomes pending
  pended_keeps : (s : State) (events : List Event) (x : ℕ) (n : Nvic) → B s.bus events
      → B (with_control s.bus (with_nvic s.bus.system n)) (events ++ fault_line s x ∷ [])
  pended_keeps s events x n h = k.nvic s.bus _ n (k.line s.bus events (fault_line s x) refl h)

  escalated_keeps : (s : State) (events : List Event) (x : ℕ) (e : Escalation) → B s.bus events
      → AtEnd (escalated s events x e)
  escalated_keeps s events x Itself h = pended_keeps s events x _ h
  escalated_keeps s events x HardFault h =
      let st = with_fault_bits s.bus.system.status 0 FORCED in
      pended_keeps (with_status s st) events HARD_FAULT _ (k.status s.bus events st h)
  escalated_keeps s events x Lockup h = k.line s.bus events (fault_line s 0) refl h

  faulted_keeps : (s : State) (events : List Event) (f : FaultEffect) → B s.bus events → AtEnd (faulted s events f)
  unfolding faulted
  faulted_keeps s events f h =
      escalated_keeps (recorded s f) events f.exception _
      (k.status s.bus events (recorded s f).bus.system.status h)

  failed_keeps : (why : Failure) (s : State) (events : List Event) (entry : Option ℕ) → B s.bus events
      → AtEnd (failed (record s { entry = entry }) events why)
  failed_keeps (failure.Refused access cause) s events entry h =
      faulted_keeps (record s { entry = entry }) events (fault_of access cause) h
  failed_keeps (failure.Usage fault) s events entry h =
      faulted_keeps (record s { entry = entry }) events (usage_fault_of fault) h
  failed_keeps (failure.Stop why) s events entry h = h

  refused_keeps : (s : State) (events : List Event) (x : ℕ) → B s.bus events → AtEnd (vector_refused s events x)
  refused_keeps s events x h =
      let st = (recorded s vector_fault).bus.system.status in
      let after = k.status s.bus events st h in
      cond_both (is_fixed x) _ _ AtEnd
      (λ fixed. k.line (with_status s st).bus events (fault_line (with_status s st) 0) refl after)
      (λ other. pended_keeps (with_status s st) events HARD_FAULT _ after)

  -- ---- the end of a handler

  deactivated_keeps : (b : Bus) (events : List Event) (x : ℕ) → B b events
      → B (with_control b (deactivated b.system x)) events
  unfolding deactivated
  deactivated_keeps b events x h =
      cond_both (is_asserted b.system x) _ _ (λ t. B (with_control b t) events) (λ e. k.nvic b events _ h)
      (λ e. k.nvic b events _ h)

  ended_keeps : (b : Bus) (events : List Event) (x : ℕ) → B b events
      → B (with_control b (exception_ended b.system x)) events
  ended_keeps b events x h =
      let idle = deactivated_keeps b events x h in
      cond_both (x == NMI) _ _ (λ t. B (with_control b t) events) (λ e. idle)
      (λ e. k.nvic (with_control b (deactivated b.system x)) events _ idle)

  -- ---- the step

  bus_rules : StepRules Inside AtEnd
  bus_rules = record {
    ends = λ s events h. h;
    stops = λ s events why h. h;
    fails = failed_keeps;
    failing = λ why s events h. h;
    access = λ tick s events q fits h. k.access s.registers.exception tick s.bus events q h;
    line = λ s events e other h. k.line s.bus events e other h;
    asleep = λ s events on h. h;
    pending = λ s events x h. k.nvic s.bus events _ h;
    status = λ s events st h. k.status s.bus events st h;
    result = λ s events i values h. h;
    moved = λ s events length h. h;
    special_read = λ s events o h. h;
    special_written = λ s events special value out h. k.nvic s.bus events _ h;
    state_changed = λ s events o out h. k.nvic s.bus events _ h;
    entry = λ s events e x next h. h;
    stacked = λ end s events h. h;
    refused = λ s events x access cause kind h. refused_keeps s events x h;
    handler = λ n s events x e vector next h. k.nvic s.bus events _ h;
    deactivated = λ s events out h. ended_keeps s.bus events s.registers.exception h;
    unstacked = λ s events e frame even h. h;
  }

  -- a step keeps it
  pub bus_keeps : (s : State) → B s.bus [] → B (ticked s).bus [] → B (step s).state.bus (step s).events
  bus_keeps s h after = step_keeps bus_rules s h (λ early. after)

  -- a step that is made keeps what holds after the tick
  pub bus_made_keeps : (s : State) → s.stop ≡ None → nat_le last_tick s.bus.system.time.ticks ≡ false
      → B (ticked s).bus [] → B (step s).state.bus (step s).events
  bus_made_keeps s goes early after = made_keeps bus_rules s goes early after
