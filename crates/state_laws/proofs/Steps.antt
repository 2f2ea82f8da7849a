-- A step keeps what holds of the core registers and of the bus, and leaves an entry phase that has a candidate.
--
-- - `EndsGood` is what holds inside a step and at its end: `AreGood`, and that an entry phase has a candidate.
-- - One part of a state changes at a time: `with_registers_good`, `with_bus_good`, `with_system_good`.
-- - A fault is taken, escalates or stops: `escalated_good` shows for each that what it makes pending becomes the
--   candidate (`Follows`), so the entry phase that begins has one.
-- - `good_rules` is the instance of the walk over a step (`StepRules` of `step_laws`).
use Rattle.std.proofs.Common.{◌≡◌, ◌<◌, ℕ, nat_le, true, false, is_some, List, Some, refl, sym, subst}
use Rattle.std.proofs.Common.{ap, ◌∙◌, arith}
use Rattle.std.proofs.lemmas.Bool.{cond_both}
use Rattle.std.proofs.lemmas.Bool.Decides.{nat_tests}
use Rattle.instruction_set.specs.Frames.{frame_base}
use Rattle.instruction_set.specs.Registers.{Registers, is_privileged, sp}
use Rattle.nvic.proofs.Systems.{begun_kept, cps_kept, ended_kept, msr_kept, pending_kept, with_status_kept}
use Rattle.platform.specs.declared.access.Request.{Request}
use Rattle.platform.specs.declared.event.Event.{Event}
use Rattle.platform.specs.declared.exception.Escalation.{Escalation}
use Rattle.platform.specs.declared.exception.Escalation.TheVariants.{Itself, HardFault, Lockup}
use Rattle.platform.specs.declared.exception.TheConstants.{EXCEPTIONS, HARD_FAULT}
use Rattle.platform.specs.declared.fault_status.FaultEffect.{FaultEffect}
use Rattle.platform.specs.declared.stop.Stop.{Stop}
use Rattle.platform.specs.Priorities.{Nvic, candidate, is_fixed}
use Rattle.platform.specs.Status.{Status}
use Rattle.platform.specs.System.{System, after_tick}
use Rattle.platform.specs.Time.{last_tick}
use Rattle.reference.specs.declared.failure.Failure.{Failure}
use Rattle.reference.specs.declared.failure.Failure.TheVariants as failure
use Rattle.reference.specs.ExceptionEntry.{vector_refused}
use Rattle.reference.specs.Faults.{escalated, failed, fault_of, faulted, pended, recorded, usage_fault_of, vector_fault}
use Rattle.reference.specs.Faults.{with_status}
use Rattle.reference.specs.Invariant.{HasRegisters}
use Rattle.reference.specs.State.{Bus, State, Stepped, ticked, with_bus, with_registers, with_system}
use Rattle.reference.specs.Step.{step}
use Rattle.step_laws.proofs.StepRules.{FitsEntry, StepRules, after_access, step_keeps}
use Rattle.state_laws.proofs.Accesses.{IsWholeBus, perform_whole}
use Rattle.state_laws.proofs.Candidates.{Calls, Follows, escalation_follows, pended_calls, pending_calls}
use Rattle.step_laws.proofs.Settling.{tick_nvic}
use Rattle.state_laws.proofs.Effects.{advances_kept, register_kept, result_kept, sp_kept}
use Rattle.state_laws.proofs.Entries.{IsCalled, IsFault, access_is, none, perform_leaves, some_none, usage_is}
use Rattle.state_laws.proofs.Frames.{IsBelow, candidate_small, handler_kept, popped_kept}
use Rattle.state_laws.proofs.Registers.{write_special_kept, writes_kept}
use Rattle.state_laws.proofs.Systems.{IsWhole, parts_kept, tick_whole}

-- what holds of the core registers, and of the bus of a board with these interrupts and these bits of a priority
pub record AreGood (interrupts bits : ℕ) (r : Registers) (b : Bus) : Type 0 where
  pub registers : HasRegisters r
  pub bus : IsWholeBus interrupts bits b

-- a state inside a step, or at its end: an entry phase has a candidate, unless the machine has stopped
pub record EndsGood (interrupts bits : ℕ) (s : State) : Type 0 where
  pub good : AreGood interrupts bits s.registers s.bus
  pub called : IsCalled s

-- what holds of the bus of a state
abbrev pub HasWhole : ℕ → ℕ → State → Type 0
HasWhole interrupts bits s = IsWholeBus interrupts bits s.bus

is_early : (ticks : ℕ) → nat_le last_tick ticks ≡ false → ticks < last_tick
is_early ticks e = grind (arith, nat_tests, e)

tick_calls : (s : System) → Calls s.nvic → Calls (after_tick s).nvic
tick_calls s c = tick_nvic Calls pended_calls s c

module _ (interrupts bits : ℕ) where
  -- what holds of a state, and of what a step makes of one
  abbrev IsGood : State → Type 0
  IsGood s = AreGood interrupts bits s.registers s.bus

  abbrev LeavesGood : Stepped → Type 0
  LeavesGood step = EndsGood interrupts bits step.state

  -- ---- one part changes

  with_registers_good : (s : State) (r : Registers) → HasRegisters r → EndsGood interrupts bits s
      → EndsGood interrupts bits (with_registers s r)
  with_registers_good s r new h = record { good = record { registers = new; bus = h.good.bus }; called = h.called }

  with_bus_good : (s : State) (b : Bus) → IsWholeBus interrupts bits b → IsGood s → IsGood (with_bus s b)
  with_bus_good s b new h = record { registers = h.registers; bus = new }

  with_system_good : (s : State) (y : System) → IsWhole interrupts bits y → IsGood s → IsGood (with_system s y)
  with_system_good s y new h = with_bus_good s (with_system s y).bus (new, h.bus.1) h

  with_status_good : (s : State) (st : Status) → IsGood s → IsGood (with_status s st)
  with_status_good s st h =
      with_system_good s (with_status s st).bus.system
      (with_status_kept (parts_kept interrupts bits) s.bus.system st h.bus.0) h

  pended_good : (s : State) (x : ℕ) → IsGood s → IsGood (pended s x)
  pended_good s x h =
      with_system_good s (pended s x).bus.system
      (pending_kept (parts_kept interrupts bits) s.bus.system x true h.bus.0) h

  stop_good : (s : State) (why : Stop) → s.stop ≡ Some why → IsGood s → EndsGood interrupts bits s
  stop_good s why is h = record { good = h; called = λ stop entry. some_none _ why (sym is ∙ stop) }

  -- ---- faults

  escalated_good : (s : State) (events : List Event) (x : ℕ) (e : Escalation) → Follows s.bus.system.nvic x e →
      IsGood s → LeavesGood (escalated s events x e)
  escalated_good s events x Itself f h = record { good = pended_good s x h; called = λ stop entry. f }
  escalated_good s events x HardFault f h = record {
    good = pended_good (with_status s _) HARD_FAULT (with_status_good s _ h);
    called = λ stop entry. f;
  }
  escalated_good s events x Lockup f h = stop_good _ _ refl h

  faulted_good : (s : State) (events : List Event) (f : FaultEffect) → IsFault f → IsGood s →
      LeavesGood (faulted s events f)
  unfolding faulted
  faulted_good s events f is h =
      escalated_good (recorded s f) events f.exception _
      (escalation_follows s.bus.system.nvic f.exception h.bus.0.nvic.board.sets.pending.places is.small
      (is.exists s.bus.system.nvic.interrupts))
      (with_status_good s _ h)

  failed_good : (why : Failure) (s : State) (events : List Event) → IsGood s → LeavesGood (failed s events why)
  failed_good (failure.Refused access cause) s events h =
      faulted_good s events (fault_of access cause) (access_is access.kind cause access.address) h
  failed_good (failure.Usage fault) s events h = faulted_good s events (usage_fault_of fault) (usage_is fault) h
  failed_good (failure.Stop why) s events h = stop_good _ _ refl h

  refused_good : (s : State) (events : List Event) (x : ℕ) → EndsGood interrupts bits s →
      LeavesGood (vector_refused s events x)
  refused_good s events x h =
      let after = with_status_good s (recorded s vector_fault).bus.system.status h.good in
      cond_both (is_fixed x) _ _ LeavesGood (λ f. stop_good _ _ refl after)
      (λ f. record {
        good = pended_good (recorded s vector_fault) HARD_FAULT after;
        called = λ stop entry. pending_calls s.bus.system.nvic HARD_FAULT (h.called stop entry);
      })

  -- ---- a tick, an access, and a handler

  tick_good : (s : State) → nat_le last_tick s.bus.system.time.ticks ≡ false → EndsGood interrupts bits s
      → EndsGood interrupts bits (ticked s)
  tick_good s early h = record {
    good = with_bus_good s (ticked s).bus
        (tick_whole interrupts bits s.bus.system (is_early s.bus.system.time.ticks early) h.good.bus.0, h.good.bus.1)
        h.good;
    called = λ stop entry. tick_calls s.bus.system (h.called stop entry);
  }

  after_one : (s : State) (q : Request) → FitsEntry s.entry q → EndsGood interrupts bits s
      → EndsGood interrupts bits (after_access s q)
  after_one s q fits h = record {
    good = with_bus_good s _ (perform_whole interrupts bits s.registers.exception s.bus q h.good.bus) h.good;
    called = λ stop entry.
        rw (ap (λ (t : System). is_some (candidate t.nvic))
        (perform_leaves s.registers.exception s.bus q (fits entry))) (h.called stop entry);
  }

  is_small : (n : Nvic) (x : ℕ) → candidate n ≡ Some x → x < EXCEPTIONS
  is_small n x next = subst (IsBelow EXCEPTIONS) next (candidate_small n)

  -- ---- the step

  good_rules : StepRules (λ end s events. EndsGood interrupts bits s) LeavesGood
  good_rules = record {
    ends = λ s events h. h;
    stops = λ s events why h. stop_good (record s { stop = Some why }) why refl h.good;
    fails = λ why s events entry h. failed_good why (record s { entry = entry }) events h.good;
    failing = λ why s events h. h;
    access = λ tick s events q fits h. after_one s q fits h;
    line = λ s events e other h. h;
    asleep = λ s events on h. record { good = h.good; called = h.called };
    pending = λ s events x h. record {
      good = pended_good s x h.good;
      called = λ stop entry. pending_calls s.bus.system.nvic x (h.called stop entry);
    };
    status = λ s events st h. record { good = with_status_good s st h.good; called = h.called };
    result = λ s events i values h.
        with_registers_good s _ (result_kept writes_kept i s.registers values h.good.registers).kept h;
    moved = λ s events length h.
        with_registers_good s _ (advances_kept writes_kept length s.registers h.good.registers).kept h;
    special_read = λ s events o h.
        with_registers_good s _ (register_kept writes_kept s.registers o.destination _ h.good.registers) h;
    special_written = λ s events special value out h. record {
      good = record {
        registers = write_special_kept s.registers special value h.good.registers;
        bus = (
          msr_kept (parts_kept interrupts bits) s.bus.system (is_privileged s.registers) special value h.good.bus.0,
          h.good.bus.1,
        );
      };
      called = λ stop entry. none _ _ out entry;
    };
    state_changed = λ s events o out h. record {
      good = with_system_good s _
          (cps_kept (parts_kept interrupts bits) s.bus.system (is_privileged s.registers) o h.good.bus.0) h.good;
      called = λ stop entry. none _ _ out entry;
    };
    entry = λ s events e x next h. record { good = h.good; called = λ stop entry. ap is_some next };
    stacked = λ end s events h. record {
      good = record {
        registers = sp_kept writes_kept s.registers (frame_base (sp s.registers)) h.good.registers;
        bus = h.good.bus;
      };
      called = h.called;
    };
    refused = λ s events x access cause kind h. refused_good s events x h;
    handler = λ n s events x e vector next h. record {
      good = record {
        registers = handler_kept s.registers x e vector (is_small n x next) h.good.registers;
        bus = (begun_kept (parts_kept interrupts bits) s.bus.system x h.good.bus.0, h.good.bus.1);
      };
      called = λ stop entry. absurd (let w : ⊥ = cc in w);
    };
    deactivated = λ s events out h. record {
      good = with_system_good s _
          (ended_kept (parts_kept interrupts bits) s.bus.system s.registers.exception h.good.bus.0) h.good;
      called = λ stop entry. none _ _ out entry;
    };
    unstacked = λ s events e frame even h.
        with_registers_good s _ (popped_kept s.registers e frame even h.good.registers) h;
  }

  pub step_good : (s : State) → EndsGood interrupts bits s → LeavesGood (step s)
  step_good s h = step_keeps good_rules s h (λ early. tick_good s early h)
