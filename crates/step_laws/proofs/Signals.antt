-- A signal between two steps does what an event of the script does that is the first of the next tick.
use Rattle.std.proofs.Common.{◌≡◌, ℕ, zero, suc, ◌+◌, ◌∷◌, ◌++◌, Bool, true, false, ◌||◌, if◌then◌else◌, List, []}
use Rattle.std.proofs.Common.{nat_le}
use Rattle.std.proofs.Common.{set, take, drop, Option, refl, sym, ◌∙◌, ap, arith}
use Rattle.std.proofs.lemmas.Bool.{le-leb}
use Rattle.std.proofs.lemmas.List.{set-set}
use Rattle.platform.specs.declared.exception.TheConstants.{EXCEPTIONS}
use Rattle.platform.specs.declared.script.ScriptedEvent.{ScriptedEvent}
use Rattle.platform.specs.declared.script.Signal.{Signal}
use Rattle.platform.specs.Priorities.{Nvic, candidate, is_exception, with_pending}
use Rattle.platform.specs.System.{System, after_pokes, after_signal, after_tick, on_interrupts, poke_of, pokes_of}
use Rattle.platform.specs.System.{time_passed, with_pended_at, with_pended_below, with_pended}
use Rattle.platform.specs.Time.{Time, last_tick, counted, due_count, events_at, events_after, pends, tick_pends}
use Rattle.platform.specs.Time.{time_after_tick}
use Rattle.platform.specs.Time.{timer_pends, with_events, with_signal}
use Rattle.std.specs.List.{list_any}
use Rattle.reference.specs.State.{State, ticked, with_system}
use Rattle.reference.specs.Step.{phase, running, step, unless_stopped}
use Rattle.platform.specs.declared.stop.Stop.{Stop}
use Rattle.devices.specs.declared.device.Poke.{Poke}
use Rattle.step_laws.specs.SignalLaw.{SignalIsEvent, with_event_first}

-- ---- exceptions that become pending, in any order

-- two members that are put into a set
puts_commute : (s : List Bool) (x y : ℕ) → set (set s x true) y true ≡ set (set s y true) x true
puts_commute [] x y = refl
puts_commute (b ∷ s) zero zero = refl
puts_commute (b ∷ s) zero (suc y) = refl
puts_commute (b ∷ s) (suc x) zero = refl
puts_commute (b ∷ s) (suc x) (suc y) = ap (λ l. b ∷ l) (puts_commute s x y)

members_commute : (s : List Bool) (x y : ℕ) (has_x has_y : Bool)
    → (if has_y then set (if has_x then set s x true else s) y true else (if has_x then set s x true else s))
    ≡ (if has_x then set (if has_y then set s y true else s) x true else (if has_y then set s y true else s))
members_commute s x y true true = puts_commute s x y
members_commute s x y true false = refl
members_commute s x y false true = refl
members_commute s x y false false = refl

member_twice : (s : List Bool) (x : ℕ) (has : Bool)
    → (if has then set (if has then set s x true else s) x true else (if has then set s x true else s))
    ≡ (if has then set s x true else s)
member_twice s x true = set-set s x true true
member_twice s x false = refl

pendings_commute : (n : Nvic) (x y : ℕ)
    → with_pending (with_pending n x true) y true ≡ with_pending (with_pending n y true) x true
pendings_commute n x y =
    ap (λ (l : List Bool). record n { pending = l })
    (members_commute n.pending x y (is_exception n.interrupts x) (is_exception n.interrupts y))

pending_twice : (n : Nvic) (x : ℕ) → with_pending (with_pending n x true) x true ≡ with_pending n x true
pending_twice n x =
    ap (λ (l : List Bool). record n { pending = l }) (member_twice n.pending x (is_exception n.interrupts x))

at_commutes : (n : Nvic) (x y : ℕ) (due : Bool)
    → (if due then with_pending (with_pending n x true) y true else with_pending n x true)
    ≡ with_pending (if due then with_pending n y true else n) x true
at_commutes n x y true = pendings_commute n x y
at_commutes n x y false = refl

below_commutes : (n : Nvic) (x : ℕ) (test : ℕ → Bool) (k : ℕ)
    → with_pended_below (with_pending n x true) test k ≡ with_pending (with_pended_below n test k) x true
unfolding with_pended_below with_pended_at
below_commutes n x test zero = refl
below_commutes n x test (suc k) =
    ap (λ (m : Nvic). if test k then with_pending m k true else m) (below_commutes n x test k)
    ∙ at_commutes (with_pended_below n test k) x k (test k)

-- one number: two tests at once, or one after the other
both_at : (n m : Nvic) (k : ℕ) (first second : Bool) (middle : Nvic)
    → middle ≡ (if first then with_pending m k true else m)
    → (if second || first then with_pending m k true else m) ≡ (if second then with_pending middle k true else middle)
both_at n m k true true middle e = sym (ap (λ (w : Nvic). with_pending w k true) e ∙ pending_twice m k)
both_at n m k true false middle e = sym e
both_at n m k false true middle e = sym (ap (λ (w : Nvic). with_pending w k true) e)
both_at n m k false false middle e = sym e

middle_is : (n : Nvic) (test : ℕ → Bool) (k : ℕ) (first : Bool)
    → with_pended_below (if first then with_pending n k true else n) test k
    ≡ (if first then with_pending (with_pended_below n test k) k true else with_pended_below n test k)
middle_is n test k true = below_commutes n k test k
middle_is n test k false = refl

both_below : (n : Nvic) (first second : ℕ → Bool) (k : ℕ)
    → with_pended_below n (λ x. second x || first x) k ≡ with_pended_below (with_pended_below n first k) second k
unfolding with_pended_below with_pended_at
both_below n first second zero = refl
both_below n first second (suc k) =
    let m = with_pended_below n first k in
    ap (λ (w : Nvic). if second k || first k then with_pending w k true else w) (both_below n first second k)
    ∙ both_at n (with_pended_below m second k) k (first k) (second k)
    (with_pended_below (if first k then with_pending m k true else m) second k) (middle_is m second k (first k))

same_below : (n : Nvic) (test other : ℕ → Bool) → ((x : ℕ) → test x ≡ other x) → (k : ℕ)
    → with_pended_below n test k ≡ with_pended_below n other k
unfolding with_pended_below with_pended_at
same_below n test other same zero = refl
same_below n test other same (suc k) =
    let before = same_below n test other same k in
    let here = same k in
    rw (before, here) refl

-- ---- the tick

or_last_first : (a b c : Bool) → (a || (b || c)) ≡ ((a || c) || b)
or_last_first true b c = refl
or_last_first false true true = refl
or_last_first false true false = refl
or_last_first false false true = refl
or_last_first false false false = refl

one_more : (n : ℕ) → 1 + n ≡ suc n
one_more n = omega arith

-- an event of this tick at the head of a script
due_first : (tick : ℕ) (e : ScriptedEvent) (script : List ScriptedEvent) → e.at ≡ tick
    → due_count tick (e ∷ script) ≡ suc (due_count tick script)
due_first tick e script now =
    rw (le-leb e.at tick (omega (arith, now))) (one_more (due_count tick script))

applies_first : (tick : ℕ) (e : ScriptedEvent) (script : List ScriptedEvent) → e.at ≡ tick
    → events_at tick (e ∷ script) ≡ e ∷ events_at tick script
applies_first tick e script now = ap (λ k. take k (e ∷ script)) (due_first tick e script now)

leaves_others : (tick : ℕ) (e : ScriptedEvent) (script : List ScriptedEvent) → e.at ≡ tick
    → events_after tick (e ∷ script) ≡ events_after tick script
leaves_others tick e script now = ap (λ k. drop k (e ∷ script)) (due_first tick e script now)

module _ (s : System) (what : Signal) where
  abbrev tick : ℕ
  tick = s.time.ticks + 1

  abbrev event : ScriptedEvent
  event = record { at = tick; what = what }

  abbrev scripted : System
  scripted = record s { time = record s.time { script = event ∷ s.time.script } }

  pends_alike : (x : ℕ) → tick_pends scripted.time x ≡ (tick_pends s.time x || pends what x)
  unfolding tick_pends
  pends_alike x =
      ap (λ (events : List ScriptedEvent). timer_pends s.time.systick x || list_any (λ e. pends e.what x) events)
      (applies_first tick event s.time.script refl)
      ∙ or_last_first (timer_pends s.time.systick x) (pends what x)
      (list_any (λ e. pends e.what x) (events_at tick s.time.script))

  time_alike : time_after_tick scripted.time ≡ time_after_tick (on_interrupts s what).time
  unfolding time_after_tick
  time_alike =
      ap (λ (events : List ScriptedEvent). record {
        ticks = tick;
        systick = counted s.time.systick;
        high = with_events s.time.high events;
        script = events_after tick (event ∷ s.time.script);
      })
      (applies_first tick event s.time.script refl)
      ∙ ap (λ (script : List ScriptedEvent). record {
        ticks = tick;
        systick = counted s.time.systick;
        high = with_events (with_signal s.time.high what) (events_at tick s.time.script);
        script = script;
      })
      (leaves_others tick event s.time.script refl)

  nvic_alike : with_pended s.nvic (tick_pends scripted.time)
      ≡ with_pended (with_pended s.nvic (pends what)) (tick_pends s.time)
  unfolding with_pended
  nvic_alike =
      same_below s.nvic (tick_pends scripted.time) (λ x. tick_pends s.time x || pends what x) pends_alike EXCEPTIONS
      ∙ both_below s.nvic (pends what) (tick_pends s.time) EXCEPTIONS

  passed_as : (n : Nvic) → n ≡ with_pended (with_pended s.nvic (pends what)) (tick_pends s.time)
      → record s { nvic = n; time = time_after_tick scripted.time } ≡ time_passed (on_interrupts s what)
  unfolding tick_pends
  passed_as n e =
      ap (λ (m : Nvic). record s { nvic = m; time = time_after_tick scripted.time }) e
      ∙ ap
      (λ (t : Time). record s { nvic = with_pended (with_pended s.nvic (pends what)) (tick_pends s.time); time = t })
      time_alike

  passed_alike : time_passed scripted ≡ time_passed (on_interrupts s what)
  passed_alike = passed_as (with_pended s.nvic (tick_pends scripted.time)) nvic_alike

  -- the event pokes nothing
  pokes_alike : poke_of what ≡ [] → pokes_of (events_at tick (event ∷ s.time.script))
      ≡ pokes_of (events_at tick s.time.script)
  pokes_alike none =
      ap pokes_of (applies_first tick event s.time.script refl)
      ∙ ap (λ (ps : List Poke). ps ++ pokes_of (events_at tick s.time.script)) none

  pub tick_alike : poke_of what ≡ [] → after_tick scripted ≡ after_tick (on_interrupts s what)
  unfolding after_tick
  tick_alike none =
      ap (λ (t : System). after_pokes t (pokes_of (events_at tick (event ∷ s.time.script)))) passed_alike
      ∙ ap (after_pokes (time_passed (on_interrupts s what))) (pokes_alike none)

  pub signal_as : poke_of what ≡ [] → on_interrupts s what ≡ after_signal s what
  unfolding after_signal
  signal_as none = ap (after_pokes (on_interrupts s what)) (sym none)

abbrev with_signal_taken : State → Signal → State
with_signal_taken s what = with_system s (on_interrupts s.bus.system what)

ticked_alike : (s : State) (what : Signal) → poke_of what ≡ []
    → ticked (with_event_first s what) ≡ ticked (with_signal_taken s what)
ticked_alike s what none = ap (λ (system : System). with_system s system) (tick_alike s.bus.system what none)

running_alike : (s : State) (what : Signal) → poke_of what ≡ [] → nat_le last_tick s.bus.system.time.ticks ≡ false
    → running (with_event_first s what) ≡ running (with_signal_taken s what)
running_alike s what none early =
    rw early (ap (λ (t : State). phase t s.entry (candidate t.bus.system.nvic)) (ticked_alike s what none))

pub signal_is_event : (s : State) (what : Signal) → SignalIsEvent s what
unfolding step
signal_is_event s what none runs early =
    ap (λ (stop : Option Stop). unless_stopped (with_event_first s what) stop) runs
    ∙ running_alike s what none early
    ∙ sym (ap (λ (stop : Option Stop). unless_stopped (with_signal_taken s what) stop) runs)
    ∙ ap (λ (t : System). step (with_system s t)) (signal_as s.bus.system what none)
