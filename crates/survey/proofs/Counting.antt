-- The counters have counted the events of the steps.
use Rattle.std.proofs.Common.{◌≡◌, ℕ, zero, suc, ◌+◌, ◌-◌, ◌^◌, ◌<◌, ◌≤◌, min, Bool, true, false, cond, ◌==◌, List}
use Rattle.std.proofs.Common.{[], ◌∷◌}
use Rattle.std.proofs.Common.{◌++◌, length, Option, Some, None, refl, ap, ◌∙◌, arith, get_or}
use Rattle.std.proofs.lemmas.Bool.Decides.{nat_tests}
use Rattle.std.proofs.lemmas.Grind.{common_steps}
use Rattle.std.specs.Option.{option_map_or}
use Rattle.platform.specs.declared.access.Cause.{Cause}
use Rattle.platform.specs.declared.access.DecidedAccess.{DecidedAccess}
use Rattle.platform.specs.declared.access.Kind.{Kind}
use Rattle.platform.specs.declared.access.Rule.{Rule}
use Rattle.platform.specs.declared.event.Event.{Event}
use Rattle.platform.specs.declared.event.EventKind.{EventKind}
use Rattle.platform.specs.declared.event.RecordedFault.{RecordedFault}
use Rattle.platform.specs.declared.stop.Stop.{Stop}
use Rattle.platform.specs.Events.{access_of, byte_of, recorded_fault_of}
use Rattle.reference.specs.Run.{after, events_of}
use Rattle.reference.specs.State.{State}
use Rattle.reference.specs.Step.{step}
use Rattle.reference.specs.Step as steps
use Rattle.survey.specs.declared.step_start.StepStart.{StepStart}
use Rattle.survey.specs.declared.survey.Survey.{Survey}
use Rattle.survey.specs.Counts.{counted_at, one_more, place_of, place_of_access}
use Rattle.survey.specs.CountLaw.{CountsEvents, is_counted_at, events_at}
use Rattle.survey.specs.Surveys.{step_start_of, surveyed, unless_stopped, with_event, with_events, with_parts}
use Rattle.survey.specs.Surveys.{with_step}
use Rattle.survey.specs.Surveys.{with_step_begun}

-- the highest value of a counter
abbrev pub cap : ℕ
cap = 2 ^ 64 - 1

-- a counter after one more is counted at a place
pub counted_one : (xs : List ℕ) (at place : ℕ) → place < length xs
    → get_or (counted_at xs at) place 0 ≡ cond (at == place) (one_more (get_or xs place 0)) (get_or xs place 0)
counted_one xs at place below = grind (arith, common_steps, nat_tests)

pub length_counted : (xs : List ℕ) (at : ℕ) → length (counted_at xs at) ≡ length xs
length_counted xs at = grind (arith, common_steps)

-- what an event makes of a counter
record Counted (place : ℕ) (v w : Survey) (is : Bool) : Type 0 where
  number : get_or w.counts place 0 ≡ cond is (one_more (get_or v.counts place 0)) (get_or v.counts place 0)
  long : length w.counts ≡ length v.counts

parts_counted : (m : StepStart) (v : Survey) (tick place : ℕ) (access : Option DecidedAccess) (byte : Option ℕ)
    (fault : Option RecordedFault) → place < length v.counts
    → Counted place v (with_parts m v tick access byte fault)
    (option_map_or (λ d. place_of_access d == place) access false)
parts_counted m v tick place None byte fault below = record { number = refl; long = refl }
parts_counted m v tick place (Some d) byte fault below = record {
  number = counted_one v.counts (place_of_access d) place below;
  long = length_counted v.counts (place_of_access d);
}

event_counted : (m : StepStart) (v : Survey) (tick place : ℕ) (what : EventKind) → place < length v.counts
    → Counted place v (with_event m v tick what) (is_counted_at place what)
unfolding with_event
event_counted m v tick place what below =
    parts_counted m v tick place (access_of what) (byte_of what) (recorded_fault_of what) below

-- one event, and then k others
pub one_then : (b : Bool) (n after k total : ℕ) → n ≤ cap → after ≡ cond b (one_more n) n → total ≡ min (after + k) cap
    → total ≡ min (n + cond b (1 + k) k) cap
one_then true n after k total small one rest = omega arith
one_then false n after k total small one rest = omega arith

pub stays_small : (b : Bool) (n after : ℕ) → n ≤ cap → after ≡ cond b (one_more n) n → after ≤ cap
stays_small true n after small one = omega arith
stays_small false n after small one = omega arith

-- what events make of a counter
pub record AllCounted (place : ℕ) (v w : Survey) (es : List Event) : Type 0 where
  pub number : get_or w.counts place 0 ≡ min (get_or v.counts place 0 + events_at place es) cap
  pub long : length w.counts ≡ length v.counts

events_counted : (m : StepStart) (v : Survey) (place : ℕ) (es : List Event) → place < length v.counts
    → get_or v.counts place 0 ≤ cap → AllCounted place v (with_events m v es) es
events_counted m v place [] below small = record { number = omega arith; long = refl }
events_counted m v place (e ∷ es) below small =
    let w = with_event m v e.tick e.what in
    let one = event_counted m v e.tick place e.what below in
    let below' : place < length w.counts = omega (arith, one.long) in
    let small' : get_or w.counts place 0 ≤ cap =
    stays_small (is_counted_at place e.what) (get_or v.counts place 0) (get_or w.counts place 0) small one.number in
    let rest = events_counted m w place es below' small' in
    record {
      number =
          one_then (is_counted_at place e.what) (get_or v.counts place 0) (get_or w.counts place 0) (events_at place es)
          (get_or (with_events m w es).counts place 0) small one.number rest.number;
      long = rest.long ∙ one.long;
    }

-- the events of two lists
pub cond_then : (b : Bool) (x y : ℕ) → cond b (1 + (x + y)) (x + y) ≡ cond b (1 + x) x + y
cond_then true x y = omega arith
cond_then false x y = refl

events_at-append : (place : ℕ) (xs ys : List Event)
    → events_at place (xs ++ ys) ≡ events_at place xs + events_at place ys
events_at-append place [] ys = omega arith
events_at-append place (x ∷ xs) ys =
    ap (λ (n : ℕ). cond (is_counted_at place x.what) (1 + n) n) (events_at-append place xs ys)
    ∙ cond_then (is_counted_at place x.what) (events_at place xs) (events_at place ys)

-- what a step makes of a counter: that of a stopped machine has no events
step_by : (s : State) (v : Survey) (place : ℕ) (o : Option Stop) → s.stop ≡ o → place < length v.counts
    → get_or v.counts place 0 ≤ cap → AllCounted place v (unless_stopped s v o) (step s).events
unfolding step
step_by s v place None e below small =
    let all = events_counted (step_start_of s) (with_step_begun (step_start_of s) v) place (step s).events below
    small in
    record { number = all.number; long = all.long }
step_by s v place (Some why) e below small =
    let none : (step s).events ≡ [] = ap (λ (o : Option Stop). (steps.unless_stopped s o).events) e in
    record { number = rw none (omega arith); long = refl }

step_on : (s : State) (v : Survey) (place : ℕ) → place < length v.counts → get_or v.counts place 0 ≤ cap
    → AllCounted place v (with_step s v) (step s).events
unfolding with_step
step_on s v place below small = step_by s v place s.stop refl below small

-- two runs, one after the other
pub two_runs : (n mid last k j all : ℕ) → mid ≡ min (n + k) cap → last ≡ min (mid + j) cap → all ≡ k + j
    → last ≡ min (n + all) cap
two_runs n mid last k j all one two both = omega arith

pub steps_counted : (n : ℕ) (s : State) (v : Survey) (place : ℕ) → place < length v.counts
    → get_or v.counts place 0 ≤ cap → AllCounted place v (surveyed n s v) (events_of n s)
unfolding surveyed events_of
steps_counted zero s v place below small = record { number = omega arith; long = refl }
steps_counted (suc n) s v place below small =
    let before = steps_counted n s v place below small in
    let w = surveyed n s v in
    let below' : place < length w.counts = omega (arith, before.long) in
    let small' : get_or w.counts place 0 ≤ cap = omega (arith, before.number) in
    let one = step_on (after n s) w place below' small' in
    record {
      number =
          two_runs (get_or v.counts place 0) (get_or w.counts place 0) (get_or (with_step (after n s) w).counts place 0)
          (events_at place (events_of n s)) (events_at place (step (after n s)).events)
          (events_at place (events_of n s ++ (step (after n s)).events)) before.number one.number
          (events_at-append place (events_of n s) (step (after n s)).events);
      long = one.long ∙ before.long;
    }

pub counts_events : (n : ℕ) (s : State) (v : Survey) (rule : Rule) (privileged : Bool) (kind : Kind)
    (refused : Option Cause) → CountsEvents n s v rule privileged kind refused
counts_events n s v rule privileged kind refused below small =
    (steps_counted n s v (place_of rule privileged kind refused) below small).number
