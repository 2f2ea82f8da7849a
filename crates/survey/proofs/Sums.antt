-- Sums of counters have counted the events of the steps.
use Rattle.std.proofs.Common.{◌≡◌, ℕ, zero, suc, ◌+◌, ◌-◌, ◌^◌, ◌<◌, ◌≤◌, Bool, true, false, not, cond, ◌&&◌}
use Rattle.std.proofs.Common.{nat_lt, List, [], ◌∷◌, ◌++◌, length, Option, Some, None, refl, sym, ap, ◌∙◌, arith}
use Rattle.std.proofs.Common.{get_or, set, add-zero}
use Rattle.std.proofs.lemmas.Bool.{ltb-true, ltb-false}
use Rattle.std.proofs.lemmas.List.{set_past}
use Rattle.std.specs.Option.{option_map_or}
use Rattle.platform.specs.declared.access.DecidedAccess.{DecidedAccess}
use Rattle.platform.specs.declared.event.Event.{Event}
use Rattle.platform.specs.declared.event.EventKind.{EventKind}
use Rattle.platform.specs.declared.event.RecordedFault.{RecordedFault}
use Rattle.platform.specs.declared.stop.Stop.{Stop}
use Rattle.platform.specs.Events.{access_of, byte_of, recorded_fault_of}
use Rattle.reference.specs.Run.{after, events_of}
use Rattle.reference.specs.State.{State}
use Rattle.reference.specs.Step.{step}
use Rattle.reference.specs.Step as steps
use Rattle.survey.proofs.Counting.{cond_then, length_counted}
use Rattle.survey.specs.declared.step_start.StepStart.{StepStart}
use Rattle.survey.specs.declared.survey.Survey.{Survey}
use Rattle.survey.specs.Counts.{counted_at, one_more, place_of_access}
use Rattle.survey.specs.SumLaw.{OutcomesAddUp, SumCounts, any_access, chosen_in, counters, is_chosen, is_granted}
use Rattle.survey.specs.SumLaw.{is_chosen_access, is_refused}
use Rattle.survey.specs.SumLaw.{sum_from, sum_of}
use Rattle.survey.specs.Surveys.{step_start_of, surveyed, unless_stopped, with_event, with_events, with_parts}
use Rattle.survey.specs.Surveys.{with_step}
use Rattle.survey.specs.Surveys.{with_step_begun}

-- the highest value of a counter
abbrev cap : ℕ
cap = 2 ^ 64 - 1

-- a chosen counter is at most the sum, and the sum follows a new value of one counter
part_of : (chosen : ℕ → Bool) (from k : ℕ) (xs : List ℕ) → k < length xs
    → cond (chosen (from + k)) (get_or xs k 0) 0 ≤ sum_from chosen from xs
part_of chosen from k [] below = absurd (omega (arith, below))
part_of chosen from zero (x ∷ xs) below = let e : from + 0 ≡ from = omega arith in rw e (omega arith)
part_of chosen from (suc k) (x ∷ xs) below =
    let e : from + suc k ≡ from + 1 + k = omega arith in
    let rest = part_of chosen (from + 1) k xs (omega (arith, below)) in rw e (omega (arith, rest))

sum_set : (chosen : ℕ → Bool) (from k y : ℕ) (xs : List ℕ) → k < length xs
    → sum_from chosen from (set xs k y) + cond (chosen (from + k)) (get_or xs k 0) 0
    ≡ sum_from chosen from xs + cond (chosen (from + k)) y 0
sum_set chosen from k y [] below = absurd (omega (arith, below))
sum_set chosen from zero y (x ∷ xs) below = let e : from + 0 ≡ from = omega arith in rw e (omega arith)
sum_set chosen from (suc k) y (x ∷ xs) below =
    let e : from + suc k ≡ from + 1 + k = omega arith in
    let rest = sum_set chosen (from + 1) k y xs (omega (arith, below)) in rw e (omega (arith, rest))

-- what events make of a sum
record Added (chosen : ℕ → Bool) (v w : Survey) (k : ℕ) : Type 0 where
  sum : sum_of chosen w.counts ≡ sum_of chosen v.counts + k
  long : length w.counts ≡ counters

one_sum : (b : Bool) (total after n : ℕ) → after + cond b n 0 ≡ total + cond b (one_more n) 0 → cond b n 0 ≤ total
    → total + cond b 1 0 ≤ cap → after ≡ total + cond b 1 0
one_sum true total after n e part small = omega arith
one_sum false total after n e part small = omega arith

one_by : (chosen : ℕ → Bool) (xs : List ℕ) (at : ℕ) (is : Bool) → nat_lt at counters ≡ is → length xs ≡ counters
    → sum_of chosen xs + cond (is && chosen at) 1 0 ≤ cap
    → sum_of chosen (counted_at xs at) ≡ sum_of chosen xs + cond (is && chosen at) 1 0
one_by chosen xs at true e long small =
    let below : at < length xs = let h = ltb-true at counters e in omega (arith, h, long) in
    let from : 0 + at ≡ at = omega arith in
    one_sum (chosen at) (sum_of chosen xs) (sum_of chosen (counted_at xs at)) (get_or xs at 0)
    (rw from at (sum_set chosen 0 at (one_more (get_or xs at 0)) xs below))
    (rw from at (part_of chosen 0 at xs below)) small
one_by chosen xs at false e long small =
    let past : length xs ≤ at = let h = ltb-false at counters e in omega (arith, h, long) in
    ap (sum_of chosen) (set_past xs at (one_more (get_or xs at 0)) past) ∙ sym (add-zero _)

-- one access, which is counted at a place
one_added : (chosen : ℕ → Bool) (xs : List ℕ) (at : ℕ) → length xs ≡ counters
    → sum_of chosen xs + cond (nat_lt at counters && chosen at) 1 0 ≤ cap
    → sum_of chosen (counted_at xs at) ≡ sum_of chosen xs + cond (nat_lt at counters && chosen at) 1 0
one_added chosen xs at long small = one_by chosen xs at (nat_lt at counters) refl long small

parts_added : (chosen : ℕ → Bool) (m : StepStart) (v : Survey) (tick : ℕ) (access : Option DecidedAccess)
    (byte : Option ℕ) (fault : Option RecordedFault) → length v.counts ≡ counters
    → sum_of chosen v.counts + cond (option_map_or (is_chosen_access chosen) access false) 1 0 ≤ cap
    → Added chosen v (with_parts m v tick access byte fault)
    (cond (option_map_or (is_chosen_access chosen) access false) 1 0)
parts_added chosen m v tick None byte fault long small = record { sum = sym (add-zero _); long = long }
parts_added chosen m v tick (Some d) byte fault long small = record {
  sum = one_added chosen v.counts (place_of_access d) long small;
  long = length_counted v.counts (place_of_access d) ∙ long;
}

event_added : (chosen : ℕ → Bool) (m : StepStart) (v : Survey) (tick : ℕ) (what : EventKind) → length v.counts
    ≡ counters
    → sum_of chosen v.counts + cond (is_chosen chosen what) 1 0 ≤ cap
    → Added chosen v (with_event m v tick what) (cond (is_chosen chosen what) 1 0)
unfolding with_event
event_added chosen m v tick what long small =
    parts_added chosen m v tick (access_of what) (byte_of what) (recorded_fault_of what) long small

-- one event, and then others
fits_one : (b : Bool) (n k : ℕ) → n + cond b (1 + k) k ≤ cap → n + cond b 1 0 ≤ cap
fits_one true n k small = omega arith
fits_one false n k small = omega arith

fits_rest : (b : Bool) (n after k : ℕ) → n + cond b (1 + k) k ≤ cap → after ≡ n + cond b 1 0 → after + k ≤ cap
fits_rest true n after k small e = omega arith
fits_rest false n after k small e = omega arith

one_and_rest : (b : Bool) (n after k total : ℕ) → after ≡ n + cond b 1 0 → total ≡ after + k
    → total ≡ n + cond b (1 + k) k
one_and_rest true n after k total one rest = omega arith
one_and_rest false n after k total one rest = omega arith

events_added : (chosen : ℕ → Bool) (m : StepStart) (v : Survey) (es : List Event) → length v.counts ≡ counters
    → sum_of chosen v.counts + chosen_in chosen es ≤ cap → Added chosen v (with_events m v es) (chosen_in chosen es)
events_added chosen m v [] long small = record { sum = sym (add-zero _); long = long }
events_added chosen m v (e ∷ es) long small =
    let is = is_chosen chosen e.what in
    let n = sum_of chosen v.counts in
    let k = chosen_in chosen es in
    let one = event_added chosen m v e.tick e.what long (fits_one is n k small) in
    let w = with_event m v e.tick e.what in
    let rest = events_added chosen m w es one.long (fits_rest is n (sum_of chosen w.counts) k small one.sum) in
    record {
      sum = one_and_rest is n (sum_of chosen w.counts) k (sum_of chosen (with_events m w es).counts) one.sum rest.sum;
      long = rest.long;
    }

-- the events of two lists
chosen_in-append : (chosen : ℕ → Bool) (xs ys : List Event)
    → chosen_in chosen (xs ++ ys) ≡ chosen_in chosen xs + chosen_in chosen ys
chosen_in-append chosen [] ys = omega arith
chosen_in-append chosen (x ∷ xs) ys =
    ap (λ (n : ℕ). cond (is_chosen chosen x.what) (1 + n) n) (chosen_in-append chosen xs ys)
    ∙ cond_then (is_chosen chosen x.what) (chosen_in chosen xs) (chosen_in chosen ys)

-- a step, and steps: that of a stopped machine has no events
step_by : (chosen : ℕ → Bool) (s : State) (v : Survey) (o : Option Stop) → s.stop ≡ o → length v.counts ≡ counters
    → sum_of chosen v.counts + chosen_in chosen (step s).events ≤ cap
    → Added chosen v (unless_stopped s v o) (chosen_in chosen (step s).events)
unfolding step
step_by chosen s v None e long small =
    let all = events_added chosen (step_start_of s) (with_step_begun (step_start_of s) v) (step s).events long small in
    record { sum = all.sum; long = all.long }
step_by chosen s v (Some why) e long small =
    let none : (step s).events ≡ [] = ap (λ (o : Option Stop). (steps.unless_stopped s o).events) e in
    record { sum = rw none (sym (add-zero _)); long = long }

step_on : (chosen : ℕ → Bool) (s : State) (v : Survey) → length v.counts ≡ counters
    → sum_of chosen v.counts + chosen_in chosen (step s).events ≤ cap
    → Added chosen v (with_step s v) (chosen_in chosen (step s).events)
unfolding with_step
step_on chosen s v long small = step_by chosen s v s.stop refl long small

steps_added : (chosen : ℕ → Bool) (n : ℕ) (s : State) (v : Survey) → length v.counts ≡ counters
    → sum_of chosen v.counts + chosen_in chosen (events_of n s) ≤ cap
    → Added chosen v (surveyed n s v) (chosen_in chosen (events_of n s))
unfolding surveyed events_of
steps_added chosen zero s v long small = record { sum = sym (add-zero _); long = long }
steps_added chosen (suc n) s v long small =
    let x = chosen_in chosen (events_of n s) in
    let y = chosen_in chosen (step (after n s)).events in
    let both : chosen_in chosen (events_of n s ++ (step (after n s)).events) ≡ x + y =
    chosen_in-append chosen (events_of n s) (step (after n s)).events in
    let before = steps_added chosen n s v long (omega (arith, both, small)) in
    let w = surveyed n s v in
    let one = step_on chosen (after n s) w before.long (omega (arith, before.sum, both, small)) in
    record { sum = omega (arith, before.sum, one.sum, both); long = one.long }

pub sums_count : (chosen : ℕ → Bool) (n : ℕ) (s : State) (v : Survey) → SumCounts chosen n s v
sums_count chosen n s v long small = (steps_added chosen n s v long small).sum

-- each counter is one of a granted or of a refused access
apart : (b : Bool) (n x y all : ℕ) → x + y ≡ all → cond b n 0 + x + (cond (not b) n 0 + y) ≡ n + all
apart true n x y all e = omega arith
apart false n x y all e = omega arith

outcomes_from : (place : ℕ) (counts : List ℕ)
    → sum_from is_granted place counts + sum_from is_refused place counts ≡ sum_from any_access place counts
outcomes_from place [] = refl
outcomes_from place (n ∷ ns) =
    apart (is_granted place) n (sum_from is_granted (place + 1) ns) (sum_from is_refused (place + 1) ns)
    (sum_from any_access (place + 1) ns) (outcomes_from (place + 1) ns)

pub outcomes_add_up : OutcomesAddUp
outcomes_add_up counts = outcomes_from 0 counts
