-- The counters of code have counted the instructions of the steps.
use Rattle.std.proofs.Common.{◌≡◌, ℕ, zero, suc, ◌+◌, ◌*◌, ◌<◌, ◌≤◌, min, Bool, true, false, cond, ◌&&◌}
use Rattle.std.proofs.Common.{◌==◌, List, [], ◌∷◌, length, Option, Some, None, refl, ap, ◌∙◌, arith, get_or}
use Rattle.std.proofs.lemmas.Bool.Decides.{nat_tests}
use Rattle.std.proofs.lemmas.Grind.{common_steps}
use Rattle.std.specs.Option.{option_map_or}
use Rattle.platform.specs.declared.access.DecidedAccess.{DecidedAccess}
use Rattle.platform.specs.declared.event.Event.{Event}
use Rattle.platform.specs.declared.event.EventKind.{EventKind}
use Rattle.platform.specs.declared.event.RecordedFault.{RecordedFault}
use Rattle.platform.specs.declared.stop.Stop.{Stop}
use Rattle.platform.specs.Events.{access_of, byte_of, is_access_with, recorded_fault_of}
use Rattle.reference.specs.Run.{after}
use Rattle.reference.specs.State.{State}
use Rattle.reference.specs.Step.{step}
use Rattle.reference.specs.Step as steps
use Rattle.survey.specs.declared.step_start.StepStart.{StepStart}
use Rattle.survey.specs.declared.survey.Survey.{Survey}
use Rattle.survey.specs.CodeCounts.{CodeCounts, begins_instruction, code_place, halfword_of, has_halfword, with_fetch}
use Rattle.survey.specs.CodeLaw.{CodeIsCounted, HalfwordsDiffer, instructions_in, instructions_of}
use Rattle.survey.specs.CodeLaw.{is_counted_fetch}
use Rattle.survey.specs.Counts.{counted_at, one_more, privilege_number}
use Rattle.survey.specs.Surveys.{step_start_of, surveyed, unless_stopped, with_accessed, with_event, with_events}
use Rattle.survey.specs.Surveys.{with_other, with_parts, with_step, with_step_begun, with_step_end}
use Rattle.survey.proofs.Counting.{cap, counted_one, length_counted, one_then, stays_small, two_runs}

-- the counters of a survey that belong to a memory: only accesses change them
record IsMemory (memory : Survey → CodeCounts) : Type 0 where
  accessed : (m : StepStart) (v : Survey) (d : DecidedAccess)
      → memory (with_accessed m v d) ≡ with_fetch m.pc (memory v) d
  other : (m : StepStart) (v : Survey) (tick : ℕ) (byte : Option ℕ) (fault : Option RecordedFault)
      → memory (with_other m v tick byte fault) ≡ memory v
  begun : (m : StepStart) (v : Survey) → memory (with_step_begun m v) ≡ memory v
  ended : (v : Survey) → memory (with_step_end v) ≡ memory v

flash_is : IsMemory (λ v. v.flash_code)
flash_is = record {
  accessed = λ m v d. refl;
  other = λ m v tick byte fault. refl;
  begun = λ m v. refl;
  ended = λ v. refl;
}

ram_is : IsMemory (λ v. v.ram_code)
ram_is = record {
  accessed = λ m v d. refl;
  other = λ m v tick byte fault. refl;
  begun = λ m v. refl;
  ended = λ v. refl;
}

-- a memory whose counters are some others: one counter of it has counted k more
record Tallied (c : CodeCounts) (place : ℕ) (xs : List ℕ) (w : CodeCounts) (k : ℕ) : Type 0 where
  counters : List ℕ
  is : w ≡ record c { counters = counters }
  number : get_or counters place 0 ≡ min (get_or xs place 0 + k) cap
  long : length counters ≡ length xs

-- what one event makes of it
record TalliedOne (c : CodeCounts) (place : ℕ) (xs : List ℕ) (w : CodeCounts) (one : Bool) : Type 0 where
  counters : List ℕ
  is : w ≡ record c { counters = counters }
  number : get_or counters place 0 ≡ cond one (one_more (get_or xs place 0)) (get_or xs place 0)
  long : length counters ≡ length xs

-- a fetch, by whether it begins an instruction and the memory has its halfword
fetch_by : (c : CodeCounts) (place : ℕ) (xs : List ℕ) (at : ℕ) (begins has : Bool) → place < length xs
    → TalliedOne c place xs
    (cond begins (cond has (record c { counters = counted_at xs at }) (record c { counters = xs }))
    (record c { counters = xs }))
    (begins && (has && (at == place)))
fetch_by c place xs at true true below =
    record {
      counters = counted_at xs at;
      is = refl;
      number = counted_one xs at place below;
      long = length_counted xs at;
    }
fetch_by c place xs at true false below = record { counters = xs; is = refl; number = refl; long = refl }
fetch_by c place xs at false has below = record { counters = xs; is = refl; number = refl; long = refl }

fetch_tallied : (c w : CodeCounts) (place : ℕ) (xs : List ℕ) (pc : ℕ) (d : DecidedAccess)
    → w ≡ record c { counters = xs } → place < length xs
    → TalliedOne c place xs (with_fetch pc w d) (is_counted_fetch c place pc d)
fetch_tallied c w place xs pc d is below =
    rw is
    (fetch_by c place xs (code_place c d.access.privileged d.access.address) (begins_instruction pc d)
    (has_halfword c d.access.address) below)

-- an event, by its access or else its byte or its fault
parts_tallied : (memory : Survey → CodeCounts) → IsMemory memory → (c : CodeCounts) (m : StepStart) (v : Survey)
    (tick place : ℕ) (xs : List ℕ) (access : Option DecidedAccess) (byte : Option ℕ) (fault : Option RecordedFault)
    → memory v ≡ record c { counters = xs } → place < length xs
    → TalliedOne c place xs (memory (with_parts m v tick access byte fault))
    (option_map_or (λ d. is_counted_fetch c place m.pc d) access false)
parts_tallied memory of c m v tick place xs None byte fault is below =
    record { counters = xs; is = of.other m v tick byte fault ∙ is; number = refl; long = refl }
parts_tallied memory of c m v tick place xs (Some d) byte fault is below =
    let one = fetch_tallied c (memory v) place xs m.pc d is below in
    record { counters = one.counters; is = of.accessed m v d ∙ one.is; number = one.number; long = one.long }

event_tallied : (memory : Survey → CodeCounts) → IsMemory memory → (c : CodeCounts) (m : StepStart) (v : Survey)
    (tick place : ℕ) (xs : List ℕ) (what : EventKind) → memory v ≡ record c { counters = xs } → place < length xs
    → TalliedOne c place xs (memory (with_event m v tick what))
    (is_access_with (λ d. is_counted_fetch c place m.pc d) what)
unfolding with_event
event_tallied memory of c m v tick place xs what is below =
    parts_tallied memory of c m v tick place xs (access_of what) (byte_of what) (recorded_fault_of what) is below

events_tallied : (memory : Survey → CodeCounts) → IsMemory memory → (c : CodeCounts) (m : StepStart) (v : Survey)
    (place : ℕ) (xs : List ℕ) (es : List Event) → memory v ≡ record c { counters = xs } → place < length xs
    → get_or xs place 0 ≤ cap → Tallied c place xs (memory (with_events m v es)) (instructions_in c place m.pc es)
events_tallied memory of c m v place xs [] is below small =
    record { counters = xs; is = is; number = omega arith; long = refl }
events_tallied memory of c m v place xs (e ∷ es) is below small =
    let one = event_tallied memory of c m v e.tick place xs e.what is below in
    let begins : Bool = is_access_with (λ d. is_counted_fetch c place m.pc d) e.what in
    let below' : place < length one.counters = omega (arith, one.long, below) in
    let small' : get_or one.counters place 0 ≤ cap =
    stays_small begins (get_or xs place 0) (get_or one.counters place 0) small one.number in
    let rest =
    events_tallied memory of c m (with_event m v e.tick e.what) place one.counters es one.is below' small' in
    record {
      counters = rest.counters;
      is = rest.is;
      number =
          one_then begins (get_or xs place 0) (get_or one.counters place 0) (instructions_in c place m.pc es)
          (get_or rest.counters place 0) small one.number rest.number;
      long = rest.long ∙ one.long;
    }

-- what a step makes of it: that of a stopped machine has no events
step_by : (memory : Survey → CodeCounts) → IsMemory memory → (c : CodeCounts) (s : State) (v : Survey) (place : ℕ)
    (xs : List ℕ) (o : Option Stop) → s.stop ≡ o → memory v ≡ record c { counters = xs } → place < length xs
    → get_or xs place 0 ≤ cap
    → Tallied c place xs (memory (unless_stopped s v o)) (instructions_in c place s.registers.pc (step s).events)
unfolding step step_start_of
step_by memory of c s v place xs None stop is below small =
    let begun = of.begun (step_start_of s) v ∙ is in
    let all =
    events_tallied memory of c (step_start_of s) (with_step_begun (step_start_of s) v) place xs (step s).events begun
    below
    small in
    record {
      counters = all.counters;
      is = of.ended (with_events (step_start_of s) (with_step_begun (step_start_of s) v) (step s).events) ∙ all.is;
      number = all.number;
      long = all.long;
    }
step_by memory of c s v place xs (Some why) stop is below small =
    let none : (step s).events ≡ [] = ap (λ (o : Option Stop). (steps.unless_stopped s o).events) stop in
    rw none (record { counters = xs; is = is; number = omega arith; long = refl })

step_tallied : (memory : Survey → CodeCounts) → IsMemory memory → (c : CodeCounts) (s : State) (v : Survey)
    (place : ℕ) (xs : List ℕ) → memory v ≡ record c { counters = xs } → place < length xs → get_or xs place 0 ≤ cap
    → Tallied c place xs (memory (with_step s v)) (instructions_in c place s.registers.pc (step s).events)
unfolding with_step
step_tallied memory of c s v place xs is below small =
    step_by memory of c s v place xs s.stop refl is below small

steps_tallied : (memory : Survey → CodeCounts) → IsMemory memory → (n : ℕ) (s : State) (v : Survey) (place : ℕ)
    → place < length (memory v).counters → get_or (memory v).counters place 0 ≤ cap
    → Tallied (memory v) place (memory v).counters (memory (surveyed n s v)) (instructions_of (memory v) place n s)
unfolding surveyed instructions_of
steps_tallied memory of zero s v place below small =
    record { counters = (memory v).counters; is = refl; number = omega arith; long = refl }
steps_tallied memory of (suc n) s v place below small =
    let before = steps_tallied memory of n s v place below small in
    let below' : place < length before.counters = omega (arith, before.long, below) in
    let small' : get_or before.counters place 0 ≤ cap = omega (arith, before.number) in
    let one =
    step_tallied memory of (memory v) (after n s) (surveyed n s v) place before.counters before.is below' small' in
    record {
      counters = one.counters;
      is = one.is;
      number =
          two_runs (get_or (memory v).counters place 0) (get_or before.counters place 0) (get_or one.counters place 0)
          (instructions_of (memory v) place n s)
          (instructions_in (memory v) place (after n s).registers.pc (step (after n s)).events) _ before.number
          one.number refl;
      long = one.long ∙ before.long;
    }

-- ---- counters by address and privilege

-- a halfword of a memory has a counter for each privilege
halfword_below : (c : CodeCounts) (a : ℕ) → has_halfword c a ≡ true → halfword_of c a < c.halfwords
halfword_below c a has = grind (arith, common_steps, nat_tests, has)

place_below : (b : Bool) (h k : ℕ) → h < k → privilege_number b * k + h < 2 * k
place_below false h k below = omega arith
place_below true h k below = omega arith

code_counted : (memory : Survey → CodeCounts) → IsMemory memory → CodeIsCounted memory
code_counted memory of n s v privileged a long has small =
    let c = memory v in
    let place = code_place c privileged a in
    let inside = place_below privileged (halfword_of c a) c.halfwords (halfword_below c a has) in
    let below : place < length c.counters = omega (arith, inside, long) in
    let number : get_or c.counters place 0 ≤ cap = rw has at small in
    let all = steps_tallied memory of n s v place below number in
    rw (all.is, has) all.number

pub flash_counted : CodeIsCounted (λ v. v.flash_code)
flash_counted = code_counted (λ v. v.flash_code) flash_is

pub ram_counted : CodeIsCounted (λ v. v.ram_code)
ram_counted = code_counted (λ v. v.ram_code) ram_is

-- numbers below k, each with a privilege, that make one place are the same
same_place : (b b' : Bool) (h h' k : ℕ) → h < k → h' < k → privilege_number b * k + h ≡ privilege_number b' * k + h'
    → (b ≡ b') × (h ≡ h')
same_place false false h h' k below below' same = (refl, omega arith)
same_place true true h h' k below below' same = (refl, omega arith)
same_place false true h h' k below below' same = absurd (omega arith)
same_place true false h h' k below below' same = absurd (omega arith)

pub halfwords_differ : HalfwordsDiffer
halfwords_differ c b a b' a' has has' same =
    same_place b b' (halfword_of c a) (halfword_of c a') c.halfwords (halfword_below c a has)
    (halfword_below c a' has') same
