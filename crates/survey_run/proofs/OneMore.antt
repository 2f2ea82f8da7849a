-- A survey of one event more, and the moment of the next step.
use Rattle.std.proofs.Common.{◌≡◌, Bool, true, false, ◌||◌, List, [], ◌∷◌, ◌++◌, refl, sym, ap, ◌∙◌}
use Rattle.std.proofs.Math.Bool.{or-false}
use Rattle.std.proofs.lemmas.List.{map-append}
use Rattle.platform.specs.declared.event.Event.{Event}
use Rattle.reference.specs.State.{State}
use Rattle.reference.specs.Step.{step}
use Rattle.survey.proofs.Regions.{regions_stay}
use Rattle.survey.specs.RegionLaw.{some_writes_system, writes_system}
use Rattle.survey.specs.declared.step_start.StepStart.{StepStart}
use Rattle.survey.specs.declared.survey.Survey.{Survey}
use Rattle.survey.specs.Surveys.{step_start_of, with_event, with_events}
use Rattle.survey_run.specs.Begun.{events_of}

with_one_more : (m : StepStart) (v : Survey) (es : List Event) (e : Event)
    → with_events m v (es ++ e ∷ []) ≡ with_event m (with_events m v es) e.tick e.what
with_one_more m v [] e = refl
with_one_more m v (first ∷ es) e = with_one_more m (with_event m v first.tick first.what) es e

pub one_counted : (m start : StepStart) (v now new : Survey) (es later : List Event) (e : Event) → start ≡ m
    → now ≡ with_events m v es → new ≡ with_event start now e.tick e.what → later ≡ es ++ e ∷ []
    → new ≡ with_events m v later
one_counted m start v now new es later e same so_far one more =
    rw (more, with_one_more m v es e, ← so_far, ← same) one

-- the events of one pair more
pub more_events : (items later : List (Unit {0} × Event)) (e : Event) → later ≡ items ++ (tt, e) ∷ []
    → events_of later ≡ events_of items ++ e ∷ []
more_events items later e is = rw is (map-append (λ (entry : Unit {0} × Event). entry.1) items ((tt, e) ∷ []))

-- whether one of the events writes, with one event more

joined : (a x y z : Bool) → x ≡ (y || z) → (a || x) ≡ ((a || y) || z)
joined true x y z e = refl
joined false x y z e = e

one_written : (es : List Event) (e : Event)
    → some_writes_system (es ++ e ∷ []) ≡ (some_writes_system es || writes_system e.what)
one_written [] e = or-false (writes_system e.what)
one_written (first ∷ es) e = joined (writes_system first.what) _ _ _ (one_written es e)

pub more_written : (before now : Bool) (es later : List Event) (e : Event) → before ≡ some_writes_system es
    → now ≡ (before || writes_system e.what) → later ≡ es ++ e ∷ [] → now ≡ some_writes_system later
more_written before now es later e so_far is more = rw (more, one_written es e, ← so_far) is

-- after a step without such a write the registers of the MPU are those of its moment
pub still_known : (s : State) (m : StepStart) (wrote : Bool) → m ≡ step_start_of s
    → wrote ≡ some_writes_system (step s).events → wrote ≡ false → (step s).state.bus.system.mpu ≡ m.mpu
unfolding step_start_of
still_known s m wrote is wrote_is none =
    regions_stay s (sym wrote_is ∙ none) ∙ sym (ap (λ (n : StepStart). n.mpu) is)
