-- Whether one of the events writes to the Private Peripheral Bus, with one event more.
use Rattle.std.proofs.Common.{◌≡◌, Bool, true, false, ◌||◌, List, [], ◌∷◌, ◌++◌, refl}
use Rattle.std.proofs.Math.Bool.{or-false}
use Rattle.std.proofs.lemmas.List.{map-append}
use Rattle.platform.specs.declared.event.Event.{Event}
use Rattle.survey.specs.RegionLaw.{some_writes_system, writes_system}
use Rattle.survey_run.specs.CountModel.{events_of}

-- the events of one pair more
pub more_events : (items later : List (Unit {0} × Event)) (e : Event) → later ≡ items ++ (tt, e) ∷ []
    → events_of later ≡ events_of items ++ e ∷ []
more_events items later e is = rw is (map-append (λ (entry : Unit {0} × Event). entry.1) items ((tt, e) ∷ []))

joined : (a x y z : Bool) → x ≡ (y || z) → (a || x) ≡ ((a || y) || z)
joined true x y z e = refl
joined false x y z e = e

one_written : (es : List Event) (e : Event)
    → some_writes_system (es ++ e ∷ []) ≡ (some_writes_system es || writes_system e.what)
one_written [] e = or-false (writes_system e.what)
one_written (first ∷ es) e = joined (writes_system first.what) _ _ _ (one_written es e)

pub more_written : (before now : Bool) (es later : List Event) (e : Event) → before ≡ some_writes_system es
    → now ≡ (before || writes_system e.what) → later ≡ es ++ e ∷ [] → now ≡ some_writes_system later
more_written before now es later e so_far is more = rw (more, one_written es e, ← so_far) is
