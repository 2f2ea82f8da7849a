-- What the counters of a survey are: numbers of events.
use Rattle.std.specs.Prelude.{◌≡◌, ℕ, ◌+◌, ◌-◌, ◌^◌, ◌<◌, ◌≤◌, min, Bool, ◌==◌, List, [], ◌∷◌}
use Rattle.std.specs.Prelude.{length, slice_index, if◌then◌else◌, Option}
use Rattle.platform.specs.declared.access.Cause.{Cause}
use Rattle.platform.specs.declared.access.Kind.{Kind}
use Rattle.platform.specs.declared.access.Rule.{Rule}
use Rattle.platform.specs.declared.event.Event.{Event}
use Rattle.platform.specs.declared.event.EventKind.{EventKind}
use Rattle.platform.specs.Events.{is_access_with}
use Rattle.reference.specs.Run.{events_of}
use Rattle.reference.specs.State.{State}
use Rattle.survey.specs.declared.survey.Survey.{Survey}
use Rattle.survey.specs.Counts.{number_of, place_of, place_of_access}
use Rattle.survey.specs.Surveys.{surveyed}

-- an event is an access that is counted at a place
abbrev pub is_counted_at : ℕ → EventKind → Bool
is_counted_at place what = is_access_with (λ d. place_of_access d == place) what

-- how many of some events are accesses that are counted at a place
abbrev pub events_at : ℕ → List Event → ℕ
events_at place [] = 0
events_at place (e ∷ es) = if is_counted_at place e.what then 1 + events_at place es else events_at place es

-- a counter of a survey after n steps has counted the events of these steps that are such accesses, up to its highest
-- value, beyond what it was before
abbrev pub CountsEvents : ℕ → State → Survey → Rule → Bool → Kind → Option Cause → Type 0
CountsEvents n s v rule privileged kind refused =
    let place = place_of rule privileged kind refused in
    place < length v.counts → slice_index v.counts place ≤ 2 ^ 64 - 1
    → number_of (surveyed n s v).counts rule privileged kind refused
    ≡ min (number_of v.counts rule privileged kind refused + events_at place (events_of n s)) (2 ^ 64 - 1)

-- two accesses that are counted at one place have the same rule, privilege, kind and outcome
abbrev pub IsPlaceOfOne : Rule → Bool → Kind → Option Cause → Rule → Bool → Kind → Option Cause → Type 0
IsPlaceOfOne rule privileged kind refused rule' privileged' kind' refused' =
    place_of rule privileged kind refused ≡ place_of rule' privileged' kind' refused'
    → (rule ≡ rule') × (privileged ≡ privileged') × (kind ≡ kind') × (refused ≡ refused')

-- each counter of each survey has counted such events
abbrev pub CountersCount : Type 0
CountersCount =
    (n : ℕ) (s : State) (v : Survey) (rule : Rule) (privileged : Bool) (kind : Kind) (refused : Option Cause)
    → CountsEvents n s v rule privileged kind refused

-- no two accesses that differ in rule, privilege, kind or outcome have one counter
abbrev pub CountersDiffer : Type 0
CountersDiffer =
    (rule : Rule) (privileged : Bool) (kind : Kind) (refused : Option Cause) (rule' : Rule) (privileged' : Bool)
    (kind' : Kind) (refused' : Option Cause)
    → IsPlaceOfOne rule privileged kind refused rule' privileged' kind' refused'
