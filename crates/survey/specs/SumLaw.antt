-- What sums of counters are: numbers of accesses.
use Rattle.std.specs.Prelude.{◌≡◌, ℕ, ◌+◌, ◌-◌, ◌%◌, ◌^◌, ◌≤◌, Bool, true, not, ◌&&◌, ◌==◌, nat_lt, List, []}
use Rattle.std.specs.Prelude.{◌∷◌}
use Rattle.std.specs.Prelude.{length, if◌then◌else◌}
use Rattle.platform.specs.declared.access.DecidedAccess.{DecidedAccess}
use Rattle.platform.specs.declared.event.Event.{Event}
use Rattle.platform.specs.declared.event.EventKind.{EventKind}
use Rattle.platform.specs.Events.{is_access_with}
use Rattle.reference.specs.Run.{events_of}
use Rattle.reference.specs.State.{State}
use Rattle.survey.specs.declared.survey.Survey.{Survey}
use Rattle.survey.specs.Counts.{place_of_access}
use Rattle.survey.specs.Surveys.{surveyed}

-- how many counters there are
abbrev pub counters : ℕ
counters = 11046

-- the sum of the counters whose places are chosen, of a list that begins at a place
abbrev pub sum_from : (ℕ → Bool) → ℕ → List ℕ → ℕ
sum_from chosen place [] = 0
sum_from chosen place (n ∷ ns) = (if chosen place then n else 0) + sum_from chosen (place + 1) ns

abbrev pub sum_of : (ℕ → Bool) → List ℕ → ℕ
sum_of chosen counts = sum_from chosen 0 counts

-- an access is counted at a chosen place; one that a region decides has a counter if its number is a byte, as the
-- numbers of regions are
abbrev pub is_chosen_access : (ℕ → Bool) → DecidedAccess → Bool
is_chosen_access chosen d = nat_lt (place_of_access d) counters && chosen (place_of_access d)

-- an event is such an access
abbrev pub is_chosen : (ℕ → Bool) → EventKind → Bool
is_chosen chosen what = is_access_with (is_chosen_access chosen) what

-- how many of some events are such accesses
abbrev pub chosen_in : (ℕ → Bool) → List Event → ℕ
chosen_in chosen [] = 0
chosen_in chosen (e ∷ es) = if is_chosen chosen e.what then 1 + chosen_in chosen es else chosen_in chosen es

-- all accesses, the ones that were granted and carried out, and the ones that were refused, by the places of their
-- counters
abbrev pub any_access : ℕ → Bool
any_access place = true

abbrev pub is_granted : ℕ → Bool
is_granted place = place % 3 == 0

abbrev pub is_refused : ℕ → Bool
is_refused place = not (is_granted place)

-- the sum of chosen counters after n steps has grown by the number of the steps' accesses that are counted at one of
-- them, as long as it has a value below 2^64
abbrev pub SumCounts : (ℕ → Bool) → ℕ → State → Survey → Type 0
SumCounts chosen n s v =
    length v.counts ≡ counters → sum_of chosen v.counts + chosen_in chosen (events_of n s) ≤ 2 ^ 64 - 1
    → sum_of chosen (surveyed n s v).counts ≡ sum_of chosen v.counts + chosen_in chosen (events_of n s)

-- each sum of counters of each survey has counted such events
abbrev pub SumsCount : Type 0
SumsCount = (chosen : ℕ → Bool) (n : ℕ) (s : State) (v : Survey) → SumCounts chosen n s v

-- the granted and the refused accesses together are all accesses
abbrev pub OutcomesAddUp : Type 0
OutcomesAddUp = (counts : List ℕ) → sum_of is_granted counts + sum_of is_refused counts ≡ sum_of any_access counts
