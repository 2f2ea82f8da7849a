-- Going back in time: where a run backwards ends (GDB manual, "Packets", bs and bc; profile).
use Rattle.std.specs.Prelude.{ℕ, zero, suc, ◌+◌, ◌-◌, nat_lt, nat_le, Bool, true, false, ◌||◌, ◌&&◌, if◌then◌else◌}
use Rattle.std.specs.Prelude.{List, [], ◌∷◌, Option, Some, None}
use Rattle.gdb.specs.declared.searches.FoundPlace.{FoundPlace}
use Rattle.gdb.specs.declared.searches.SearchScope.{SearchScope}
use Rattle.gdb.specs.declared.searches.Way.{Way}
use Rattle.gdb.specs.declared.searches.Way.TheVariants as way
use Rattle.gdb.specs.declared.slices.Points.{Points}
use Rattle.gdb.specs.Reasons.{first_hit, has_entry, reason_at_breakpoint, reason_if, reason_of_events, reason_or}
use Rattle.gdb.specs.Reasons.{watch_reason}
use Rattle.gdb_past.specs.Places.{tick_of}
use Rattle.gdb_texts.specs.declared.settings.Settings.{Settings}
use Rattle.gdb_texts.specs.declared.stops.StopReason.{StopReason}
use Rattle.gdb_texts.specs.declared.stops.StopReason.TheVariants as reason
use Rattle.machine.specs.NextStep.{is_instruction_next}
use Rattle.platform.specs.declared.event.Event.{Event}
use Rattle.reference.specs.Run.{after}
use Rattle.reference.specs.State.{State}
use Rattle.reference.specs.Step.{step}

-- ---- why a run backwards ends at a place. `before` is whether the place is before the tick at which it began

-- whether the next step ends a unit: an Instruction step, or one that enters a handler
abbrev pub ends_unit : State → Bool
ends_unit s = is_instruction_next s || has_entry (step s).events

-- at the end of the step from a state
abbrev pub reason_of_step : Way → Points → Settings → Bool → State → Option StopReason
reason_of_step way.Step points k before s = reason_if (before && ends_unit s) reason.Done
reason_of_step way.Continue points k before s =
    reason_or (watch_reason (first_hit points.watchpoints (step s).events))
    (if before then reason_of_events k (step s).events else None)

-- before the next step from a state
abbrev pub reason_of_next : Way → Points → State → Option StopReason
reason_of_next way.Step points s = None
reason_of_next way.Continue points s = reason_at_breakpoint points.breakpoints s

-- at a mark: a write may have been there
abbrev pub reason_of_mark : Way → Points → Bool → State → Option StopReason
reason_of_mark way.Step points before m = reason_if before reason.Done
reason_of_mark way.Continue points before m = if before then reason_at_breakpoint points.breakpoints m else None

-- at the place that the step from a state leads to. `continues` is whether the next step there is made from this place:
-- at the tick of a mark it is made from the mark, which comes after the end of the step
abbrev pub reason_there : Way → Points → Settings → Bool → Bool → State → Option StopReason
reason_there w points k before continues s =
    reason_or (reason_of_step w points k before s)
    (if continues then reason_of_next w points (step s).state else None)

-- ---- the last place with a reason among those that lie so many steps after a mark

abbrev pub found_if : ℕ → Option StopReason → Option FoundPlace → Option FoundPlace
found_if steps None earlier = earlier
found_if steps (Some why) earlier = Some (record { steps = steps; reason = why })

-- after n + 1 steps from a mark
abbrev pub reason_after_steps : SearchScope → Points → Settings → State → ℕ → Option StopReason
reason_after_steps q points k m n =
    reason_there q.way points k (nat_lt (tick_of m + suc n) q.now)
    (q.continues || nat_lt (tick_of m + suc n) q.end) (after n m)

-- the last one among the n places after the first `low` ones
unfoldable pub last_found : SearchScope → Points → Settings → State → ℕ → ℕ → Option FoundPlace
last_found q points k m low zero = None
last_found q points k m low (suc n) =
    found_if (suc (low + n)) (reason_after_steps q points k m (low + n)) (last_found q points k m low n)

-- the mark itself
abbrev pub mark_found : SearchScope → Points → State → Option FoundPlace
mark_found q points m = found_if 0 (reason_of_mark q.way points (nat_lt (tick_of m) q.now) m) None

abbrev pub found_or : Option FoundPlace → Option FoundPlace → Option FoundPlace
found_or None earlier = earlier
found_or (Some found) earlier = Some found

-- the places after the tick `low` and up to the search's end, and the mark where it isn't below that tick
abbrev pub found_from : SearchScope → Points → Settings → ℕ → State → Option FoundPlace
found_from q points k low m =
    found_or
    (last_found q points k m (low - tick_of m) (q.end - tick_of m - (low - tick_of m)))
    (if nat_le low (tick_of m) then mark_found q points m else None)

-- ---- a place in the past

pub record Place : Type 0 where
  pub state : State
  pub reason : StopReason
  -- the events of the step that ends there, where the run backwards ends for what happened in it
  pub events : List Event
  -- the marks up to there
  pub marks : List State

-- whether a run ends for what happened in a step
abbrev pub is_of_step : StopReason → Bool
is_of_step reason.Done = false
is_of_step (reason.Breakpoint kind) = false
is_of_step (reason.Watchpoint kind address) = true
is_of_step reason.PastBegins = false
is_of_step reason.StoppedBefore = false
is_of_step (reason.Stopped why) = false
is_of_step (reason.Refused cause) = true
is_of_step reason.Fault = true
is_of_step reason.Entered = true
is_of_step reason.Interrupted = false

-- the events of the last one of some steps from a mark, where a run ends for what happened in it
abbrev pub events_for : StopReason → State → ℕ → List Event
events_for why m zero = []
events_for why m (suc n) = if is_of_step why then (step (after n m)).events else []

abbrev pub place_of : List State → State → FoundPlace → Place
place_of marks m found = record {
  state = after found.steps m;
  reason = found.reason;
  events = events_for found.reason m found.steps;
  marks = marks;
}

-- the first mark: the past begins there
abbrev pub begins : State → Place
begins m = place_of (m ∷ []) m (record { steps = 0; reason = reason.PastBegins })

-- ---- the marks, the last one first

-- the search goes on before a mark
abbrev pub before_mark : SearchScope → State → SearchScope
before_mark q m = record q { end = tick_of m; continues = false }

abbrev pub place_or : List State → State → Option FoundPlace → Option Place → Option Place
place_or marks m None earlier = earlier
place_or marks m (Some found) earlier = Some (place_of marks m found)

-- the last place with a reason after the tick `low`, or where the past begins; none where only earlier places are left.
-- `oldest` is the mark before these ones in the list. A mark after the search's end is passed over
unfoldable pub place_back : SearchScope → Points → Settings → ℕ → State → List State → Option Place
place_back q points k low oldest [] = Some (begins oldest)
place_back q points k low oldest (m ∷ marks) =
    if nat_lt q.end (tick_of m) then place_back q points k low m marks
    else place_or (m ∷ marks) m (found_from q points k low m)
    (if nat_le low (tick_of m) then place_back (before_mark q m) points k low m marks else None)
