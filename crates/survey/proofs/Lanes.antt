-- An exception that has a lane keeps it.
use Rattle.std.proofs.Common.{◌≡◌, ℕ, zero, suc, ◌+◌, Bool, true, false, cond, ◌&&◌, ◌==◌, nat_lt, List, [], ◌∷◌}
use Rattle.std.proofs.Common.{◌++◌, length}
use Rattle.std.proofs.Common.{Option, Some, None, refl, sym, ap, ◌∙◌, append_assoc, add-zero}
use Rattle.std.proofs.lemmas.List.{append-nil}
use Rattle.std.proofs.Math.Nat.{add-suc}
use Rattle.platform.specs.declared.access.DecidedAccess.{DecidedAccess}
use Rattle.platform.specs.declared.event.Event.{Event}
use Rattle.platform.specs.declared.event.EventKind.{EventKind}
use Rattle.platform.specs.declared.event.RecordedFault.{RecordedFault}
use Rattle.platform.specs.declared.stop.Stop.{Stop}
use Rattle.platform.specs.Events.{access_of, byte_of, recorded_fault_of}
use Rattle.reference.specs.Run.{after}
use Rattle.reference.specs.State.{State}
use Rattle.reference.specs.Step.{step}
use Rattle.survey.specs.declared.mark.Mark.{Mark}
use Rattle.survey.specs.declared.step_start.StepStart.{StepStart}
use Rattle.survey.specs.declared.survey.Survey.{Survey}
use Rattle.survey.specs.Surveys.{step_start_of, surveyed, unless_stopped, with_event, with_events, with_parts}
use Rattle.survey.specs.Surveys.{with_step}
use Rattle.survey.specs.Surveys.{with_step_begun}
use Rattle.survey.specs.TimeLaw.{BeginsWith, LanesStay}
use Rattle.survey.specs.Timeline.{Timeline, begun, lane_in, lanes_after, mark_of_access, marked, marked_by}
use Rattle.survey.specs.Timeline.{max_lanes}
use Rattle.survey.specs.Timeline.{running_mark, with_tick}
use Rattle.survey.proofs.Times.{begun_lanes}

-- Marks leave the lanes

lanes_if : (is : Bool) (t : Timeline) (columns : List ℕ)
    → (cond is (record t { columns = columns }) t).handlers ≡ t.handlers
lanes_if true t columns = refl
lanes_if false t columns = refl

marked_lanes : (t : Timeline) (mark : Mark) → (marked t mark).handlers ≡ t.handlers
marked_lanes t mark = lanes_if (nat_lt 0 t.used) t _

marked_by_lanes : (t : Timeline) (mark : Option Mark) → (marked_by t mark).handlers ≡ t.handlers
marked_by_lanes t None = refl
marked_by_lanes t (Some mark) = marked_lanes t mark

parts_lanes : (m : StepStart) (v : Survey) (tick : ℕ) (access : Option DecidedAccess) (byte : Option ℕ)
    (fault : Option RecordedFault) → (with_parts m v tick access byte fault).timeline.handlers ≡ v.timeline.handlers
parts_lanes m v tick None byte fault = refl
parts_lanes m v tick (Some d) byte fault = marked_by_lanes v.timeline (mark_of_access d)

event_lanes : (m : StepStart) (v : Survey) (tick : ℕ) (what : EventKind)
    → (with_event m v tick what).timeline.handlers ≡ v.timeline.handlers
unfolding with_event
event_lanes m v tick what = parts_lanes m v tick (access_of what) (byte_of what) (recorded_fault_of what)

events_lanes : (m : StepStart) (v : Survey) (es : List Event)
    → (with_events m v es).timeline.handlers ≡ v.timeline.handlers
events_lanes m v [] = refl
events_lanes m v (e ∷ es) = events_lanes m (with_event m v e.tick e.what) es ∙ event_lanes m v e.tick e.what

-- A tick leaves them or appends one

same : (xs : List ℕ) → BeginsWith xs xs
same xs = record { rest = []; is = sym (append-nil xs) }

one_lane : (asleep thread new : Bool) (handlers : List ℕ) (exception : ℕ)
    → BeginsWith handlers (cond asleep handlers (cond thread handlers (cond new (handlers ++ exception ∷ []) handlers)))
one_lane true thread new handlers exception = same handlers
one_lane false true new handlers exception = same handlers
one_lane false false true handlers exception = record { rest = exception ∷ []; is = refl }
one_lane false false false handlers exception = same handlers

lanes_begin : (handlers : List ℕ) (m : StepStart) → BeginsWith handlers (lanes_after handlers m)
lanes_begin handlers m =
    let lane = lane_in m.exception handlers in
    one_lane m.asleep (m.exception == 0) ((lane == length handlers) && nat_lt lane max_lanes) handlers m.exception

tick_lanes : (t : Timeline) (m : StepStart) → (with_tick t m).handlers ≡ lanes_after t.handlers m
unfolding with_tick
tick_lanes t m =
    let u = begun t in
    marked_lanes (record u { handlers = lanes_after u.handlers m }) (running_mark u.handlers m)
    ∙ ap (λ handlers. lanes_after handlers m) (begun_lanes t)

-- Steps

step_by : (s : State) (v : Survey) (o : Option Stop)
    → BeginsWith v.timeline.handlers (unless_stopped s v o).timeline.handlers
step_by s v None =
    let m = step_start_of s in
    let one = lanes_begin v.timeline.handlers m in
    record {
      rest = one.rest;
      is = events_lanes m (with_step_begun m v) (step s).events ∙ tick_lanes v.timeline m ∙ one.is;
    }
step_by s v (Some why) = same v.timeline.handlers

step_lanes : (s : State) (v : Survey) → BeginsWith v.timeline.handlers (with_step s v).timeline.handlers
unfolding with_step
step_lanes s v = step_by s v s.stop

both : (xs ys zs : List ℕ) → BeginsWith xs ys → BeginsWith ys zs → BeginsWith xs zs
both xs ys zs one other = record {
  rest = one.rest ++ other.rest;
  is = other.is ∙ ap (λ list. list ++ other.rest) one.is ∙ append_assoc xs one.rest other.rest;
}

renumbered : (xs : List ℕ) (i j : ℕ) (s : State) (v : Survey) → i ≡ j
    → BeginsWith xs (surveyed i s v).timeline.handlers → BeginsWith xs (surveyed j s v).timeline.handlers
renumbered xs i j s v e begins = rw (← e) begins

one_more : (n : ℕ) (s : State) (v : Survey)
    → BeginsWith (surveyed n s v).timeline.handlers (surveyed (suc n) s v).timeline.handlers
unfolding surveyed
one_more n s v = step_lanes (after n s) (surveyed n s v)

pub lanes_stay : LanesStay
lanes_stay n zero s v = renumbered _ n (n + 0) s v (sym (add-zero n)) (same (surveyed n s v).timeline.handlers)
lanes_stay n (suc k) s v =
    renumbered _ (suc (n + k)) (n + suc k) s v (sym (add-suc n k))
    (both _ _ _ (lanes_stay n k s v) (one_more (n + k) s v))
