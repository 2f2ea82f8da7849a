-- The timeline of a survey shows the steps that were made.
use Rattle.std.proofs.Common.{◌≡◌, ℕ, zero, suc, ◌+◌, ◌*◌, ◌^◌, ◌<◌, Bool, true, false, cond, ◌||◌, ◌==◌, nat_lt}
use Rattle.std.proofs.Common.{List, []}
use Rattle.std.proofs.Common.{◌∷◌, Option, Some, None, refl, ap, ◌∙◌, arith, get_or, add-one, inl, inr}
use Rattle.std.proofs.lemmas.Bool.{lt-ltb, eq-eqb, ne_eqb, cases_eq}
use Rattle.std.proofs.Math.Bool.{or_assoc, or-false}
use Rattle.std.specs.Option.{option_map_or}
use Rattle.instruction_set.specs.Words.{is_bit}
use Rattle.platform.specs.declared.access.DecidedAccess.{DecidedAccess}
use Rattle.platform.specs.declared.event.Event.{Event}
use Rattle.platform.specs.declared.event.EventKind.{EventKind}
use Rattle.platform.specs.declared.event.RecordedFault.{RecordedFault}
use Rattle.platform.specs.declared.stop.Stop.{Stop}
use Rattle.platform.specs.Events.{access_of, byte_of, recorded_fault_of}
use Rattle.reference.specs.Run.{after}
use Rattle.reference.specs.State.{State}
use Rattle.reference.specs.Step.{step}
use Rattle.survey.specs.declared.mark.Mark.{Mark}
use Rattle.survey.specs.declared.step_start.StepStart.{StepStart}
use Rattle.survey.specs.declared.survey.Survey.{Survey}
use Rattle.survey.specs.Surveys.{step_start_of, surveyed, unless_stopped, with_event, with_events, with_parts}
use Rattle.survey.specs.Surveys.{with_step}
use Rattle.survey.specs.Surveys.{with_step_begun}
use Rattle.survey.specs.TimeLaw.{IsBlank, TimelineShows, event_makes, events_make, is_mark, makes, some_makes}
use Rattle.survey.specs.TimeLaw.{step_makes, ticks_in}
use Rattle.survey.specs.Timeline.{Timeline, appended, begun, has_mark, joined, lanes_after, mark_number}
use Rattle.survey.specs.Timeline.{mark_of_access, marked, marked_by}
use Rattle.survey.specs.Timeline.{running_mark, with_tick}
use Rattle.survey.proofs.Columns.{Fits, Stands, begun_fits, marked_fits, tick_done}

-- a timeline whose last tick is being marked: the columns before are done, and what was marked so far is `more`
record Marking (f : ℕ → Bool) (k n last : ℕ) (more : Bool) (t : Timeline) : Type 0 where
  any : 0 < t.used
  next : t.filled ≡ last + 1
  fits : Fits f k n last more t

-- a mark changes no number of the timeline
record SameTicks (t u : Timeline) : Type 0 where
  used : u.used ≡ t.used
  filled : u.filled ≡ t.filled

same_ticks : (t : Timeline) (b : Bool) (columns : List ℕ) → SameTicks t (cond b (record t { columns = columns }) t)
same_ticks t true columns = record { used = refl; filled = refl }
same_ticks t false columns = record { used = refl; filled = refl }

one_mark : (f : ℕ → Bool) (k n last : ℕ) (more : Bool) (t : Timeline) (mark : Mark) → Marking f k n last more t
    → Marking f k n last (more || (mark_number mark == k)) (marked t mark)
one_mark f k n last more t mark before =
    let same = same_ticks t (nat_lt 0 t.used) _ in
    record {
      any = rw same.used before.any;
      next = same.filled ∙ before.next;
      fits = marked_fits f k n last more t mark before.any before.fits;
    }

mark_if : (f : ℕ → Bool) (k n last : ℕ) (more : Bool) (t : Timeline) (mark : Option Mark) → Marking f k n last more t
    → Marking f k n last (more || is_mark k mark) (marked_by t mark)
mark_if f k n last more t None before = rw (or-false more) before
mark_if f k n last more t (Some mark) before = one_mark f k n last more t mark before

parts_marked : (f : ℕ → Bool) (k n last : ℕ) (more : Bool) (m : StepStart) (v : Survey) (tick : ℕ)
    (access : Option DecidedAccess) (byte : Option ℕ) (fault : Option RecordedFault)
    → Marking f k n last more v.timeline
    → Marking f k n last (more || option_map_or (λ d. is_mark k (mark_of_access d)) access false)
    (with_parts m v tick access byte fault).timeline
parts_marked f k n last more m v tick None byte fault before = rw (or-false more) before
parts_marked f k n last more m v tick (Some d) byte fault before =
    mark_if f k n last more v.timeline (mark_of_access d) before

event_marked : (f : ℕ → Bool) (k n last : ℕ) (more : Bool) (m : StepStart) (v : Survey) (tick : ℕ) (what : EventKind)
    → Marking f k n last more v.timeline
    → Marking f k n last (more || event_makes k what) (with_event m v tick what).timeline
unfolding with_event
event_marked f k n last more m v tick what before =
    parts_marked f k n last more m v tick (access_of what) (byte_of what) (recorded_fault_of what) before

events_marked : (f : ℕ → Bool) (k n last : ℕ) (more : Bool) (m : StepStart) (v : Survey) (es : List Event)
    → Marking f k n last more v.timeline
    → Marking f k n last (more || events_make k es) (with_events m v es).timeline
events_marked f k n last more m v [] before = rw (or-false more) before
events_marked f k n last more m v (e ∷ es) before =
    let one = event_marked f k n last more m v e.tick e.what before in
    let all = events_marked f k n last (more || event_makes k e.what) m (with_event m v e.tick e.what) es one in
    rw (or_assoc more (event_makes k e.what) (events_make k es)) at all

-- the lanes don't change when a tick begins
lanes_by : (t : Timeline) (filled joins : Bool)
    → (cond filled (record t { filled = t.filled + 1 }) (cond joins (appended (joined t)) (appended t))).handlers
    ≡ t.handlers
lanes_by t true joins = refl
lanes_by t false true = refl
lanes_by t false false = refl

pub begun_lanes : (t : Timeline) → (begun t).handlers ≡ t.handlers
begun_lanes t = lanes_by t (nat_lt t.filled t.column_ticks) (t.used == 1024)

-- other lanes are no other columns
relaned : (f : ℕ → Bool) (k n last : ℕ) (more : Bool) (t : Timeline) (handlers : List ℕ) → Fits f k n last more t
    → Fits f k n last more (record t { handlers = handlers })
relaned f k n last more t handlers fits = record {
  long = fits.long;
  few = fits.few;
  some = fits.some;
  full = fits.full;
  total = fits.total;
  whole = fits.whole;
  final = fits.final;
}

-- a tick that has begun gets the mark of what runs
record Ran (f : ℕ → Bool) (k n : ℕ) (more : Bool) (t : Timeline) : Type 0 where
  last : ℕ
  marking : Marking f k (n + 1) last more t

ran_so : (f : ℕ → Bool) (k n : ℕ) (more other : Bool) (t : Timeline) → more ≡ other → Ran f k n more t
    → Ran f k n other t
ran_so f k n more other t e ran = rw (← e) ran

tick_ran : (f : ℕ → Bool) (k n : ℕ) (t : Timeline) (m : StepStart) → Stands f k n t → n < 2 ^ 64
    → Ran f k n (mark_number (running_mark t.handlers m) == k) (with_tick t m)
unfolding with_tick
tick_ran f k n t m stands small =
    let first = begun_fits f k n t stands small in
    let u = begun t in
    let lanes = lanes_after u.handlers m in
    let before : Marking f k (n + 1) first.last false (record u { handlers = lanes }) = record {
      any = first.any;
      next = first.next;
      fits = relaned f k (n + 1) first.last false u lanes first.fits;
    } in
    ran_so f k n (mark_number (running_mark u.handlers m) == k) (mark_number (running_mark t.handlers m) == k) _
    (ap (λ handlers. mark_number (running_mark handlers m) == k) (begun_lanes t)) (record {
      last = first.last;
      marking =
          one_mark f k (n + 1) first.last false (record u { handlers = lanes }) (running_mark u.handlers m) before;
    })

-- a step was made
step_stands : (f : ℕ → Bool) (k n : ℕ) (s : State) (v : Survey) → Stands f k n v.timeline → n < 2 ^ 64
    → f n ≡ step_makes k v.timeline.handlers s → s.stop ≡ None → Stands f k (n + 1) (with_step s v).timeline
unfolding with_step
step_stands f k n s v stands small is runs =
    let m = step_start_of s in
    let one = tick_ran f k n v.timeline m stands small in
    let all = events_marked f k (n + 1) one.last (mark_number (running_mark v.timeline.handlers m) == k) m
    (with_step_begun m v) (step s).events one.marking in
    let t = (with_events m (with_step_begun m v) (step s).events).timeline in
    let fits : Fits f k (n + 1) one.last (f n) t = rw is all.fits in
    rw (ap (λ (o : Option Stop). (unless_stopped s v o).timeline) runs) (tick_done f k n one.last t all.next fits)

-- the steps so far
blank_stands : (f : ℕ → Bool) (k : ℕ) (t : Timeline) → IsBlank t → Stands f k 0 t
blank_stands f k t blank = record {
  long = blank.long;
  few = omega (arith, blank.used);
  some = omega (arith, blank.column_ticks);
  full = omega (arith, blank.column_ticks, blank.filled);
  total = rw (blank.used, blank.column_ticks, blank.filled) refl;
  whole = λ c below. absurd (omega (arith, blank.used, below));
  final = λ c is. absurd (omega (arith, blank.used, is));
}

renumbered : (f : ℕ → Bool) (k m n : ℕ) (t : Timeline) → m ≡ n → Stands f k m t → Stands f k n t
renumbered f k m n t e stands = rw (← e) stands

steps_stand : (k n : ℕ) (s : State) (v : Survey) → IsBlank v.timeline → ((j : ℕ) → j < n → (after j s).stop ≡ None)
    → n < 2 ^ 64 → Stands (makes s v k) k n (surveyed n s v).timeline
unfolding surveyed
steps_stand k zero s v blank runs small = blank_stands (makes s v k) k v.timeline blank
steps_stand k (suc n) s v blank runs small =
    let before = steps_stand k n s v blank (λ j below. runs j (omega (arith, below))) (omega (arith, small)) in
    let one = step_stands (makes s v k) k n (after n s) (surveyed n s v) before (omega (arith, small)) refl
    (runs n (omega arith)) in
    renumbered (makes s v k) k (n + 1) (suc n) _ (add-one n) one

-- a column's mark is its bit
shown_by : (t : Timeline) (column : ℕ) (mark : Mark) → column < t.used → mark_number mark < 30
    → has_mark t column mark ≡ is_bit (get_or t.columns column 0) (mark_number mark)
shown_by t column mark used lane =
    rw (lt-ltb column t.used used, lt-ltb (mark_number mark) 30 lane) refl

column_shown : (f : ℕ → Bool) (k n : ℕ) (t : Timeline) → Stands f k n t → (column : ℕ) → column < t.used
    → is_bit (get_or t.columns column 0) k ≡ some_makes f (column * t.column_ticks) (ticks_in t column)
column_shown f k n t stands column below = elim (cases_eq (column + 1) t.used) [
  | inl is ↦ rw (eq-eqb (column + 1) t.used is) (stands.final column is ∙ or-false _)
  | inr apart ↦ rw (ne_eqb (column + 1) t.used apart) (stands.whole column (omega (arith, below, apart)))
]

pub timeline_shows : (n : ℕ) (s : State) (v : Survey) → TimelineShows n s v
timeline_shows n s v blank runs small = record {
  total = (steps_stand 0 n s v blank runs small).total;
  marks = λ column mark used lane.
      let t = (surveyed n s v).timeline in
      shown_by t column mark used lane
      ∙ column_shown (makes s v (mark_number mark)) (mark_number mark) n t
      (steps_stand (mark_number mark) n s v blank runs small) column used;
}
