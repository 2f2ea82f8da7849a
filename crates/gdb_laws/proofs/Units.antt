-- A run of `s` makes at most one unit: no step but its last one ends a unit.
use Rattle.std.proofs.Common.{◌≡◌, ◌∙◌, ℕ, zero, suc, ◌+◌, ◌-◌, ◌<◌, nat_le, Bool, true, false, not, ◌&&◌, List}
use Rattle.std.proofs.Common.{[], ◌∷◌, Option, Some, None, ap, arith, if◌then◌else◌, inl, inr, is_some, refl, subst}
use Rattle.std.proofs.Common.{sym, unwrap_or}
use Rattle.std.specs.Prelude.{⊤}
use Rattle.std.proofs.lemmas.Bool.{cases_lt, cond_both}
use Rattle.gdb.specs.declared.over.ReturnPoint.{ReturnPoint}
use Rattle.gdb.specs.declared.slices.Plan.{Plan}
use Rattle.gdb.specs.declared.slices.Points.{Points}
use Rattle.gdb.specs.declared.turns.Run.{Run}
use Rattle.gdb.specs.Over.{remembered_after}
use Rattle.gdb.specs.Reasons.{fault_reason, first_cause, first_hit, has_entry, has_fault, reason_if, reason_in_unit}
use Rattle.gdb.specs.Reasons.{reason_of_events, reason_or, refusal_reason, stop_reason, watch_reason}
use Rattle.gdb.specs.declared.turns.Turn.{Turn}
use Rattle.gdb.specs.declared.turns.Turn.TheVariants.{Asks, Ends}
use Rattle.gdb.specs.Searches.{ends_unit}
use Rattle.gdb.proofs.Unwatched.{none_hit}
use Rattle.gdb.specs.Slices.{Flow, Sliced, after_pieces, at_rest, before_step, hit_next, one_step}
use Rattle.gdb.specs.Slices.{reason_then, returns_then, slice, unless_ended}
use Rattle.gdb.specs.Turns.{Turned, asked_or, begun, ended_or, flushed, flushing, max_slice_steps}
use Rattle.gdb.specs.Turns.{slices, turn, with_pieces}
use Rattle.gdb_laws.proofs.Made.{Made, after_both, early_both, early_from, early_none, going_both, goes_from}
use Rattle.gdb_laws.proofs.Made.{last-append, made_both, made_none, made_step}
use Rattle.gdb_laws.specs.RunLaw.{IsEarly}
use Rattle.gdb_past.specs.Places.{tick_of}
use Rattle.gdb_texts.specs.declared.actions.Resume.TheVariants.{Step}
use Rattle.gdb_texts.specs.declared.features.Features.{Features}
use Rattle.gdb_texts.specs.declared.settings.Settings.{Settings}
use Rattle.gdb_texts.specs.declared.points.Breakpoint.{Breakpoint}
use Rattle.gdb_texts.specs.declared.stops.Signal.TheVariants.{Trap}
use Rattle.gdb_texts.specs.declared.stops.StopReason.{StopReason}
use Rattle.gdb_texts.specs.declared.stops.StopReason.TheVariants as reason
use Rattle.gdb_texts.specs.declared.watchpoints.Watchpoint.{Watchpoint}
use Rattle.gdb_texts.specs.Stops.{signal_of}
use Rattle.platform.specs.declared.access.Cause.{Cause}
use Rattle.platform.specs.declared.access.Cause.TheVariants as cause
use Rattle.platform.specs.declared.event.Event.{Event}
use Rattle.platform.specs.declared.stop.Stop.{Stop}
use Rattle.platform.specs.declared.stop.Stop.TheVariants.{StepLimit}
use Rattle.reference.specs.Run.{after}
use Rattle.reference.specs.State.{State}
use Rattle.reference.specs.Step.{step}
use Rattle.serving.specs.Pieces.{last_state}

-- no step of n from a state ends a unit
abbrev pub NoneEnds : State → ℕ → Type 0
NoneEnds s n = (i : ℕ) → i < n → ends_unit (after i s) ≡ false

-- no step but the last one does
abbrev pub OnlyLastEnds : State → ℕ → Type 0
OnlyLastEnds s n = (i : ℕ) → suc i < n → ends_unit (after i s) ≡ false

last_only : (s : State) (n : ℕ) → NoneEnds s n → OnlyLastEnds s n
last_only s n none i below = none i (omega (arith, below))

ends_none : (s : State) → NoneEnds s 0
ends_none s i below = absurd (omega (arith, below))

ends_both : (s : State) (m n : ℕ) → NoneEnds s m → NoneEnds (after m s) n → NoneEnds s (m + n)
ends_both s m n first next i below = elim (cases_lt i m) [
  | inl early ↦ first i early
  | inr late ↦ (let e : m + (i - m) ≡ i = omega (arith, late) in
      let b : i - m < n = omega (arith, late, below) in
      ap (λ (j : ℕ). ends_unit (after j s)) (sym e) ∙ (ap ends_unit (after_both m (i - m) s) ∙ next (i - m) b))
]

last_both : (s : State) (m n : ℕ) → NoneEnds s m → OnlyLastEnds (after m s) n → OnlyLastEnds s (m + n)
last_both s m n first next i below = elim (cases_lt i m) [
  | inl early ↦ first i early
  | inr late ↦ (let e : m + (i - m) ≡ i = omega (arith, late) in
      let b : suc (i - m) < n = omega (arith, late, below) in
      ap (λ (j : ℕ). ends_unit (after j s)) (sym e) ∙ (ap ends_unit (after_both m (i - m) s) ∙ next (i - m) b))
]

-- ---- a step that ends a unit ends the run

none_done : (a b : Option StopReason) (away done : Bool) → away ≡ false
    → reason_or a (reason_or b (reason_if (not away && (done && true)) reason.Done)) ≡ None → done ≡ false
none_done (Some r) b away done here is = absurd cc
none_done None (Some r) away done here is = absurd cc
none_done None None true done here is = absurd cc
none_done None None false true here is = absurd cc
none_done None None false false here is = refl

not_away : (over : Bool) (returns_to : Option ReturnPoint) (s : State) → over ≡ false → returns_to ≡ None
    → remembered_after (over && true) returns_to s ≡ None
not_away over returns_to s into none = rw (into, none) refl

abbrev step_plan : ℕ → Settings → Plan
step_plan limit k = record { how = Step; limit = limit; settings = k }

-- ---- a run that ends with SIGTRAP, where no point is set and the machine goes on, has made a unit

-- the last one of n steps ended a unit
pub record EndsIn (s : State) (n : ℕ) : Type 0 where
  pub index : ℕ
  pub is : n ≡ suc index
  pub unit : ends_unit (after index s) ≡ true

ends_after : (s : State) (m n : ℕ) → EndsIn (after m s) n → EndsIn s (m + n)
ends_after s m n ends = record {
  index = m + ends.index;
  is = (let e = ends.is in omega (arith, e));
  unit = ap ends_unit (after_both m ends.index s) ∙ ends.unit;
}

-- no breakpoint, and no watchpoint
abbrev pub NoPoints : Points → Type 0
NoPoints points = (points.breakpoints ≡ []) × (points.watchpoints ≡ [])

-- where a run ends for such a reason, X holds
abbrev pub IfTrap : Option StopReason → Option Stop → Type 0 → Type 0
IfTrap None stop X = ⊤
IfTrap (Some r) stop X = signal_of r ≡ Trap → stop ≡ None → X

-- a reason with another signal
abbrev NotTrap : Option StopReason → Type 0
NotTrap None = ⊤
NotTrap (Some r) = signal_of r ≡ Trap → ⊥

not_or : (a b : Option StopReason) → NotTrap a → NotTrap b → NotTrap (reason_or a b)
not_or (Some r) b one other = one
not_or None b one other = other

not_if : (b : Bool) (r : StopReason) → (signal_of r ≡ Trap → ⊥) → NotTrap (reason_if b r)
not_if true r other = other
not_if false r other = tt

refusal_not : (c : Option Cause) → NotTrap (refusal_reason c)
refusal_not None = tt
refusal_not (Some cause.Mpu) = λ wrong. cc
refusal_not (Some cause.Bus) = λ wrong. cc

fault_not : (c : Option Cause) → signal_of (fault_reason c) ≡ Trap → ⊥
fault_not None wrong = cc
fault_not (Some cause.Mpu) wrong = cc
fault_not (Some cause.Bus) wrong = cc

refusal_if : (b : Bool) (c : Option Cause) → NotTrap (if b then refusal_reason c else None)
refusal_if true c = refusal_not c
refusal_if false c = tt

events_not : (k : Settings) (es : List Event) → NotTrap (reason_of_events k es)
events_not k es =
    let refused : Option StopReason = if k.refused then refusal_reason (first_cause es) else None in
    let faults : Option StopReason = reason_if (k.faults && has_fault es) (fault_reason (first_cause es)) in
    let entered : Option StopReason = reason_if (k.exceptions && has_entry es) reason.Entered in
    not_or refused (reason_or faults entered) (refusal_if k.refused (first_cause es))
    (not_or faults entered
    (not_if (k.faults && has_fault es) (fault_reason (first_cause es)) (fault_not (first_cause es)))
    (not_if (k.exceptions && has_entry es) reason.Entered (λ wrong. cc)))

-- after a step
then_trap : (a : Option Stop) (b : Option StopReason) (away done : Bool) → away ≡ false → NotTrap b
    → IfTrap (reason_or (stop_reason a) (reason_or b (reason_if (not away && (done && true)) reason.Done))) a
    (done ≡ true)
then_trap (Some why) b away done here other = λ trap goes. absurd (let w : ⊥ = cc in w)
then_trap None (Some r) away done here other = λ trap goes. absurd (other trap)
then_trap None None true done here other = absurd (let w : ⊥ = cc in w)
then_trap None None false true here other = λ trap goes. refl
then_trap None None false false here other = tt

-- before a step
before_trap : (stop : Option Stop) (late : Bool) (rest : Option StopReason) (X : Type 0) → rest ≡ None
    → IfTrap (reason_or (reason_if (is_some stop) reason.StoppedBefore)
    (reason_or (reason_if late (reason.Stopped StepLimit)) rest)) stop X
before_trap (Some why) late rest X none = λ trap goes. absurd (let w : ⊥ = cc in w)
before_trap None true rest X none = λ trap goes. absurd (let w : ⊥ = cc in w)
before_trap None false rest X none = rw none tt

rest_none : (breakpoints : List Breakpoint) (made : ℕ) (s : State) (returns_to : Option ReturnPoint)
    → breakpoints ≡ [] → returns_to ≡ None → reason_in_unit breakpoints Step made s returns_to ≡ None
rest_none breakpoints made s returns_to free returns =
    rw (free, returns) (cond_both _ _ _ (λ (o : Option StopReason). o ≡ None) (λ e. refl) (λ e. refl))

hit_none : (watchpoints : List Watchpoint) (es : List Event) → watchpoints ≡ []
    → watch_reason (first_hit watchpoints es) ≡ None
hit_none watchpoints es free = rw free (ap watch_reason (none_hit es))

trap_none : (o : Option StopReason) (stop : Option Stop) (X : Type 0) → o ≡ None → IfTrap o stop X
trap_none o stop X none = rw none tt

trap_map : (o : Option StopReason) (stop : Option Stop) (X Y : Type 0) → (X → Y) → IfTrap o stop X → IfTrap o stop Y
trap_map None stop X Y f ends = tt
trap_map (Some r) stop X Y f ends = λ trap goes. f (ends trap goes)

-- ---- a slice

-- the steps of a run of `s` up to a place: no step but the last one ends a unit, and that only where it ends the run.
-- `free` is that no point is set
pub record Units (free : Type 0) (limit : ℕ) (k : Settings) (f : Flow) (sliced : Sliced) : Type 0 where
  pub steps : ℕ
  pub early : IsEarly limit f.state steps
  pub made : Made k steps f sliced.flow sliced.pieces
  pub last : OnlyLastEnds f.state steps
  pub none : sliced.reason ≡ None → NoneEnds f.state steps
  pub returns : sliced.flow.returns_to ≡ None
  pub whole : free → IfTrap sliced.reason sliced.flow.state.stop (EndsIn f.state steps)

units_none : (free : Type 0) (limit : ℕ) (k : Settings) (f : Flow) (o : Option StopReason) (es : List Event)
    → f.returns_to ≡ None → (free → IfTrap o f.state.stop (EndsIn f.state 0)) → Units free limit k f (at_rest o es f)
units_none free limit k f o es returns whole = record {
  steps = 0;
  early = early_none limit f.state;
  made = made_none k f;
  last = last_only f.state 0 (ends_none f.state);
  none = λ is. ends_none f.state;
  returns = returns;
  whole = whole;
}

units_or : (free : Type 0) (limit : ℕ) (k : Settings) (f : Flow) (o : Option StopReason) (es : List Event)
    (later : Sliced) → f.returns_to ≡ None → (free → IfTrap o f.state.stop (EndsIn f.state 0))
    → (o ≡ None → Units free limit k f later) → Units free limit k f (unless_ended o es f later)
units_or free limit k f (Some r) es later returns whole next = units_none free limit k f (Some r) es returns whole
units_or free limit k f None es later returns whole next = next refl

-- after a part that ended no unit, or ended the run
then_units : (free : Type 0) (limit : ℕ) (k : Settings) (f : Flow) (part later : Sliced) (o : Option StopReason)
    → part.reason ≡ o → Units free limit k f part → Units free limit k part.flow later
    → Units free limit k f (after_pieces part.pieces (unless_ended o part.events part.flow later))
then_units free limit k f part later (Some r) is first next =
    let e : first.steps ≡ first.steps + 0 = omega arith in record {
      steps = first.steps + 0;
      early = subst (IsEarly limit f.state) e first.early;
      made = made_both k first.steps 0 f part.flow part.flow part.pieces [] first.made (made_none k part.flow);
      last = subst (OnlyLastEnds f.state) e first.last;
      none = λ wrong. absurd cc;
      returns = first.returns;
      whole = λ free. subst (λ (o : Option StopReason).
          IfTrap o part.flow.state.stop (EndsIn f.state (first.steps + 0))) is
          (subst (λ (n : ℕ). IfTrap part.reason part.flow.state.stop (EndsIn f.state n)) e (first.whole free));
    }
then_units free limit k f part later None is first next = record {
  steps = first.steps + next.steps;
  early = early_both limit f.state first.steps next.steps first.early
      (subst (λ (s : State). IsEarly limit s next.steps) first.made.state next.early);
  made = made_both k first.steps next.steps f part.flow later.flow part.pieces later.pieces first.made next.made;
  last = last_both f.state first.steps next.steps (first.none is)
      (subst (λ (s : State). OnlyLastEnds s next.steps) first.made.state next.last);
  none = λ on. ends_both f.state first.steps next.steps (first.none is)
      (subst (λ (s : State). NoneEnds s next.steps) first.made.state (next.none on));
  returns = next.returns;
  whole = λ free. trap_map later.reason later.flow.state.stop _ _
      (λ ends. ends_after f.state first.steps next.steps
      (subst (λ (s : State). EndsIn s next.steps) first.made.state ends)) (next.whole free);
}

module _ (limit : ℕ) (k : Settings) (into : k.steps_over ≡ false) (points : Points) where
  abbrev p : Plan
  p = step_plan limit k

  here_still : (f : Flow) → f.returns_to ≡ None → is_some (returns_then p f) ≡ false
  here_still f returns =
      ap (λ (o : Option ReturnPoint). is_some o) (not_away k.steps_over f.returns_to f.state into returns)

  ends_not : (f : Flow) → f.returns_to ≡ None → reason_then p f ≡ None → ends_unit f.state ≡ false
  ends_not f returns is =
      none_done _ _ (is_some (returns_then p f)) (ends_unit f.state) (here_still f returns) is

  step_whole : (f : Flow) → f.returns_to ≡ None
      → IfTrap (reason_then p f) (step f.state).state.stop (EndsIn f.state 1)
  unfolding after
  step_whole f returns =
      trap_map (reason_then p f) (step f.state).state.stop _ _
      (λ unit. record { index = 0; is = refl; unit = unit })
      (then_trap (step f.state).state.stop (reason_of_events k (step f.state).events) (is_some (returns_then p f))
      (ends_unit f.state) (here_still f returns) (events_not k (step f.state).events))

  step_units : (f : Flow) → f.state.stop ≡ None → tick_of f.state < limit → f.returns_to ≡ None
      → Units (NoPoints points) limit k f (one_step p points f)
  unfolding after
  step_units f goes early returns =
      units_or (NoPoints points) limit k f (hit_next points f.state) (step f.state).events _ returns
      (λ free. trap_none _ _ _ (hit_none points.watchpoints (step f.state).events free.1)) (λ miss. record {
        steps = 1;
        early = λ i below. (let e : i ≡ 0 = omega (arith, below) in rw e early);
        made = made_step p f goes;
        last = λ i below. absurd (omega (arith, below));
        none = λ on i below. (let e : i ≡ 0 = omega (arith, below) in rw e (ends_not f returns on));
        returns = not_away k.steps_over f.returns_to f.state into returns;
        whole = λ free. step_whole f returns;
      })

  pub slice_units : (n : ℕ) (f : Flow) → f.returns_to ≡ None → Units (NoPoints points) limit k f (slice p points n f)
  unfolding slice
  slice_units zero f returns = units_none (NoPoints points) limit k f None [] returns (λ free. tt)
  slice_units (suc n) f returns =
      units_or (NoPoints points) limit k f (before_step p points f) [] _ returns
      (λ free. before_trap f.state.stop (nat_le limit (tick_of f.state))
      (reason_in_unit points.breakpoints Step f.made f.state f.returns_to) (EndsIn f.state 0)
      (rest_none points.breakpoints f.made f.state f.returns_to free.0 returns)) (λ goes.
      let first = step_units f (goes_from _ f.state.stop goes) (early_from limit (tick_of f.state) _ _ goes) returns in
      then_units (NoPoints points) limit k f (one_step p points f) _ (one_step p points f).reason refl first
      (slice_units n (one_step p points f).flow first.returns))

-- ---- a turn

-- where it ends with SIGTRAP
abbrev pub EndsWhole : Turn → Option Stop → Type 0 → Type 0
EndsWhole (Asks run) stop X = ⊤
EndsWhole (Ends signal) stop X = signal ≡ Trap → stop ≡ None → X

whole_map : (t : Turn) (s u : State) (X Y : Type 0) → s ≡ u → (X → Y) → EndsWhole t s.stop X → EndsWhole t u.stop Y
whole_map (Asks run) s u X Y same f ends = tt
whole_map (Ends signal) s u X Y same f ends =
    λ trap goes. f (ends trap (ap (λ (v : State). v.stop) same ∙ goes))

pub record UnitFrom (free : Type 0) (limit : ℕ) (f : Flow) (t : Turned) : Type 0 where
  pub steps : ℕ
  pub state : last_state f.state t.pieces ≡ after steps f.state
  pub going : (i : ℕ) → i < steps → (after i f.state).stop ≡ None
  pub early : IsEarly limit f.state steps
  pub last : OnlyLastEnds f.state steps
  pub whole : free → EndsWhole t.outcome (after steps f.state).stop (EndsIn f.state steps)

-- the end of a turn makes no step
rest_unit : (free : Type 0) (limit : ℕ) (k : Settings) (f : Flow) (sliced : Sliced) (t : Turned)
    → (units : Units free limit k f sliced) → last_state sliced.flow.state t.pieces ≡ sliced.flow.state
    → (free → EndsWhole t.outcome sliced.flow.state.stop (EndsIn f.state units.steps))
    → UnitFrom free limit f (with_pieces sliced.pieces t)
rest_unit free limit k f sliced t units still whole = record {
  steps = units.steps;
  state = last-append f.state sliced.pieces t.pieces
      ∙ (ap (λ (s : State). last_state s t.pieces) units.made.last ∙ (still ∙ units.made.state));
  going = units.made.going;
  early = units.early;
  last = units.last;
  whole = λ none. whole_map t.outcome sliced.flow.state (after units.steps f.state) _ _ units.made.state (λ ends. ends)
      (whole none);
}

then_unit : (free : Type 0) (limit : ℕ) (k : Settings) (f : Flow) (sliced : Sliced) (t : Turned)
    → Units free limit k f sliced → sliced.reason ≡ None → UnitFrom free limit sliced.flow t
    → UnitFrom free limit f (with_pieces sliced.pieces t)
then_unit free limit k f sliced t units on next =
    let m = units.steps in
    let there : sliced.flow.state ≡ after m f.state = units.made.state in
    let end : after next.steps sliced.flow.state ≡ after (m + next.steps) f.state =
    ap (after next.steps) there ∙ sym (after_both m next.steps f.state) in record {
      steps = m + next.steps;
      state = last-append f.state sliced.pieces t.pieces
          ∙ (ap (λ (s : State). last_state s t.pieces) units.made.last ∙ (next.state ∙ end));
      going = going_both m next.steps f.state units.made.going
          (subst (λ (s : State). (i : ℕ) → i < next.steps → (after i s).stop ≡ None) there next.going);
      early = early_both limit f.state m next.steps units.early
          (subst (λ (s : State). IsEarly limit s next.steps) there next.early);
      last = last_both f.state m next.steps (units.none on)
          (subst (λ (s : State). OnlyLastEnds s next.steps) there next.last);
      whole = λ none. whole_map t.outcome _ (after (m + next.steps) f.state) _ _ end
          (λ ends. ends_after f.state m next.steps (subst (λ (s : State). EndsIn s next.steps) there ends))
          (next.whole none);
    }

-- text that goes out, and what comes later
flushed_unit : (free : Type 0) (limit : ℕ) (features : Features) (is_gdb : Bool) (f : Flow) (later : Turned)
    → is_gdb ≡ features.is_gdb → UnitFrom free limit (flushed f) later
    → UnitFrom free limit f (with_pieces (flushing f ∷ []) (asked_or features Step (flushed f) later))
unfolding after
flushed_unit free limit features true f later is next = rw (sym is) (record {
  steps = 0;
  state = refl;
  going = λ i below. absurd (omega (arith, below));
  early = λ i below. absurd (omega (arith, below));
  last = λ i below. absurd (omega (arith, below));
  whole = λ none. tt;
})
flushed_unit free limit features false f later is next =
    rw (sym is) (record {
      steps = next.steps;
      state = next.state;
      going = next.going;
      early = next.early;
      last = next.last;
      whole = next.whole;
    })

-- the last slice, where the budget is made if nothing else ends it
last_whole : (o : Option StopReason) (stop : Option Stop) (X : Type 0) → IfTrap o stop X
    → EndsWhole (Ends (signal_of (unwrap_or o reason.Interrupted))) stop X
last_whole None stop X whole = λ trap goes. absurd (let w : ⊥ = cc in w)
last_whole (Some r) stop X whole = whole

module _ (limit : ℕ) (k : Settings) (into : k.steps_over ≡ false) (points : Points) (features : Features) where
  after_slice_unit : (f : Flow) (sliced : Sliced) (o : Option StopReason) (later : Turned) → sliced.reason ≡ o
      → Units (NoPoints points) limit k f sliced → UnitFrom (NoPoints points) limit (flushed sliced.flow) later
      → UnitFrom (NoPoints points) limit f (with_pieces sliced.pieces (ended_or k points.watchpoints features sliced o
      (with_pieces (flushing sliced.flow ∷ []) (asked_or features Step (flushed sliced.flow) later))))
  after_slice_unit f sliced (Some r) later is units next =
      rest_unit (NoPoints points) limit k f sliced _ units refl (λ none.
      subst (λ (o : Option StopReason). IfTrap o sliced.flow.state.stop (EndsIn f.state units.steps)) is
      (units.whole none))
  after_slice_unit f sliced None later is units next =
      then_unit (NoPoints points) limit k f sliced _ units is
      (flushed_unit (NoPoints points) limit features features.is_gdb sliced.flow later refl next)

  slices_unit : (n rest : ℕ) (f : Flow) → f.returns_to ≡ None
      → UnitFrom (NoPoints points) limit f (slices (step_plan limit k) points features n rest f)
  unfolding slices
  slices_unit zero rest f returns =
      let units = slice_units limit k into points rest f returns in
      rest_unit (NoPoints points) limit k f (slice (step_plan limit k) points rest f) _ units refl
      (λ none. last_whole _ _ _ (units.whole none))
  slices_unit (suc n) rest f returns =
      let sliced : Sliced = slice (step_plan limit k) points max_slice_steps f in
      let units = slice_units limit k into points max_slice_steps f returns in
      after_slice_unit f sliced sliced.reason _ refl units (slices_unit n rest (flushed sliced.flow) units.returns)

  -- a turn of `s`, from its beginning
  pub turn_unit : (run : Run) (s : State) → run.how ≡ Step → run.returns_to ≡ None → run.is_interrupted ≡ false
      → UnitFrom (NoPoints points) limit (begun run s) (turn points k features limit run s)
  turn_unit run s how returns on = rw (on, how) (slices_unit _ _ (begun run s) returns)
