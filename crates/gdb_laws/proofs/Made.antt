-- The steps of a run: the state after them, and their text.
use Rattle.std.proofs.Common.{◌≡◌, ◌∙◌, ◌==◌, ℕ, zero, suc, ◌+◌, ◌-◌, ◌<◌, ◌≤◌, nat_le, Bool, true, false, ◌&&◌}
use Rattle.std.proofs.Common.{List, [], ◌∷◌, ◌++◌, Option, Some, None, ap, append_assoc, arith, if◌then◌else◌, inl, inr}
use Rattle.std.proofs.Common.{is_some, refl, subst, sym, unwrap_or}
use Rattle.std.specs.Prelude.{⊤}
use Rattle.std.proofs.lemmas.Bool.{cases_lt, cond_both}
use Rattle.std.proofs.lemmas.Bool.Decides.{nat_tests}
use Rattle.std.proofs.lemmas.List.{append-nil}
use Rattle.std.proofs.lemmas.List.Folds.{concat-append}
use Rattle.std.specs.List.{concat, last_or}
use Rattle.gdb.specs.declared.over.ReturnPoint.{ReturnPoint}
use Rattle.gdb.specs.declared.slices.Plan.{Plan}
use Rattle.gdb.specs.declared.slices.Points.{Points}
use Rattle.gdb.specs.declared.turns.Run.{Run}
use Rattle.gdb.specs.declared.turns.Turn.{Turn}
use Rattle.gdb.specs.declared.turns.Turn.TheVariants.{Asks, Ends}
use Rattle.gdb.specs.Consoles.{Console, console_after, console_with, emptied, flush_text, sent_by, with_byte}
use Rattle.gdb.specs.Over.{is_back}
use Rattle.gdb.specs.Reasons.{breakpoint_reason, fault_reason, first_cause, first_hit, has_entry, has_fault, leaves}
use Rattle.gdb.specs.Reasons.{reason_at_breakpoint, reason_back, reason_if, reason_in_unit, reason_of_events, reason_or}
use Rattle.gdb.specs.Reasons.{refusal_reason, stop_reason, tests_breakpoints, watch_reason}
use Rattle.gdb.specs.Slices.{Flow, Sliced, after_pieces, after_step, at_rest, before_step, hit_next, one_step}
use Rattle.gdb.specs.Slices.{reason_then, slice, step_piece, step_text, unless_ended}
use Rattle.gdb.specs.Turns.{Turned, asked, asked_or, begun, ended, ended_or}
use Rattle.gdb.specs.Turns.{flushed, flushing, max_slice_steps, plan_of, slices}
use Rattle.gdb.specs.Turns.{stop_packet, turn, whys, with_pieces}
use Rattle.gdb.specs.Whys.{stop_with_line, why_text}
use Rattle.gdb_laws.proofs.Cuts.{Cut, cut_both, cut_flush, cut_none, cut_text, packets-append}
use Rattle.gdb_laws.specs.RunLaw.{AreEventsFor, AreOfLastStep, EndsWith, IsEarly, TurnLaw, text_of}
use Rattle.gdb_past.specs.Places.{tick_of}
use Rattle.gdb_texts.specs.Console.{console_packets}
use Rattle.gdb_texts.specs.declared.actions.Resume.{Resume}
use Rattle.gdb_texts.specs.declared.features.Features.{Features}
use Rattle.gdb_texts.specs.declared.points.Breakpoint.{Breakpoint}
use Rattle.gdb_texts.specs.declared.points.BreakpointKind.{BreakpointKind}
use Rattle.gdb_texts.specs.declared.settings.Settings.{Settings}
use Rattle.gdb_texts.specs.declared.stops.StopReason.{StopReason}
use Rattle.gdb_texts.specs.declared.stops.StopReason.TheVariants as reason
use Rattle.gdb_texts.specs.declared.watchpoints.WatchHit.{WatchHit}
use Rattle.gdb_texts.specs.declared.watchpoints.Watchpoint.{Watchpoint}
use Rattle.gdb_texts.specs.Points.{kind_at}
use Rattle.gdb_texts.specs.Stops.{signal_of}
use Rattle.machine.specs.NextStep.{is_instruction_next}
use Rattle.platform.specs.declared.access.Cause.{Cause}
use Rattle.platform.specs.declared.event.Event.{Event}
use Rattle.platform.specs.declared.stop.Stop.{Stop}
use Rattle.platform.specs.declared.stop.Stop.TheVariants.{StepLimit}
use Rattle.reference.specs.Run.{after}
use Rattle.reference.specs.State.{State}
use Rattle.reference.specs.Step.{step}
use Rattle.serving.specs.Pieces.{Piece, last_state, texts}
use Rattle.trace.specs.Selection.{steps_text}

-- ---- pieces, one after another

texts-append : (xs ys : List Piece) → texts (xs ++ ys) ≡ texts xs ++ texts ys
texts-append [] ys = refl
texts-append (x ∷ xs) ys = rw (texts-append xs ys, append_assoc) refl

pub last-append : (s : State) (xs ys : List Piece) → last_state s (xs ++ ys) ≡ last_state (last_state s xs) ys
last-append s [] ys = refl
last-append s (x ∷ xs) ys = last-append x.state xs ys

-- ---- steps after other steps

after_more : (n : ℕ) (s : State) → after (n + 1) s ≡ (step (after n s)).state
unfolding after
after_more n s = let e : n + 1 ≡ suc n = omega arith in rw e refl

pub after_both : (m n : ℕ) (s : State) → after (m + n) s ≡ after n (after m s)
unfolding after
after_both m zero s = let e : m + zero ≡ m = omega arith in rw e refl
after_both m (suc n) s =
    let e : m + suc n ≡ (m + n) + 1 = omega arith in
    rw (e, after_more (m + n) s, after_both m n s) refl

text_more : (text : List Event → List ℕ) (n : ℕ) (s : State)
    → steps_text text (n + 1) s ≡ steps_text text n s ++ text (step (after n s)).events
unfolding steps_text
text_more text n s = let e : n + 1 ≡ suc n = omega arith in rw e refl

text_both : (text : List Event → List ℕ) (m n : ℕ) (s : State)
    → steps_text text (m + n) s ≡ steps_text text m s ++ steps_text text n (after m s)
unfolding steps_text
text_both text m zero s = let e : m + zero ≡ m = omega arith in rw (e, append-nil) refl
text_both text m (suc n) s =
    let e : m + suc n ≡ (m + n) + 1 = omega arith in
    rw (e, text_more text (m + n) s, text_both text m n s, after_both m n s, append_assoc) refl

pub going_both : (m n : ℕ) (s : State) → ((i : ℕ) → i < m → (after i s).stop ≡ None)
    → ((i : ℕ) → i < n → (after i (after m s)).stop ≡ None) → (i : ℕ) → i < m + n → (after i s).stop ≡ None
going_both m n s first next i below = elim (cases_lt i m) [
  | inl early ↦ first i early
  | inr late ↦ (let e : m + (i - m) ≡ i = omega (arith, late) in
      let b : i - m < n = omega (arith, late, below) in
      ap (λ (j : ℕ). (after j s).stop) (sym e) ∙ (ap (λ (t : State). t.stop) (after_both m (i - m) s) ∙ next (i - m) b))
]

-- ---- the last byte of a run's text

last_join : (o : Option ℕ) (xs ys : List ℕ) → last_or o (xs ++ ys) ≡ last_or (last_or o xs) ys
last_join o [] ys = refl
last_join o (x ∷ xs) ys = last_join (Some x) xs ys

pub last_with : (c : Console) (byte : ℕ) → (console_with c byte).last ≡ Some byte
last_with c byte =
    cond_both _ (emptied (with_byte c byte)) (with_byte c byte) (λ (d : Console). d.last ≡ Some byte) (λ e. refl)
    (λ e. refl)

last_after : (c : Console) (xs : List ℕ) → (console_after c xs).last ≡ last_or c.last xs
unfolding console_after
last_after c [] = refl
last_after c (x ∷ xs) = last_after (console_with c x) xs ∙ ap (λ (o : Option ℕ). last_or o xs) (last_with c x)

-- after m steps and n more
last_both : (k : Settings) (before mid : Option ℕ) (m n : ℕ) (s : State) → mid ≡ last_or before (text_of k m s)
    → last_or mid (text_of k n (after m s)) ≡ last_or before (text_of k (m + n) s)
last_both k before mid m n s is =
    ap (λ (o : Option ℕ). last_or o (text_of k n (after m s))) is
    ∙ (sym (last_join before (text_of k m s) (text_of k n (after m s)))
    ∙ ap (last_or before) (sym (text_both _ m n s)))

-- ---- some pieces of a run, which goes n steps from one place to another

pub record Made (k : Settings) (n : ℕ) (f g : Flow) (pieces : List Piece) : Type 0 where
  pub state : g.state ≡ after n f.state
  pub last : last_state f.state pieces ≡ g.state
  pub going : (i : ℕ) → i < n → (after i f.state).stop ≡ None
  pub cut : Cut f.console (text_of k n f.state) g.console (texts pieces)
  pub byte : g.console.last ≡ last_or f.console.last (text_of k n f.state)

none_going : (s : State) (i : ℕ) → i < 0 → (after i s).stop ≡ None
none_going s i below = absurd (omega (arith, below))

pub made_none : (k : Settings) (f : Flow) → Made k 0 f f []
unfolding after steps_text
made_none k f =
    record { state = refl; last = refl; going = none_going f.state; cut = cut_none f.console; byte = refl }

pub made_both : (k : Settings) (m n : ℕ) (f g h : Flow) (ps qs : List Piece) → Made k m f g ps → Made k n g h qs
    → Made k (m + n) f h (ps ++ qs)
made_both k m n f g h ps qs first next = record {
  state = next.state ∙ (ap (after n) first.state ∙ sym (after_both m n f.state));
  last = last-append f.state ps qs ∙ (ap (λ (s : State). last_state s qs) first.last ∙ next.last);
  going = going_both m n f.state first.going
      (subst (λ (s : State). (i : ℕ) → i < n → (after i s).stop ≡ None) first.state next.going);
  cut = rw (texts-append, text_both) (subst (λ (s : State).
      Cut f.console (text_of k m f.state ++ text_of k n s) h.console (texts ps ++ texts qs))
      first.state (cut_both f.console g.console h.console _ _ (texts ps) (texts qs) first.cut next.cut));
  byte = next.byte ∙ (ap (λ (s : State). last_or g.console.last (text_of k n s)) first.state
      ∙ last_both k f.console.last g.console.last m n f.state first.byte);
}

made_flush : (k : Settings) (f : Flow) → Made k 0 f (flushed f) (flushing f ∷ [])
unfolding after steps_text
made_flush k f = record {
  state = refl;
  last = refl;
  going = none_going f.state;
  cut = subst (λ (sent : List ℕ). Cut f.console [] (emptied f.console) sent) (sym (append-nil (flush_text f.console)))
      (cut_flush f.console);
  byte = refl;
}

pub made_step : (p : Plan) (f : Flow) → f.state.stop ≡ None
    → Made p.settings 1 f (after_step p f) (step_piece p f ∷ [])
unfolding after steps_text
made_step p f goes = record {
  state = refl;
  last = refl;
  going = λ i below. (let e : i ≡ 0 = omega (arith, below) in rw e goes);
  cut = subst (λ (sent : List ℕ).
      Cut f.console (step_text p f.state) (console_after f.console (step_text p f.state)) sent)
      (sym (append-nil (sent_by f.console (step_text p f.state)))) (cut_text f.console (step_text p f.state));
  byte = last_after f.console (step_text p f.state);
}

-- ---- the clock

pub early_none : (limit : ℕ) (s : State) → IsEarly limit s 0
early_none limit s i below = absurd (omega (arith, below))

pub early_one : (limit : ℕ) (s : State) → tick_of s < limit → IsEarly limit s 1
unfolding after
early_one limit s early i below = (let e : i ≡ 0 = omega (arith, below) in rw e early)

pub early_both : (limit : ℕ) (s : State) (m n : ℕ) → IsEarly limit s m → IsEarly limit (after m s) n
    → IsEarly limit s (m + n)
early_both limit s m n first next i below = elim (cases_lt i m) [
  | inl early ↦ first i early
  | inr late ↦ (let e : m + (i - m) ≡ i = omega (arith, late) in
      let b : i - m < n = omega (arith, late, below) in
      subst (λ (x : ℕ). x < limit) (ap tick_of (sym (after_both m (i - m) s)) ∙ ap (λ (j : ℕ). tick_of (after j s)) e)
      (next (i - m) b))
]

-- a step is made where it is below the limit
pub early_from : (limit tick : ℕ) (a b : Option StopReason)
    → reason_or a (reason_or (reason_if (nat_le limit tick) (reason.Stopped StepLimit)) b) ≡ None → tick < limit
early_from limit tick a b is =
    let before : nat_le limit tick ≡ false = none_if a (nat_le limit tick) b is in grind (arith, nat_tests)
  where
    none_if : (c : Option StopReason) (late : Bool) (d : Option StopReason)
        → reason_or c (reason_or (reason_if late (reason.Stopped StepLimit)) d) ≡ None → late ≡ false
    none_if (Some r) late d wrong = absurd cc
    none_if None true d wrong = absurd cc
    none_if None false d right = refl

-- a machine that has stopped makes no step
pub goes_from : (o : Option StopReason) (stop : Option Stop)
    → reason_or (reason_if (is_some stop) reason.StoppedBefore) o ≡ None → stop ≡ None
goes_from o None is = refl
goes_from o (Some why) is = absurd cc

-- ---- the events of a reason

-- those of the last of n steps after m steps
last_later : (m n : ℕ) (s : State) (es : List Event) → AreOfLastStep n (after m s) es → AreOfLastStep (m + n) s es
last_later m n s es of = record {
  earlier = m + of.earlier;
  last = (let e = of.last in omega (arith, e));
  events_are = of.events_are ∙ ap (λ (u : State). (step u).events) (sym (after_both m of.earlier s));
}

events_later : (r : StopReason) (m n : ℕ) (s : State) (es : List Event) → AreEventsFor r n (after m s) es
    → AreEventsFor r (m + n) s es
events_later reason.Done m n s es (inl of) = inl (last_later m n s es of)
events_later reason.Done m n s es (inr none) = inr none
events_later (reason.Breakpoint kind) m n s es of = of
events_later (reason.Watchpoint kind address) m n s es of =
    of ∙ ap (λ (u : State). (step u).events) (sym (after_both m n s))
events_later reason.PastBegins m n s es of = of
events_later (reason.Stopped why) m n s es (inl of) = inl (last_later m n s es of)
events_later (reason.Stopped why) m n s es (inr none) = inr none
events_later reason.StoppedBefore m n s es of = of
events_later (reason.Refused cause) m n s es of = last_later m n s es of
events_later reason.Fault m n s es of = last_later m n s es of
events_later reason.Entered m n s es of = last_later m n s es of
events_later reason.Interrupted m n s es of = of

-- what holds of a reason, if there is one
abbrev pub OnReason : (StopReason → Type 0) → Option StopReason → Type 0
OnReason P None = ⊤
OnReason P (Some r) = P r

on_or : (P : StopReason → Type 0) (a b : Option StopReason) → OnReason P a → OnReason P b → OnReason P (reason_or a b)
on_or P (Some r) b one other = one
on_or P None b one other = other

on_if : (P : StopReason → Type 0) (b : Bool) (r : StopReason) → P r → OnReason P (reason_if b r)
on_if P true r holds = holds
on_if P false r holds = tt

-- a reason before a step has no events
abbrev IsBefore : StopReason → Type 0
IsBefore r = (n : ℕ) (s : State) → AreEventsFor r n s []

at_breakpoint : (o : Option BreakpointKind) (is_instruction : Bool)
    → OnReason IsBefore (breakpoint_reason o is_instruction)
at_breakpoint None is_instruction = tt
at_breakpoint (Some kind) is_instruction =
    on_if IsBefore is_instruction (reason.Breakpoint kind) (λ n s. refl)

back_before : (points : List Breakpoint) (how : Resume) (s : State) (point : ReturnPoint)
    → OnReason IsBefore (reason_back points how s point)
back_before points how s point =
    cond_both (s.registers.pc == point.pc) _ _ (OnReason IsBefore) (λ e. tt)
    (λ e. on_or IsBefore (reason_if (leaves how s.registers.pc) reason.Done) (reason_at_breakpoint points s)
    (on_if IsBefore (leaves how s.registers.pc) reason.Done (λ n u. inr refl))
    (at_breakpoint (kind_at points s.registers.pc) (is_instruction_next s)))

unit_before : (points : List Breakpoint) (how : Resume) (made : ℕ) (s : State) (returns_to : Option ReturnPoint)
    → OnReason IsBefore (reason_in_unit points how made s returns_to)
unit_before points how made s None =
    cond_both (tests_breakpoints how made) _ _ (OnReason IsBefore)
    (λ e. at_breakpoint (kind_at points s.registers.pc) (is_instruction_next s)) (λ e. tt)
unit_before points how made s (Some point) =
    cond_both (is_back s point) _ _ (OnReason IsBefore) (λ e. back_before points how s point)
    (λ e. at_breakpoint (kind_at points s.registers.pc) (is_instruction_next s))

before_events : (p : Plan) (points : Points) (f : Flow) → OnReason IsBefore (before_step p points f)
before_events p points f =
    let late : Bool = nat_le p.limit (tick_of f.state) in
    let rest : Option StopReason = reason_in_unit points.breakpoints p.how f.made f.state f.returns_to in
    on_or IsBefore (reason_if (is_some f.state.stop) reason.StoppedBefore)
    (reason_or (reason_if late (reason.Stopped StepLimit)) rest)
    (on_if IsBefore (is_some f.state.stop) reason.StoppedBefore (λ n s. refl))
    (on_or IsBefore (reason_if late (reason.Stopped StepLimit)) rest
    (on_if IsBefore late (reason.Stopped StepLimit) (λ n s. inr (refl, refl)))
    (unit_before points.breakpoints p.how f.made f.state f.returns_to))

-- a reason after a step has the events of that step
abbrev IsAfter : StopReason → Type 0
IsAfter r = (n : ℕ) (s : State) (es : List Event) → AreOfLastStep n s es → AreEventsFor r n s es

stop_after : (o : Option Stop) → OnReason IsAfter (stop_reason o)
stop_after None = tt
stop_after (Some why) = λ n s es of. inl of

refusal_after : (c : Option Cause) → OnReason IsAfter (refusal_reason c)
refusal_after None = tt
refusal_after (Some cause) = λ n s es of. of

refusal_if : (b : Bool) (c : Option Cause) → OnReason IsAfter (if b then refusal_reason c else None)
refusal_if true c = refusal_after c
refusal_if false c = tt

fault_after : (c : Option Cause) → IsAfter (fault_reason c)
fault_after None n s es of = of
fault_after (Some cause) n s es of = of

of_events_after : (k : Settings) (es : List Event) → OnReason IsAfter (reason_of_events k es)
of_events_after k es =
    let refused : Option StopReason = if k.refused then refusal_reason (first_cause es) else None in
    let faults : Option StopReason = reason_if (k.faults && has_fault es) (fault_reason (first_cause es)) in
    let entered : Option StopReason = reason_if (k.exceptions && has_entry es) reason.Entered in
    on_or IsAfter refused (reason_or faults entered) (refusal_if k.refused (first_cause es))
    (on_or IsAfter faults entered
    (on_if IsAfter (k.faults && has_fault es) (fault_reason (first_cause es)) (fault_after (first_cause es)))
    (on_if IsAfter (k.exceptions && has_entry es) reason.Entered (λ n s es of. of)))

then_events : (k : Settings) (stop : Option Stop) (es : List Event) (done : Bool)
    → OnReason IsAfter (reason_or (stop_reason stop) (reason_or (reason_of_events k es) (reason_if done reason.Done)))
then_events k stop es done =
    on_or IsAfter (stop_reason stop) (reason_or (reason_of_events k es) (reason_if done reason.Done)) (stop_after stop)
    (on_or IsAfter (reason_of_events k es) (reason_if done reason.Done) (of_events_after k es)
    (on_if IsAfter done reason.Done (λ n s es of. inl of)))

-- after n steps from s
abbrev HasEvents : ℕ → State → List Event → StopReason → Type 0
HasEvents n s es r = AreEventsFor r n s es

on_before : (o : Option StopReason) (n : ℕ) (s : State) → OnReason IsBefore o → OnReason (HasEvents n s []) o
on_before None n s holds = tt
on_before (Some r) n s holds = holds n s

on_after : (o : Option StopReason) (n : ℕ) (s : State) (es : List Event) → OnReason IsAfter o → AreOfLastStep n s es
    → OnReason (HasEvents n s es) o
on_after None n s es holds of = tt
on_after (Some r) n s es holds of = holds n s es of

on_hit : (o : Option WatchHit) (s : State) → OnReason (HasEvents 0 s (step s).events) (watch_reason o)
unfolding after
on_hit None s = tt
on_hit (Some hit) s = refl

on_later : (o : Option StopReason) (m n : ℕ) (s : State) (es : List Event)
    → OnReason (HasEvents n (after m s) es) o → OnReason (HasEvents (m + n) s es) o
on_later None m n s es holds = tt
on_later (Some r) m n s es holds = events_later r m n s es holds

-- ---- a slice

-- a part of a run of at most n steps: so many of them were made
pub record Makes (p : Plan) (n : ℕ) (f : Flow) (sliced : Sliced) : Type 0 where
  pub steps : ℕ
  pub made : Made p.settings steps f sliced.flow sliced.pieces
  pub early : IsEarly p.limit f.state steps
  pub count : sliced.flow.made ≡ f.made + steps
  pub most : steps ≤ n
  pub whole : sliced.reason ≡ None → steps ≡ n
  pub events : OnReason (HasEvents steps f.state sliced.events) sliced.reason

rests : (p : Plan) (n : ℕ) (f : Flow) (o : Option StopReason) (es : List Event) → (o ≡ None → 0 ≡ n)
    → OnReason (HasEvents 0 f.state es) o → Makes p n f (at_rest o es f)
rests p n f o es whole holds = record {
  steps = 0;
  made = made_none p.settings f;
  early = early_none p.limit f.state;
  count = omega arith;
  most = omega arith;
  whole = whole;
  events = holds;
}

ends_or : (p : Plan) (n : ℕ) (f : Flow) (o : Option StopReason) (es : List Event) (later : Sliced)
    → OnReason (HasEvents 0 f.state es) o → (o ≡ None → Makes p n f later)
    → Makes p n f (unless_ended o es f later)
ends_or p n f (Some r) es later holds makes = rests p n f (Some r) es (λ wrong. absurd cc) holds
ends_or p n f None es later holds makes = makes refl

-- after one step, or none where it ended the run
then_makes : (p : Plan) (n : ℕ) (f : Flow) (part later : Sliced) (o : Option StopReason) → part.reason ≡ o
    → Makes p 1 f part → Makes p n part.flow later
    → Makes p (suc n) f (after_pieces part.pieces (unless_ended o part.events part.flow later))
then_makes p n f part later (Some r) is first next =
    let e : first.steps ≡ first.steps + 0 = omega arith in record {
      steps = first.steps + 0;
      made = made_both p.settings first.steps 0 f part.flow part.flow part.pieces [] first.made
          (made_none p.settings part.flow);
      early = subst (IsEarly p.limit f.state) e first.early;
      count = first.count ∙ ap (λ (i : ℕ). f.made + i) e;
      most = (let b = first.most in omega (arith, b));
      whole = λ wrong. absurd cc;
      events = subst (λ (i : ℕ). AreEventsFor r i f.state part.events) e
          (subst (OnReason (HasEvents first.steps f.state part.events)) is first.events);
    }
then_makes p n f part later None is first next = record {
  steps = first.steps + next.steps;
  made = made_both p.settings first.steps next.steps f part.flow later.flow part.pieces later.pieces first.made
      next.made;
  early = early_both p.limit f.state first.steps next.steps first.early
      (subst (λ (s : State). IsEarly p.limit s next.steps) first.made.state next.early);
  count = (let a = first.count in let b = next.count in omega (arith, a, b));
  most = (let a = first.most in let b = next.most in omega (arith, a, b));
  whole = λ on. (let a = first.whole is in let b = next.whole on in omega (arith, a, b));
  events = on_later later.reason first.steps next.steps f.state later.events
      (subst (λ (s : State). OnReason (HasEvents next.steps s later.events) later.reason) first.made.state
      next.events);
}

of_one : (s : State) → AreOfLastStep 1 s (step s).events
unfolding after
of_one s = record { earlier = 0; last = refl; events_are = refl }

step_makes : (p : Plan) (points : Points) (f : Flow) → f.state.stop ≡ None → tick_of f.state < p.limit
    → Makes p 1 f (one_step p points f)
step_makes p points f goes early =
    ends_or p 1 f (hit_next points f.state) (step f.state).events _
    (on_hit (first_hit points.watchpoints (step f.state).events) f.state) (λ miss. record {
      steps = 1;
      made = made_step p f goes;
      early = early_one p.limit f.state early;
      count = refl;
      most = omega arith;
      whole = λ none. refl;
      events = on_after (reason_then p f) 1 f.state (step f.state).events
          (then_events p.settings (step f.state).state.stop (step f.state).events _) (of_one f.state);
    })

pub slice_makes : (p : Plan) (points : Points) (n : ℕ) (f : Flow) → Makes p n f (slice p points n f)
unfolding slice
slice_makes p points zero f = rests p 0 f None [] (λ none. refl) tt
slice_makes p points (suc n) f =
    ends_or p (suc n) f (before_step p points f) [] _
    (on_before (before_step p points f) 0 f.state (before_events p points f)) (λ none.
    then_makes p n f (one_step p points f) (slice p points n (one_step p points f).flow)
    (one_step p points f).reason refl
    (step_makes p points f (goes_from _ f.state.stop none) (early_from p.limit (tick_of f.state) _ _ none))
    (slice_makes p points n (one_step p points f).flow))

-- where no reason ended a slice, there are no events
unless_quiet : (o : Option StopReason) (es : List Event) (f : Flow) (later : Sliced)
    → (later.reason ≡ None → later.events ≡ []) → (unless_ended o es f later).reason ≡ None
    → (unless_ended o es f later).events ≡ []
unless_quiet (Some r) es f later quiet none = absurd cc
unless_quiet None es f later quiet none = quiet none

slice_quiet : (p : Plan) (points : Points) (n : ℕ) (f : Flow) → (slice p points n f).reason ≡ None
    → (slice p points n f).events ≡ []
unfolding slice
slice_quiet p points zero f none = refl
slice_quiet p points (suc n) f none =
    let part : Sliced = one_step p points f in
    unless_quiet (before_step p points f) [] f
    (after_pieces part.pieces (unless_ended part.reason part.events part.flow (slice p points n part.flow)))
    (λ on. unless_quiet part.reason part.events part.flow (slice p points n part.flow)
    (slice_quiet p points n part.flow) on) none

-- ---- a turn, from some place on

-- `E` is what holds of its end: of the number of its steps, of how it ends, and of the lines at its end
pub record TurnFrom (limit : ℕ) (k : Settings) (E : ℕ → Turn → List ℕ → Type 0) (f : Flow) (t : Turned) : Type 0 where
  pub steps : ℕ
  pub state : last_state f.state t.pieces ≡ after steps f.state
  pub going : (i : ℕ) → i < steps → (after i f.state).stop ≡ None
  pub early : IsEarly limit f.state steps
  pub lines : List ℕ
  pub parts : List (List ℕ)
  pub whole : concat parts ≡ f.console.waiting ++ (text_of k steps f.state ++ lines)
  pub written : texts t.pieces ≡ console_packets parts ++ t.sent
  pub ends : E steps t.outcome lines

-- the same turn, with what follows from that
pub turn_map : (limit : ℕ) (k : Settings) (E F : ℕ → Turn → List ℕ → Type 0) (f : Flow) (t : Turned)
    → ((n : ℕ) (lines : List ℕ) → E n t.outcome lines → F n t.outcome lines) → TurnFrom limit k E f t
    → TurnFrom limit k F f t
turn_map limit k E F f t follows turn = record {
  steps = turn.steps;
  state = turn.state;
  going = turn.going;
  early = turn.early;
  lines = turn.lines;
  parts = turn.parts;
  whole = turn.whole;
  written = turn.written;
  ends = follows turn.steps turn.lines turn.ends;
}

-- what holds of an end n steps later
abbrev pub Later : (ℕ → Turn → List ℕ → Type 0) → ℕ → ℕ → Turn → List ℕ → Type 0
Later E n i t lines = E (n + i) t lines

pub then_turn : (limit : ℕ) (k : Settings) (E : ℕ → Turn → List ℕ → Type 0) (n : ℕ) (f g : Flow) (ps : List Piece)
    (t : Turned) → Made k n f g ps → IsEarly limit f.state n → TurnFrom limit k (Later E n) g t
    → TurnFrom limit k E f (with_pieces ps t)
then_turn limit k E n f g ps t first early next =
    let there : after next.steps g.state ≡ after (n + next.steps) f.state =
    ap (after next.steps) first.state ∙ sym (after_both n next.steps f.state) in record {
      steps = n + next.steps;
      state = last-append f.state ps t.pieces
          ∙ (ap (λ (s : State). last_state s t.pieces) first.last ∙ (next.state ∙ there));
      going = going_both n next.steps f.state first.going
          (subst (λ (s : State). (i : ℕ) → i < next.steps → (after i s).stop ≡ None) first.state next.going);
      early = early_both limit f.state n next.steps early
          (subst (λ (s : State). IsEarly limit s next.steps) first.state next.early);
      lines = next.lines;
      parts = first.cut.parts ++ next.parts;
      whole = concat-append first.cut.parts next.parts
          ∙ (ap (λ (l : List ℕ). concat first.cut.parts ++ l) next.whole
          ∙ (sym (append_assoc (concat first.cut.parts) g.console.waiting (text_of k next.steps g.state ++ next.lines))
          ∙ (ap (λ (l : List ℕ). l ++ (text_of k next.steps g.state ++ next.lines)) first.cut.whole
          ∙ (append_assoc f.console.waiting (text_of k n f.state) (text_of k next.steps g.state ++ next.lines)
          ∙ ap (λ (l : List ℕ). f.console.waiting ++ l)
          (sym (append_assoc (text_of k n f.state) (text_of k next.steps g.state) next.lines)
          ∙ ap (λ (l : List ℕ). l ++ next.lines)
          (ap (λ (s : State). text_of k n f.state ++ text_of k next.steps s) first.state
          ∙ sym (text_both _ n next.steps f.state)))))));
      written = texts-append ps t.pieces ∙ (ap (λ (l : List ℕ). l ++ texts t.pieces) first.cut.packets
          ∙ (ap (λ (l : List ℕ). console_packets first.cut.parts ++ l) next.written
          ∙ (sym (append_assoc (console_packets first.cut.parts) (console_packets next.parts) t.sent)
          ∙ ap (λ (l : List ℕ). l ++ t.sent) (sym (packets-append first.cut.parts next.parts)))));
      ends = next.ends;
    }

pub after_sliced : (p : Plan) (points : Points) (E : ℕ → Turn → List ℕ → Type 0) (n : ℕ) (f : Flow) (t : Turned)
    → TurnFrom p.limit p.settings (Later E (slice_makes p points n f).steps) (slice p points n f).flow t
    → TurnFrom p.limit p.settings E f (with_pieces (slice p points n f).pieces t)
after_sliced p points E n f t next =
    let makes = slice_makes p points n f in
    then_turn p.limit p.settings E makes.steps f (slice p points n f).flow (slice p points n f).pieces t makes.made
    makes.early next

pub end_turn : (limit : ℕ) (k : Settings) (E : ℕ → Turn → List ℕ → Type 0) (w : List Watchpoint) (features : Features)
    (r : StopReason) (events : List Event) (f : Flow) → E 0 (Ends (signal_of r)) (whys k w r events f)
    → TurnFrom limit k E f (ended k w features r events f)
unfolding after steps_text
end_turn limit k E w features r events f ends =
    let lines = whys k w r events f in
    let cut = cut_both f.console (console_after f.console lines) (emptied (console_after f.console lines)) lines []
    (sent_by f.console lines) (flush_text (console_after f.console lines)) (cut_text f.console lines)
    (cut_flush (console_after f.console lines)) in record {
      steps = 0;
      state = refl;
      going = none_going f.state;
      early = early_none limit f.state;
      lines = lines;
      parts = cut.parts;
      whole = sym (append-nil (concat cut.parts))
          ∙ (cut.whole ∙ ap (λ (l : List ℕ). f.console.waiting ++ l) (append-nil lines));
      written = rw (append-nil, sym cut.packets) (sym (append_assoc (sent_by f.console lines)
          (flush_text (console_after f.console lines)) (stop_packet features r f.state)));
      ends = ends;
    }

pub ask_turn : (limit : ℕ) (k : Settings) (E : ℕ → Turn → List ℕ → Type 0) (how : Resume) (f : Flow)
    → f.console.waiting ≡ [] → E 0 (asked how f).outcome [] → TurnFrom limit k E f (asked how f)
unfolding after steps_text console_packets
ask_turn limit k E how f none ends = record {
  steps = 0;
  state = refl;
  going = none_going f.state;
  early = early_none limit f.state;
  lines = [];
  parts = [];
  whole = sym none ∙ sym (append-nil f.console.waiting);
  written = append-nil _;
  ends = ends;
}

-- ---- its slices

-- a run that goes on after a slice: GDB is asked, another client isn't
pub on_turn : (limit : ℕ) (k : Settings) (E : ℕ → Turn → List ℕ → Type 0) (is_gdb : Bool) (features : Features)
    (how : Resume) (f : Flow) (later : Turned) → is_gdb ≡ features.is_gdb
    → (is_gdb ≡ true → E 0 (asked how (flushed f)).outcome [])
    → (is_gdb ≡ false → TurnFrom limit k E (flushed f) later)
    → TurnFrom limit k E f (with_pieces (flushing f ∷ []) (asked_or features how (flushed f) later))
on_turn limit k E is_gdb features how f later is ends next =
    then_turn limit k E 0 f (flushed f) (flushing f ∷ []) _ (made_flush k f) (early_none limit f.state)
    (turn_map limit k E (Later E 0) (flushed f) _ (λ n lines held.
    subst (λ (i : ℕ). E i (asked_or features how (flushed f) later).outcome lines) (omega arith) held)
    (goes is_gdb is ends next))
  where
    goes : (b : Bool) → b ≡ features.is_gdb → (b ≡ true → E 0 (asked how (flushed f)).outcome [])
        → (b ≡ false → TurnFrom limit k E (flushed f) later)
        → TurnFrom limit k E (flushed f) (asked_or features how (flushed f) later)
    goes true gdb asks goes_on = rw (sym gdb) (ask_turn limit k E how (flushed f) refl (asks refl))
    goes false gdb asks goes_on = rw (sym gdb) (goes_on refl)

-- why it ended, by any reason
says_why : (k : Settings) (w : List Watchpoint) (r : StopReason) (events : List Event) (f : Flow) (before : Option ℕ)
    (n : ℕ) (s : State) → f.state ≡ after n s → f.console.last ≡ last_or before (text_of k n s)
    → AreEventsFor r n s events → EndsWith k w before n s (Ends (signal_of r)) (whys k w r events f)
says_why k w r events f before n s is byte of = record {
  why = r;
  events = events;
  signal_is = refl;
  of_step = of;
  lines_are = ap (λ (u : State). why_text k w events (stop_with_line r u.stop) f.console.last) is
      ∙ ap (λ (o : Option ℕ). why_text k w events (stop_with_line r (after n s).stop) o) byte;
}

-- the lines of a turn that begins m steps later
why_later : (k : Settings) (w : List Watchpoint) (before mid : Option ℕ) (m n : ℕ) (s : State) (t : Turn)
    (lines : List ℕ) → mid ≡ last_or before (text_of k m s) → EndsWith k w mid n (after m s) t lines
    → EndsWith k w before (m + n) s t lines
why_later k w before mid m n s (Asks next) lines byte ends = ends
why_later k w before mid m n s (Ends signal) lines byte says = record {
  why = says.why;
  events = says.events;
  signal_is = says.signal_is;
  of_step = events_later says.why m n s says.events says.of_step;
  lines_are = says.lines_are ∙ (ap (λ (u : State). why_text k w says.events (stop_with_line says.why u.stop)
      (last_or mid (text_of k n (after m s)))) (sym (after_both m n s))
      ∙ ap (λ (o : Option ℕ). why_text k w says.events (stop_with_line says.why (after (m + n) s).stop) o)
      (last_both k before mid m n s byte));
}

-- the events of a slice, where its budget is made if nothing else ended it
events_or : (o : Option StopReason) (n : ℕ) (s : State) (es : List Event) → (o ≡ None → es ≡ [])
    → OnReason (HasEvents n s es) o → AreEventsFor (unwrap_or o reason.Interrupted) n s es
events_or None n s es quiet holds = quiet refl
events_or (Some r) n s es quiet holds = holds

-- the end of a turn after a slice
sliced_ends : (k : Settings) (w : List Watchpoint) (r : StopReason) (f : Flow) (sliced : Sliced) (m : ℕ)
    → Made k m f sliced.flow sliced.pieces → AreEventsFor r m f.state sliced.events
    → Later (λ (n : ℕ). EndsWith k w f.console.last n f.state) m 0 (Ends (signal_of r))
    (whys k w r sliced.events sliced.flow)
sliced_ends k w r f sliced m made of =
    subst (λ (n : ℕ). EndsWith k w f.console.last n f.state (Ends (signal_of r))
    (whys k w r sliced.events sliced.flow)) (omega arith)
    (says_why k w r sliced.events sliced.flow f.console.last m f.state made.state made.byte of)

module _ (p : Plan) (points : Points) (features : Features) where
  abbrev EndsFrom : Flow → ℕ → Turn → List ℕ → Type 0
  EndsFrom f n = EndsWith p.settings points.watchpoints f.console.last n f.state

  pub ended_turn : (E : ℕ → Turn → List ℕ → Type 0) (sliced : Sliced) (o : Option StopReason) (later : Turned)
      → ((r : StopReason) → o ≡ Some r
      → E 0 (Ends (signal_of r)) (whys p.settings points.watchpoints r sliced.events sliced.flow))
      → (o ≡ None → features.is_gdb ≡ true → E 0 (asked p.how (flushed sliced.flow)).outcome [])
      → (o ≡ None → features.is_gdb ≡ false → TurnFrom p.limit p.settings E (flushed sliced.flow) later)
      → TurnFrom p.limit p.settings E sliced.flow (ended_or p.settings points.watchpoints features sliced o
      (with_pieces (flushing sliced.flow ∷ []) (asked_or features p.how (flushed sliced.flow) later)))
  ended_turn E sliced (Some r) later ends asks next =
      end_turn p.limit p.settings E points.watchpoints features r sliced.events sliced.flow (ends r refl)
  ended_turn E sliced None later ends asks next =
      on_turn p.limit p.settings E features.is_gdb features p.how sliced.flow later refl (asks refl) (next refl)

  slices_turn : (n rest : ℕ) (f : Flow)
      → TurnFrom p.limit p.settings (EndsFrom f) f (slices p points features n rest f)
  unfolding slices
  slices_turn zero rest f =
      let sliced : Sliced = slice p points rest f in
      let makes = slice_makes p points rest f in
      let r : StopReason = unwrap_or sliced.reason reason.Interrupted in
      after_sliced p points (EndsFrom f) rest f _
      (end_turn p.limit p.settings (Later (EndsFrom f) makes.steps) points.watchpoints features r sliced.events
      sliced.flow (sliced_ends p.settings points.watchpoints r f sliced makes.steps makes.made
      (events_or sliced.reason makes.steps f.state sliced.events (slice_quiet p points rest f) makes.events)))
  slices_turn (suc n) rest f =
      let sliced : Sliced = slice p points max_slice_steps f in
      let makes = slice_makes p points max_slice_steps f in
      let later : Turned = slices p points features n rest (flushed sliced.flow) in
      after_sliced p points (EndsFrom f) max_slice_steps f _
      (ended_turn (Later (EndsFrom f) makes.steps) sliced sliced.reason _
      (λ r is. sliced_ends p.settings points.watchpoints r f sliced makes.steps makes.made
      (subst (OnReason (HasEvents makes.steps f.state sliced.events)) is makes.events))
      (λ none gdb. refl)
      (λ none other. turn_map p.limit p.settings (EndsFrom sliced.flow) (Later (EndsFrom f) makes.steps)
      (flushed sliced.flow) later (λ i lines ends.
      why_later p.settings points.watchpoints f.console.last sliced.flow.console.last makes.steps i f.state
      later.outcome lines makes.made.byte
      (subst (λ (s : State). EndsWith p.settings points.watchpoints sliced.flow.console.last i s later.outcome lines)
      makes.made.state ends))
      (slices_turn n rest (flushed sliced.flow))))

interrupted_turn : (points : Points) (k : Settings) (features : Features) (limit : ℕ) (run : Run) (s : State)
    (b : Bool) → b ≡ run.is_interrupted
    → TurnFrom limit k (λ (n : ℕ). EndsWith k points.watchpoints run.last n s) (begun run s)
    (turn points k features limit run s)
unfolding after steps_text
interrupted_turn points k features limit run s true is =
    rw (sym is) (end_turn limit k (λ (n : ℕ). EndsWith k points.watchpoints run.last n s) points.watchpoints features
    reason.Interrupted [] (begun run s)
    (says_why k points.watchpoints reason.Interrupted [] (begun run s) run.last 0 s refl refl refl))
interrupted_turn points k features limit run s false is =
    rw (sym is) (slices_turn (plan_of k limit run) points features _ _ (begun run s))

pub turn_law : (points : Points) (k : Settings) (features : Features) (limit : ℕ) (run : Run) (s : State)
    → TurnLaw points k features limit run s
turn_law points k features limit run s =
    let t = interrupted_turn points k features limit run s run.is_interrupted refl in record {
      steps = t.steps;
      state = t.state;
      going = t.going;
      early = t.early;
      lines = t.lines;
      text = record { parts = t.parts; whole = t.whole; written = t.written };
      ends = t.ends;
    }
