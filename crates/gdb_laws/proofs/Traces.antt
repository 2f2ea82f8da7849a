-- A run of `c` that traces all, with nothing else that stops it: the lines at its end are the line of its stop.
use Rattle.std.proofs.Common.{◌≡◌, ◌∙◌, ◌⊎◌, ◌==◌, ℕ, zero, suc, ◌+◌, ◌*◌, ◌/◌, ◌%◌, ◌≤◌, nat_le, Bool, true, false}
use Rattle.std.proofs.Common.{not, ◌&&◌, ◌||◌, List, [], ◌∷◌, ◌++◌, Option, Some, None, ap, arith, if◌then◌else◌}
use Rattle.std.proofs.Common.{inl, inr, is_some, refl, subst, sym, unwrap_or}
use Rattle.std.specs.Prelude.{⊤, codes, decimal}
use Rattle.std.specs.List.{filter}
use Rattle.std.proofs.lemmas.Bool.{cond_both}
use Rattle.std.proofs.lemmas.Bool.Decides.{nat_tests}
use Rattle.std.proofs.lemmas.List.{append-nil}
use Rattle.std.proofs.lemmas.Nat.{div-add-mod'}
use Rattle.debugger_commands.specs.declared.conditions.LineSelection.{LineSelection}
use Rattle.debugger_commands.specs.declared.conditions.LineSelection.TheVariants as lines
use Rattle.gdb.specs.declared.over.ReturnPoint.{ReturnPoint}
use Rattle.gdb.specs.declared.slices.Plan.{Plan}
use Rattle.gdb.specs.declared.slices.Points.{Points}
use Rattle.gdb.specs.declared.turns.Run.{Run}
use Rattle.gdb.specs.declared.turns.Turn.{Turn}
use Rattle.gdb.specs.declared.turns.Turn.TheVariants.{Asks, Ends}
use Rattle.gdb.specs.Consoles.{Console, console_after, console_with}
use Rattle.gdb.specs.Over.{is_back}
use Rattle.gdb.specs.Reasons.{has_entry, reason_at_breakpoint, reason_back, reason_if, reason_in_unit, reason_or}
use Rattle.gdb.specs.Reasons.{stop_reason, watch_reason}
use Rattle.gdb.specs.Slices.{Flow, Sliced, after_pieces, after_step, at_rest, before_step, counts, one_step}
use Rattle.gdb.specs.Slices.{reason_then, returns_then, slice, step_piece, unless_ended}
use Rattle.gdb.specs.Turns.{Turned, all_slices, asked, begun, ended, flushed, max_slice_steps, slices, steps_left}
use Rattle.gdb.specs.Turns.{turn, whys}
use Rattle.gdb.specs.Whys.{has_line, line_begun, needs_line, stop_text, stop_with_line}
use Rattle.gdb.proofs.Unwatched.{none_hit}
use Rattle.gdb_laws.proofs.Made.{Later, TurnFrom, after_both, after_sliced, end_turn, ended_turn, last_with}
use Rattle.gdb_laws.proofs.Made.{slice_makes, turn_map}
use Rattle.gdb_laws.specs.RunLaw.{Continues, IsOver, IsTraceOf, TraceLaw, WritesTrace}
use Rattle.gdb_past.specs.Places.{tick_of}
use Rattle.gdb_texts.specs.declared.actions.Resume.{Resume}
use Rattle.gdb_texts.specs.declared.actions.Resume.TheVariants.{Continue}
use Rattle.gdb_texts.specs.declared.features.Features.{Features}
use Rattle.gdb_texts.specs.declared.points.Breakpoint.{Breakpoint}
use Rattle.gdb_texts.specs.declared.settings.Settings.{Settings}
use Rattle.gdb_texts.specs.declared.stops.StopReason.{StopReason}
use Rattle.gdb_texts.specs.declared.stops.StopReason.TheVariants as reason
use Rattle.gdb_texts.specs.declared.watchpoints.Watchpoint.{Watchpoint}
use Rattle.gdb_texts.specs.Settings.{max_steps}
use Rattle.gdb_texts.specs.Stops.{signal_of}
use Rattle.platform.specs.declared.event.Event.{Event}
use Rattle.platform.specs.declared.stop.Stop.{Stop}
use Rattle.platform.specs.declared.stop.Stop.TheVariants.{StepLimit}
use Rattle.platform.specs.Events.{event_text, line}
use Rattle.platform.specs.Events as events
use Rattle.platform.specs.Text.{stop_line}
use Rattle.reference.specs.Run.{after}
use Rattle.reference.specs.State.{State}
use Rattle.reference.specs.Step.{step}
use Rattle.trace.specs.declared.selection.TraceSelection.TheVariants.{All}
use Rattle.trace.specs.Selection.{new_line_after, selected_text, selected_trace, steps_text}

-- ---- the settings, and the points

abbrev traced : Bool → Option ℕ → Settings
traced over budget = record {
  selection = lines.All;
  has_lines = true;
  refused = false;
  faults = false;
  exceptions = false;
  steps_over = over;
  budget = budget;
}

abbrev no_points : Points
no_points = record { breakpoints = []; watchpoints = [] }

abbrev goes_on : ℕ → Bool → Option ℕ → Plan
goes_on limit over budget = record { how = Continue; limit = limit; settings = traced over budget }

-- ---- text that ends lines

-- the text that was put to a console is whole lines
abbrev EndsLine : Console → Type 0
EndsLine c = new_line_after c.last ≡ []

after-append : (c : Console) (xs ys : List ℕ)
    → console_after c (xs ++ ys) ≡ console_after (console_after c xs) ys
unfolding console_after
after-append c [] ys = refl
after-append c (x ∷ xs) ys = after-append (console_with c x) xs ys

after_last : (c : Console) (xs : List ℕ) (byte : ℕ) → (console_after c (xs ++ byte ∷ [])).last ≡ Some byte
unfolding console_after
after_last c [] byte = last_with c byte
after_last c (x ∷ xs) byte = after_last (console_with c x) xs byte

line_ends : (c : Console) (e : Event) → EndsLine (console_after c (line e))
unfolding line
line_ends c e = ap new_line_after (after_last c ((decimal e.tick ++ codes " ") ++ event_text e.what) 10)

lines_end : (c : Console) (es : List Event) → EndsLine c → EndsLine (console_after c (events.lines es))
unfolding events.lines console_after
lines_end c [] ends = ends
lines_end c (e ∷ es) ends =
    rw (after-append c (line e) (events.lines es)) (lines_end (console_after c (line e)) es (line_ends c e))

-- ---- why a run ends: the machine has stopped, or the clock is at the limit

-- with a limit, and the tick of the clock
abbrev IsStop : ℕ → ℕ → Option StopReason → Option Stop → Type 0
IsStop limit tick None stop = ⊤
IsStop limit tick (Some r) stop =
    (stop_with_line r stop ≡ Some (unwrap_or stop StepLimit)) × ((is_some stop ≡ true) ⊎ (limit ≤ tick))

none_left : (limit tick : ℕ) (o : Option StopReason) (stop : Option Stop) → o ≡ None → IsStop limit tick o stop
none_left limit tick o stop none = rw none tt

at_limit : (limit tick : ℕ) → true ≡ nat_le limit tick → limit ≤ tick
at_limit limit tick is = let late : nat_le limit tick ≡ true = sym is in grind (arith, nat_tests)

before_stop : (limit tick : ℕ) (stop : Option Stop) (late : Bool) (rest : Option StopReason)
    → late ≡ nat_le limit tick → rest ≡ None
    → IsStop limit tick (reason_or (reason_if (is_some stop) reason.StoppedBefore)
    (reason_or (reason_if late (reason.Stopped StepLimit)) rest)) stop
before_stop limit tick (Some why) late rest is none = (refl, inl refl)
before_stop limit tick None true rest is none = (refl, inr (at_limit limit tick is))
before_stop limit tick None false rest is none = none_left limit tick rest None none

back_none : (s : State) (made : ℕ) (returns_to : Option ReturnPoint)
    → reason_in_unit [] Continue made s returns_to ≡ None
back_none s made None = cond_both _ _ _ (λ (o : Option StopReason). o ≡ None) (λ e. refl) (λ e. refl)
back_none s made (Some point) =
    cond_both (is_back s point) (reason_back [] Continue s point) (reason_at_breakpoint [] s)
    (λ (o : Option StopReason). o ≡ None)
    (λ back. cond_both (s.registers.pc == point.pc) _ _ (λ (o : Option StopReason). o ≡ None) (λ e. refl) (λ e. refl))
    (λ away. refl)

no_exit : (away done : Bool) → not away && (done && false) ≡ false
no_exit true done = refl
no_exit false true = refl
no_exit false false = refl

after_stop : (limit tick : ℕ) (stop : Option Stop) (away done : Bool)
    → IsStop limit tick (reason_or (stop_reason stop) (reason_if (not away && (done && false)) reason.Done)) stop
after_stop limit tick (Some why) away done = (refl, inl refl)
after_stop limit tick None away done =
    none_left limit tick _ None (ap (λ (b : Bool). reason_if b reason.Done) (no_exit away done))

-- ---- a slice

record Stops (limit : ℕ) (f : Flow) (sliced : Sliced) : Type 0 where
  why : IsStop limit (tick_of sliced.flow.state) sliced.reason sliced.flow.state.stop
  line : EndsLine sliced.flow.console

stops_none : (limit : ℕ) (o : Option StopReason) (es : List Event) (f : Flow)
    → IsStop limit (tick_of f.state) o f.state.stop → EndsLine f.console → Stops limit f (at_rest o es f)
stops_none limit o es f why ends = record { why = why; line = ends }

stops_or : (limit : ℕ) (o : Option StopReason) (es : List Event) (f : Flow) (later : Sliced)
    → IsStop limit (tick_of f.state) o f.state.stop → EndsLine f.console → Stops limit f later
    → Stops limit f (unless_ended o es f later)
stops_or limit (Some r) es f later why ends next = stops_none limit (Some r) es f why ends
stops_or limit None es f later why ends next = next

module _ (limit : ℕ) (over : Bool) (budget : Option ℕ) where
  abbrev p : Plan
  p = goes_on limit over budget

  -- where a step is made
  made_part : Flow → Sliced
  made_part f =
      after_pieces (step_piece p f ∷ []) (at_rest (reason_then p f) (step f.state).events (after_step p f))

  step_is : (f : Flow) → one_step p no_points f ≡ made_part f
  unfolding made_part
  step_is f =
      ap (λ (o : Option StopReason). unless_ended o (step f.state).events f
      (after_pieces (step_piece p f ∷ []) (at_rest (reason_then p f) (step f.state).events (after_step p f))))
      (ap watch_reason (none_hit (step f.state).events))

  then_stop : (f : Flow)
      → IsStop limit (tick_of (step f.state).state) (reason_then p f) (step f.state).state.stop
  then_stop f =
      after_stop limit (tick_of (step f.state).state) (step f.state).state.stop (is_some (returns_then p f))
      (counts Continue f.state || has_entry (step f.state).events)

  slice_stops : (n : ℕ) (f : Flow) → EndsLine f.console → Stops limit f (slice p no_points n f)
  unfolding slice made_part
  slice_stops zero f ends = stops_none limit None [] f tt ends
  slice_stops (suc n) f ends =
      let line : EndsLine (after_step p f).console = lines_end f.console _ ends in
      let on : Sliced → Sliced = λ part. after_pieces part.pieces
      (unless_ended part.reason part.events part.flow (slice p no_points n part.flow)) in
      let later : Stops limit f (on (made_part f)) =
      (let next = stops_or limit (reason_then p f) (step f.state).events (after_step p f)
      (slice p no_points n (after_step p f)) (then_stop f) line
      (slice_stops n (after_step p f) line) in record { why = next.why; line = next.line }) in
      stops_or limit (before_step p no_points f) [] f (on (one_step p no_points f))
      (before_stop limit (tick_of f.state) f.state.stop (nat_le limit (tick_of f.state))
      (reason_in_unit [] Continue f.made f.state f.returns_to) refl (back_none f.state f.made f.returns_to)) ends
      (subst (λ (part : Sliced). Stops limit f (on part)) (sym (step_is f)) later)

-- ---- the lines at the end

no_need : (b : Bool) → b && false ≡ false
no_need true = refl
no_need false = refl

none_needed : (over : Bool) (budget : Option ℕ) (es : List Event)
    → filter (λ (e : Event). needs_line (traced over budget) [] e.what) es ≡ []
none_needed over budget [] = refl
none_needed over budget (e ∷ es) =
    let un : needs_line (traced over budget) [] e.what ≡ false = no_need _ in
    rw un (none_needed over budget es)

begun_line : (follows : Bool) (last : Option ℕ) → new_line_after last ≡ [] → line_begun follows last ≡ []
begun_line true last ends = ends
begun_line false last ends = refl

-- no line but that of the stop
why_lines : (over : Bool) (budget : Option ℕ) (features : Features) (r : StopReason) (es : List Event) (f : Flow)
    → EndsLine f.console
    → whys (traced over budget) [] r es f ≡ stop_text (stop_with_line r f.state.stop)
unfolding events.lines
why_lines over budget features r es f ends =
    rw (
      begun_line (has_line (traced over budget) [] es (stop_with_line r f.state.stop)) f.console.last ends,
      none_needed over budget es,
    ) refl

-- ---- the slices of a turn

-- how a turn of such a run ends after n steps from s, where `total` steps were left, and `made` ones were made before
abbrev HowEnds : ℕ → ℕ → ℕ → Features → State → ℕ → Turn → List ℕ → Type 0
HowEnds limit total made features s n (Asks next) text =
    (text ≡ []) × ((features.is_gdb ≡ true) × ((n ≡ max_slice_steps)
    × (Continues next × (next.made ≡ made + n))))
HowEnds limit total made features s n (Ends signal) text =
    (text ≡ stop_line (unwrap_or (after n s).stop StepLimit)) × IsOver limit (after n s)
    ⊎ ((text ≡ []) × (signal ≡ signal_of reason.Interrupted)) × (n ≡ total)

-- GDB is asked after a slice
abbrev IsPolled : Features → ℕ → Type 0
IsPolled features n = features.is_gdb ≡ true → n ≤ max_slice_steps

-- and it made no more steps than those that were left
abbrev AtEnd : ℕ → ℕ → ℕ → Features → State → ℕ → Turn → List ℕ → Type 0
AtEnd limit total made features s n t text =
    (n ≤ total) × (IsPolled features n × HowEnds limit total made features s n t text)

-- the same end, of a turn that began m steps before
how_later : (limit total before made m n : ℕ) (features : Features) (s : State) (t : Turn) (text : List ℕ)
    → features.is_gdb ≡ false → HowEnds limit total before features (after m s) n t text
    → HowEnds limit (m + total) made features s (m + n) t text
how_later limit total before made m n features s (Asks next) text other ends =
    let gdb : features.is_gdb ≡ true = ends.1.0 in absurd (let w : ⊥ = cc in w)
how_later limit total before made m n features s (Ends signal) text other (inl stop) =
    inl (subst (λ (u : State). (text ≡ stop_line (unwrap_or u.stop StepLimit)) × IsOver limit u)
    (sym (after_both m n s)) stop)
how_later limit total before made m n features s (Ends signal) text other (inr cut) =
    inr (cut.0, ap (λ (i : ℕ). m + i) cut.1)

at_later : (limit total before made m n : ℕ) (features : Features) (s : State) (t : Turn) (text : List ℕ)
    → features.is_gdb ≡ false → AtEnd limit total before features (after m s) n t text
    → AtEnd limit (m + total) made features s (m + n) t text
at_later limit total before made m n features s t text other ends =
    let most = ends.0 in (
      omega (arith, most),
      (
        λ gdb. absurd (let w : ⊥ = cc in w),
        how_later limit total before made m n features s t text other ends.1.1,
      ),
    )

-- the steps of n whole slices, and of the rest
abbrev total_of : ℕ → ℕ → ℕ
total_of zero rest = rest
total_of (suc n) rest = max_slice_steps + total_of n rest

total_is : (n rest : ℕ) → total_of n rest ≡ n * max_slice_steps + rest
total_is zero rest = omega arith
total_is (suc n) rest = let e = total_is n rest in omega (arith, e)

small_rest : (n : ℕ) → n % max_slice_steps ≤ max_slice_steps
small_rest n = omega arith

module _ (limit : ℕ) (over : Bool) (budget : Option ℕ) (features : Features) where
  -- a slice of at most m steps ended a turn, or its budget is made
  last_end : (total m : ℕ) (o : Option StopReason) (es : List Event) (f g : Flow) → g.state ≡ after m f.state
      → IsStop limit (tick_of g.state) o g.state.stop → EndsLine g.console → m ≤ total → IsPolled features m
      → (o ≡ None → m ≡ total)
      → AtEnd limit total f.made features f.state m (Ends (signal_of (unwrap_or o reason.Interrupted)))
      (whys (traced over budget) [] (unwrap_or o reason.Interrupted) es g)
  last_end total m (Some r) es f g is stops ends most polled whole = (
    most,
    (
      polled,
      inl (
        why_lines over budget features r es g ends
            ∙ (ap stop_text stops.0 ∙ ap (λ (u : State). stop_line (unwrap_or u.stop StepLimit)) is),
        subst (IsOver limit) is stops.1,
      ),
    ),
  )
  last_end total m None es f g is stops ends most polled whole =
      (most, (polled, inr ((why_lines over budget features reason.Interrupted es g ends, refl), whole refl)))

  -- no step is made at the end
  at_slice : (total m : ℕ) (f : Flow) (t : Turn) (text : List ℕ)
      → AtEnd limit total f.made features f.state m t text
      → Later (AtEnd limit total f.made features f.state) m 0 t text
  at_slice total m f t text ends =
      subst (λ (n : ℕ). AtEnd limit total f.made features f.state n t text) (omega arith) ends

  slices_trace : (n rest : ℕ) (f : Flow) → rest ≤ max_slice_steps → EndsLine f.console
      → TurnFrom limit (traced over budget) (AtEnd limit (total_of n rest) f.made features f.state) f
      (slices (goes_on limit over budget) no_points features n rest f)
  unfolding slices
  slices_trace zero rest f small ends =
      let sliced : Sliced = slice (goes_on limit over budget) no_points rest f in
      let makes = slice_makes (goes_on limit over budget) no_points rest f in
      let stops = slice_stops limit over budget rest f ends in
      let r : StopReason = unwrap_or sliced.reason reason.Interrupted in
      after_sliced (goes_on limit over budget) no_points (AtEnd limit rest f.made features f.state) rest f _
      (end_turn limit (traced over budget) (Later (AtEnd limit rest f.made features f.state) makes.steps) [] features
      r sliced.events sliced.flow (at_slice rest makes.steps f (Ends (signal_of r))
      (whys (traced over budget) [] r sliced.events sliced.flow) (last_end rest makes.steps sliced.reason
      sliced.events f sliced.flow makes.made.state stops.why stops.line makes.most
      (λ gdb. (let b = makes.most in omega (arith, b, small))) makes.whole)))
  slices_trace (suc n) rest f small ends =
      let sliced : Sliced = slice (goes_on limit over budget) no_points max_slice_steps f in
      let makes = slice_makes (goes_on limit over budget) no_points max_slice_steps f in
      let stops = slice_stops limit over budget max_slice_steps f ends in
      let total : ℕ = max_slice_steps + total_of n rest in
      let most : makes.steps ≤ total = (let b = makes.most in omega (arith, b)) in
      after_sliced (goes_on limit over budget) no_points (AtEnd limit total f.made features f.state) max_slice_steps f _
      (ended_turn (goes_on limit over budget) no_points features
      (Later (AtEnd limit total f.made features f.state) makes.steps) sliced sliced.reason _
      (λ r is. at_slice total makes.steps f (Ends (signal_of r))
      (whys (traced over budget) [] r sliced.events sliced.flow) (last_end total makes.steps (Some r) sliced.events f
      sliced.flow makes.made.state
      (subst (λ (o : Option StopReason). IsStop limit (tick_of sliced.flow.state) o sliced.flow.state.stop) is
      stops.why) stops.line most (λ gdb. makes.most) (λ wrong. absurd cc)))
      (λ none gdb. at_slice total makes.steps f (asked Continue (flushed sliced.flow)).outcome [] (
        most,
        (
          λ asked. makes.most,
          (refl, (gdb, (makes.whole none, (record { how = refl; whole_lines = stops.line }, makes.count)))),
        ),
      ))
      (λ none other. turn_map limit (traced over budget)
      (AtEnd limit (total_of n rest) sliced.flow.made features sliced.flow.state)
      (Later (AtEnd limit total f.made features f.state) makes.steps) (flushed sliced.flow)
      (slices (goes_on limit over budget) no_points features n rest (flushed sliced.flow))
      (λ i lines held. next_end n rest f sliced makes.steps i
      (slices (goes_on limit over budget) no_points features n rest (flushed sliced.flow)).outcome lines
      (makes.whole none) makes.made.state other held)
      (slices_trace n rest (flushed sliced.flow) small stops.line)))
    where
      next_end : (n rest : ℕ) (f : Flow) (sliced : Sliced) (m i : ℕ) (t : Turn) (lines : List ℕ)
          → m ≡ max_slice_steps → sliced.flow.state ≡ after m f.state → features.is_gdb ≡ false
          → AtEnd limit (total_of n rest) sliced.flow.made features sliced.flow.state i t lines
          → AtEnd limit (max_slice_steps + total_of n rest) f.made features f.state (m + i) t lines
      next_end n rest f sliced m i t lines whole is other held =
          subst (λ (size : ℕ). AtEnd limit (size + total_of n rest) f.made features f.state (m + i) t lines) whole
          (at_later limit (total_of n rest) sliced.flow.made f.made m i features f.state t lines other
          (subst (λ (s : State). AtEnd limit (total_of n rest) sliced.flow.made features s i t lines) is held))

-- ---- a turn

-- the text of the steps and the lines at the end
trace_of : (limit left : ℕ) (features : Features) (run : Run) (n : ℕ) (s : State) (t : Turn) (lines : List ℕ)
    → HowEnds limit left run.made features s n t lines
    → IsTraceOf limit left features run n s t (steps_text (selected_text All) n s ++ lines)
unfolding selected_trace
trace_of limit left features run n s (Asks next) lines ends = record {
  text_is = ap (λ (l : List ℕ). steps_text (selected_text All) n s ++ l) ends.0 ∙ append-nil _;
  client = ends.1.0;
  slice = ends.1.1.0;
  continues = ends.1.1.1.0;
  made = ends.1.1.1.1;
}
trace_of limit left features run n s (Ends signal) lines (inl stop) = inl (record {
  text_is = ap (λ (l : List ℕ). steps_text (selected_text All) n s ++ l) stop.0;
  over = stop.1;
})
trace_of limit left features run n s (Ends signal) lines (inr cut) = inr (record {
  text_is = ap (λ (l : List ℕ). steps_text (selected_text All) n s ++ l) cut.0.0 ∙ append-nil _;
  signal_is = cut.0.1;
  cut = inr cut.1;
})

-- what the law says of such an end
abbrev IsTraceEnd : ℕ → ℕ → Features → Run → State → ℕ → Turn → List ℕ → Type 0
IsTraceEnd limit left features run s n t lines =
    (n ≤ left) × (IsPolled features n × ((run.is_interrupted ≡ true → n ≡ 0)
    × IsTraceOf limit left features run n s t (steps_text (selected_text All) n s ++ lines)))

module _ (limit : ℕ) (over : Bool) (budget : Option ℕ) (features : Features) (run : Run) (s : State)
    (whole_lines : new_line_after run.last ≡ [])
  where
    abbrev left : ℕ
    left = steps_left (max_steps (traced over budget) features.is_gdb) run.made

    -- interrupted before its first step
    none_made : run.is_interrupted ≡ true → (lines : List ℕ) → lines ≡ []
        → IsTraceEnd limit left features run s 0 (Ends (signal_of reason.Interrupted)) lines
    none_made is lines none = (
      omega arith,
      (
        λ gdb. omega arith,
        (
          λ yes. refl,
          inr (record {
            text_is = ap (λ (l : List ℕ). steps_text (selected_text All) 0 s ++ l) none ∙ append-nil _;
            signal_is = refl;
            cut = inl is;
          }),
        ),
      ),
    )

    -- the turn, of a run that was interrupted or not
    abbrev turn_if : Bool → Resume → Turned
    turn_if b how =
        if b then ended (traced over budget) [] features reason.Interrupted [] (begun run s)
        else all_slices (record { how = how; limit = limit; settings = traced over budget }) no_points features left
        (begun run s)

    turn_trace : (b : Bool) → b ≡ run.is_interrupted
        → TurnFrom limit (traced over budget) (IsTraceEnd limit left features run s) (begun run s) (turn_if b Continue)
    turn_trace true is =
        end_turn limit (traced over budget) (IsTraceEnd limit left features run s) [] features
        reason.Interrupted [] (begun run s) (none_made (sym is) _
        (why_lines over budget features reason.Interrupted [] (begun run s) whole_lines))
    turn_trace false is =
        turn_map limit (traced over budget) (AtEnd limit
        (total_of (left / max_slice_steps) (left % max_slice_steps)) run.made features s)
        (IsTraceEnd limit left features run s) (begun run s) (turn_if false Continue)
        (λ n lines ends. at_turn n (turn_if false Continue).outcome lines is
        (total_is (left / max_slice_steps) (left % max_slice_steps) ∙ div-add-mod' left max_slice_steps) ends)
        (slices_trace limit over budget features (left / max_slice_steps) (left % max_slice_steps) (begun run s)
        (small_rest left) whole_lines)
      where
        at_turn : (n : ℕ) (t : Turn) (lines : List ℕ) → false ≡ run.is_interrupted
            → total_of (left / max_slice_steps) (left % max_slice_steps) ≡ left
            → AtEnd limit (total_of (left / max_slice_steps) (left % max_slice_steps)) run.made features s n t lines
            → IsTraceEnd limit left features run s n t lines
        at_turn n t lines on is ends =
            let held = subst (λ (total : ℕ). AtEnd limit total run.made features s n t lines) is ends in (
              held.0,
              (
                held.1.0,
                (
                  λ yes. absurd (let w : ⊥ = cc in w),
                  trace_of limit left features run n s t lines held.1.1,
                ),
              ),
            )

free_trace : (over : Bool) (budget : Option ℕ) (features : Features) (limit : ℕ) (run : Run) (s : State)
    → Continues run
    → WritesTrace limit (steps_left (max_steps (traced over budget) features.is_gdb) run.made) features run s
    (turn no_points (traced over budget) features limit run s)
free_trace over budget features limit run s continues =
    let t = subst (λ (how : Resume). TurnFrom limit (traced over budget)
    (IsTraceEnd limit (left limit over budget features run s continues.whole_lines) features run s) (begun run s)
    (turn_if limit over budget features run s continues.whole_lines run.is_interrupted how)) (sym continues.how)
    (turn_trace limit over budget features run s continues.whole_lines run.is_interrupted refl) in
    record {
      steps = t.steps;
      state = t.state;
      going = t.going;
      early = t.early;
      most = t.ends.0;
      polled = t.ends.1.0;
      interrupted = t.ends.1.1.0;
      text = steps_text (selected_text All) t.steps s ++ t.lines;
      written = record { parts = t.parts; whole = t.whole; written = t.written };
      trace = t.ends.1.1.1;
    }

settings_are : (k : Settings) (selection : LineSelection) (has_lines refused faults exceptions : Bool)
    → selection ≡ lines.All → has_lines ≡ true → refused ≡ false → faults ≡ false → exceptions ≡ false
    → ◌≡◌ {A = Settings} (traced k.steps_over k.budget) (record {
      selection = selection;
      has_lines = has_lines;
      refused = refused;
      faults = faults;
      exceptions = exceptions;
      steps_over = k.steps_over;
      budget = k.budget;
    })
settings_are k selection has_lines refused faults exceptions a b c d e = rw (a, b, c, d, e) refl

points_are : (breakpoints : List Breakpoint) (watchpoints : List Watchpoint) → breakpoints ≡ [] → watchpoints ≡ []
    → ◌≡◌ {A = Points} no_points (record { breakpoints = breakpoints; watchpoints = watchpoints })
points_are breakpoints watchpoints a b = rw (a, b) refl

pub trace_law : (points : Points) (k : Settings) (features : Features) (limit : ℕ) (run : Run) (s : State)
    → TraceLaw points k features limit run s
trace_law points k features limit run s all continues =
    subst (λ (q : Points).
    WritesTrace limit (steps_left (max_steps k features.is_gdb) run.made) features run s
    (turn q k features limit run s))
    (points_are points.breakpoints points.watchpoints all.breakpoints all.watchpoints)
    (subst (λ (j : Settings). WritesTrace limit (steps_left (max_steps j features.is_gdb) run.made) features run s
    (turn no_points j features limit run s))
    (settings_are k k.selection k.has_lines k.refused k.faults k.exceptions all.selection all.has_lines all.refused
    all.faults all.exceptions) (free_trace k.steps_over k.budget features limit run s continues))
