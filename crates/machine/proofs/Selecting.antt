-- Runs that write a selection of their events: one step more, their end, and a writer that cuts them short.
use Rattle.std.proofs.Common.{◌≡◌, ◌⊎◌, inl, inr, ℕ, zero, suc, ◌+◌, ◌-◌, ◌<◌, ◌≤◌}
use Rattle.std.proofs.Common.{List, [], ◌++◌, Option, None, IsSome}
use Rattle.std.proofs.Common.{refl, append_assoc, add-one, add-zero, arith, unwrap_or, Result, Ok, Err, IfErr}
use Rattle.std.proofs.lemmas.List.{append-nil}
use Rattle.std.specs.Io.KnownBytes.{Appends}
use Rattle.std.proofs.KnownBytes.{Appends-trans}
use Rattle.machine.proofs.Running.{after_stop, cut_after, events_more, over, prefix_of, stays}
use Rattle.machine.specs.declared.machine.RunError.{RunError}
use Rattle.machine.specs.declared.machine.RunError.TheVariants.{Write, Broken}
use Rattle.machine.specs.Runs.{Fails, Leaves}
use Rattle.machine.specs.Selected.{SelectedFails, SelectedLeaves}
use Rattle.target.specs.MachineModel.{MachineModel}
use Rattle.output.specs.Output.{GrowsByPrefix, IsCutAfter, IsCutShort, Writing}
use Rattle.platform.specs.declared.event.Event.{Event}
use Rattle.platform.specs.declared.stop.Stop.{Stop}
use Rattle.platform.specs.declared.stop.Stop.TheVariants.{StepLimit}
use Rattle.reference.specs.Run.{after, events_of, ending_of}
use Rattle.reference.specs.State.{State}
use Rattle.reference.specs.Step.{step}
use Rattle.platform.specs.Events.{lines}
use Rattle.platform.specs.Text.{stop_line}
use Rattle.trace.proofs.Selecting.{all_lines, last-nil, selected-nil}
use Rattle.trace.specs.declared.selection.TraceSelection.{TraceSelection}
use Rattle.trace.specs.declared.selection.TraceSelection.TheVariants as which
use Rattle.trace.specs.Selection.{last_printed, new_line_after, selected_end, selected_text, selected_trace}
use Rattle.trace.specs.Selection.{steps_text}

-- before the first step
pub none_shown : (selection : TraceSelection) (s : State) → steps_text (selected_text selection) 0 s ≡ []
unfolding steps_text
none_shown selection s = refl

pub none_printed : (selection : TraceSelection) (s : State) → None ≡ last_printed selection (events_of 0 s)
unfolding events_of
none_printed selection s = last-nil selection

-- the text of one step more
text_more : (text : List Event → List ℕ) (n : ℕ) (s : State)
    → steps_text text (n + 1) s ≡ steps_text text n s ++ text (step (after n s)).events
unfolding steps_text
text_more text n s = rw add-one refl

-- after a stop there is no more text
text_after_stop : (text : List Event → List ℕ) → text [] ≡ [] → (m k : ℕ) (s : State) → IsSome (after m s).stop
    → steps_text text (m + k) s ≡ steps_text text m s
text_after_stop text none m zero s some = rw add-zero refl
text_after_stop text none m (suc k) s some =
    let e : m + suc k ≡ (m + k) + 1 = omega arith in
    rw (
      e,
      text_more text (m + k) s,
      (after_stop m k s some).0,
      stays (after m s) some,
      none,
      text_after_stop text none m k s some,
    ) (append-nil (steps_text text m s))

-- the text of a run that is over
text_over : (text : List Event → List ℕ) → text [] ≡ [] → (made limit : ℕ) (s : State) → made ≤ limit
    → (made ≡ limit) ⊎ IsSome (after made s).stop → steps_text text limit s ≡ steps_text text made s
text_over text none made limit s few (inl e) = rw (← e) refl
text_over text none made limit s few (inr some) = let e : made + (limit - made) ≡ limit = omega arith in
    rw e at (text_after_stop text none made (limit - made) s some)

-- the text of one step more went out

pub shown_on : (selection : TraceSelection) (old mid new : Option (List ℕ)) (n : ℕ) (s core : State)
    → Appends old mid (steps_text (selected_text selection) n s)
    → Appends mid new (selected_text selection (step core).events) → core ≡ after n s
    → Appends old new (steps_text (selected_text selection) (n + 1) s)
shown_on selection old mid new n s core shown more now =
    rw (text_more (selected_text selection) n s, ← now) (Appends-trans old mid new _ _ shown more)

-- the last byte that was printed, after one step more
pub printed_on : (selection : TraceSelection) (last later : Option ℕ) (n : ℕ) (s core : State)
    → ((events : List Event) → last ≡ last_printed selection events
    → later ≡ last_printed selection (events ++ (step core).events))
    → last ≡ last_printed selection (events_of n s) → core ≡ after n s
    → later ≡ last_printed selection (events_of (n + 1) s)
printed_on selection last later n s core more printed now =
    rw (events_more n s, ← now) (more (events_of n s) printed)

-- the text that a run ends with
end_is : (selection : TraceSelection) (limit n : ℕ) (s core : State) (last : Option ℕ) (stop : Stop) → n ≤ limit
    → core ≡ after n s → last ≡ last_printed selection (events_of n s) → stop ≡ unwrap_or core.stop StepLimit
    → (n ≡ limit) ⊎ IsSome (after n s).stop
    → (steps_text (selected_text selection) limit s ≡ steps_text (selected_text selection) n s)
    × (new_line_after last ++ stop_line stop ≡ selected_end selection (events_of limit s) (ending_of limit s))
end_is selection limit n s core last stop few now printed same ends =
    let done = over n limit s few ends in (
      text_over (selected_text selection) (selected-nil selection) n limit s few ends,
      rw (printed, same, now, done.0, done.1) refl,
    )

-- the end was cut short
pub cut_in_end : (selection : TraceSelection) (old mid new : Writing) (limit n : ℕ) (s core : State)
    (last : Option ℕ) (stop : Stop) → n ≤ limit → ((k : ℕ) → k < n → (after k s).stop ≡ None) → core ≡ after n s
    → Appends old.written mid.written (steps_text (selected_text selection) n s)
    → last ≡ last_printed selection (events_of n s) → stop ≡ unwrap_or core.stop StepLimit
    → IsCutShort mid.written new.written (new_line_after last ++ stop_line stop)
    → (n ≡ limit) ⊎ IsSome core.stop → SelectedLeaves selection limit s n old new core
cut_in_end selection old mid new limit n s core last stop few made now shown printed same cut ends =
    let ends' : (n ≡ limit) ⊎ IsSome (after n s).stop = rw (← now) ends in
    let e = end_is selection limit n s core last stop few now printed same ends' in
    let whole :
    IsCutAfter old.written new.written (steps_text (selected_text selection) limit s)
    (selected_end selection (events_of limit s) (ending_of limit s)) =
    rw (e.0, ← e.1) (cut_after old.written mid.written new.written _ _ shown cut) in
    record { few = few; made = made; state = now; cut = inr (ends', whole) }

-- the whole selected trace went out
pub all_shown : (selection : TraceSelection) (old mid new : Option (List ℕ)) (limit n : ℕ) (s core : State)
    (last : Option ℕ) (stop : Stop) → n ≤ limit → core ≡ after n s
    → Appends old mid (steps_text (selected_text selection) n s) → last ≡ last_printed selection (events_of n s)
    → stop ≡ unwrap_or core.stop StepLimit → Appends mid new (new_line_after last ++ stop_line stop)
    → (n ≡ limit) ⊎ IsSome core.stop → Appends old new (selected_trace selection limit s)
unfolding selected_trace
all_shown selection old mid new limit n s core last stop few now shown printed same more ends =
    let ends' : (n ≡ limit) ⊎ IsSome (after n s).stop = rw (← now) ends in
    let e = end_is selection limit n s core last stop few now printed same ends' in
    rw (e.0, ← e.1) (Appends-trans old mid new _ _ shown more)

-- the text of a run begins with that of its first steps
text_goes_on : (text : List Event → List ℕ) (m k : ℕ) (s : State)
    → (others : List ℕ) × (steps_text text (m + k) s ≡ steps_text text m s ++ others)
text_goes_on text m zero s = ([], rw (add-zero, append-nil) refl)
text_goes_on text m (suc k) s =
    let before = text_goes_on text m k s in
    let e : m + suc k ≡ (m + k) + 1 = omega arith in (
      before.0 ++ text (step (after (m + k) s)).events,
      rw (e, text_more text (m + k) s, before.1, append_assoc) refl,
    )

text_continues : (text : List Event → List ℕ) (m n : ℕ) (s : State) → m + 1 ≤ n
    → (others : List ℕ) × (steps_text text n s ≡ steps_text text m s ++ text (step (after m s)).events ++ others)
text_continues text m n s few =
    let e : (m + 1) + (n - (m + 1)) ≡ n = omega arith in
    let all = text_goes_on text (m + 1) (n - (m + 1)) s in
    let whole : steps_text text n s ≡ steps_text text (m + 1) s ++ all.0 = rw e at all.1 in
    (all.0, rw (whole, text_more text m s, append_assoc) refl)

-- what a run that was cut short put is a prefix of the selected trace
pub selected_left_prefix : (selection : TraceSelection) (n : ℕ) (s : State) (steps : ℕ) (old new : Writing)
    (last : State) → SelectedLeaves selection n s steps old new last
    → GrowsByPrefix old.written new.written (selected_trace selection n s)
unfolding selected_trace
selected_left_prefix selection n s steps old new last left = elim left.cut [
  | inl in_step ↦
      let few : steps - 1 + 1 ≤ n = omega (arith, in_step.0, left.few) in
      let all = text_continues (selected_text selection) (steps - 1) n s few in
      let end = selected_end selection (events_of n s) (ending_of n s) in
      prefix_of old.written new.written _ _ (all.0 ++ end) _ in_step.1 (rw all.1 (append_assoc _ all.0 end))
  | inr in_end ↦ prefix_of old.written new.written _ _ [] _ in_end.1 (rw append-nil refl)
]

-- with all events the text of the steps is their lines
lines_of_all : (n : ℕ) (s : State) → steps_text (selected_text which.All) n s ≡ steps_text lines n s
unfolding steps_text
lines_of_all zero s = refl
lines_of_all (suc n) s = rw (lines_of_all n s, all_lines (step (after n s)).events) refl

-- with all events it is a run that writes its whole trace
leaves_all : (n : ℕ) (s : State) (steps : ℕ) (old new : Writing) (last : State)
    → SelectedLeaves which.All n s steps old new last → Leaves lines (stop_line (ending_of n s)) n s steps old new last
leaves_all n s steps old new last left = record {
  few = left.few;
  made = left.made;
  state = left.state;
  cut = elim left.cut [
    | inl in_step ↦ inl (
      in_step.0,
      rw (lines_of_all (steps - 1) s, all_lines (step (after (steps - 1) s)).events) at in_step.1,
    )
    | inr in_end ↦ inr (in_end.0, rw (lines_of_all n s) at in_end.1)
  ];
}

pub fails_all : (n : ℕ) (old new : MachineModel) (out out' : Writing) (result : Result Stop RunError)
    → IfErr result (SelectedFails which.All n old new out out') → IfErr result (Fails n old new out out')
fails_all n old new out out' (Ok stop) fails = fails
fails_all n old new out out' (Err (Write steps)) fails =
    (leaves_all n old.state steps out out' new.state fails.0, fails.1, fails.2)
fails_all n old new out out' (Err Broken) fails = fails
