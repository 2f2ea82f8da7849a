-- What a turn of a run writes: the text of the steps that it makes, as a run of `marm run` writes it (profile).
use Rattle.std.specs.Prelude.{◌≡◌, ◌⊎◌, ℕ, suc, ◌+◌, ◌<◌, ◌≤◌, true, false, List, [], ◌++◌, Option, None, is_some}
use Rattle.std.specs.List.{concat, last_or}
use Rattle.debugger_commands.specs.declared.conditions.LineSelection.TheVariants as lines
use Rattle.gdb.specs.declared.slices.Points.{Points}
use Rattle.gdb.specs.declared.turns.Run.{Run}
use Rattle.gdb.specs.declared.turns.Turn.{Turn}
use Rattle.gdb.specs.declared.turns.Turn.TheVariants.{Asks, Ends}
use Rattle.gdb.specs.Reasons.{selection_of}
use Rattle.gdb.specs.Turns.{Turned, max_slice_steps, steps_left, turn}
use Rattle.gdb.specs.Whys.{stop_with_line, why_text}
use Rattle.gdb_texts.specs.Console.{console_packets}
use Rattle.gdb_texts.specs.declared.actions.Resume.TheVariants.{Continue}
use Rattle.gdb_texts.specs.declared.features.Features.{Features}
use Rattle.gdb_texts.specs.declared.settings.Settings.{Settings}
use Rattle.gdb_texts.specs.declared.stops.Signal.{Signal}
use Rattle.gdb_texts.specs.declared.stops.StopReason.{StopReason}
use Rattle.gdb_texts.specs.declared.stops.StopReason.TheVariants as reason
use Rattle.gdb_texts.specs.declared.watchpoints.Watchpoint.{Watchpoint}
use Rattle.gdb_texts.specs.Settings.{max_steps}
use Rattle.gdb_texts.specs.Stops.{signal_of}
use Rattle.platform.specs.declared.event.Event.{Event}
use Rattle.platform.specs.declared.stop.Stop.TheVariants.{StepLimit}
use Rattle.reference.specs.Run.{after}
use Rattle.reference.specs.State.{State}
use Rattle.reference.specs.Step.{step}
use Rattle.serving.specs.Pieces.{Piece, last_state, texts}
use Rattle.trace.specs.declared.selection.TraceSelection.TheVariants.{All}
use Rattle.trace.specs.Selection.{new_line_after, selected_text, selected_trace, steps_text}

-- the text of n steps, as a run with the selection of the settings writes it
abbrev pub text_of : Settings → ℕ → State → List ℕ
text_of k n s = steps_text (selected_text (selection_of k.selection)) n s

-- pieces are a text for GDB's console, cut into packets, and then one more packet
pub record WritesText (pieces : List Piece) (text packet : List ℕ) : Type 0 where
  pub parts : List (List ℕ)
  pub whole : concat parts ≡ text
  pub written : texts pieces ≡ console_packets parts ++ packet

-- the clock is below the limit before each of n steps from s
abbrev pub IsEarly : ℕ → State → ℕ → Type 0
IsEarly limit s n = (i : ℕ) → i < n → (after i s).bus.system.time.ticks < limit

-- ---- the lines that say why a run ended, after n steps from s

-- the events of the last step
pub record AreOfLastStep (n : ℕ) (s : State) (events : List Event) : Type 0 where
  pub earlier : ℕ
  pub last : n ≡ suc earlier
  pub events_are : events ≡ (step (after earlier s)).events

-- the events that the lines are of: those of the last step, where the run ended for what happened in it; those of the
-- next step, which isn't made, at a watchpoint; and none, where the run ended before a step
abbrev pub AreEventsFor : StopReason → ℕ → State → List Event → Type 0
AreEventsFor reason.Done n s events = AreOfLastStep n s events ⊎ (events ≡ [])
AreEventsFor (reason.Breakpoint kind) n s events = events ≡ []
AreEventsFor (reason.Watchpoint kind address) n s events = events ≡ (step (after n s)).events
AreEventsFor reason.PastBegins n s events = ⊥
AreEventsFor (reason.Stopped why) n s events = AreOfLastStep n s events ⊎ (events ≡ []) × (why ≡ StepLimit)
AreEventsFor reason.StoppedBefore n s events = events ≡ []
AreEventsFor (reason.Refused cause) n s events = AreOfLastStep n s events
AreEventsFor reason.Fault n s events = AreOfLastStep n s events
AreEventsFor reason.Entered n s events = AreOfLastStep n s events
AreEventsFor reason.Interrupted n s events = events ≡ []

-- the lines of these events, and of the stop; `before` is the last byte of the run's text before these steps
pub record SaysWhy (k : Settings) (watchpoints : List Watchpoint) (before : Option ℕ) (n : ℕ) (s : State)
    (signal : Signal) (lines : List ℕ) : Type 0 where
  pub why : StopReason
  pub events : List Event
  pub signal_is : signal ≡ signal_of why
  pub of_step : AreEventsFor why n s events
  pub lines_are : lines
      ≡ why_text k watchpoints events (stop_with_line why (after n s).stop) (last_or before (text_of k n s))

-- a turn that asks GDB ends without lines
abbrev pub EndsWith : Settings → List Watchpoint → Option ℕ → ℕ → State → Turn → List ℕ → Type 0
EndsWith k watchpoints before n s (Asks next) lines = lines ≡ []
EndsWith k watchpoints before n s (Ends signal) lines = SaysWhy k watchpoints before n s signal lines

-- ---- a turn

-- a turn makes some steps of the machine, none of them after it stopped or with its clock at the limit, and writes
-- their text, the lines at its end, and one packet: the stop reply, or the question to GDB
pub record MakesSteps (k : Settings) (watchpoints : List Watchpoint) (limit : ℕ) (run : Run) (s : State) (t : Turned)
    : Type 0 where
  pub steps : ℕ
  pub state : last_state s t.pieces ≡ after steps s
  pub going : (i : ℕ) → i < steps → (after i s).stop ≡ None
  pub early : IsEarly limit s steps
  pub lines : List ℕ
  pub text : WritesText t.pieces (text_of k steps s ++ lines) t.sent
  pub ends : EndsWith k watchpoints run.last steps s t.outcome lines

-- each turn does, whatever ends it
abbrev pub TurnLaw : Points → Settings → Features → ℕ → Run → State → Type 0
TurnLaw points k features limit run s =
    MakesSteps k points.watchpoints limit run s (turn points k features limit run s)

-- ---- `c` with nothing that stops it

-- `monitor trace all`, lines that say why a run ends, no breakpoint, no watchpoint, and no `monitor stop ..`
pub record TracesAll (points : Points) (k : Settings) : Type 0 where
  pub selection : k.selection ≡ lines.All
  pub has_lines : k.has_lines ≡ true
  pub breakpoints : points.breakpoints ≡ []
  pub watchpoints : points.watchpoints ≡ []
  pub refused : k.refused ≡ false
  pub faults : k.faults ≡ false
  pub exceptions : k.exceptions ≡ false

-- a run of `c`, whose text so far is whole lines
pub record Continues (run : Run) : Type 0 where
  pub how : run.how ≡ Continue
  pub whole_lines : new_line_after run.last ≡ []

-- the machine has stopped, or its clock is at the limit
abbrev pub IsOver : ℕ → State → Type 0
IsOver limit s = (is_some s.stop ≡ true) ⊎ (limit ≤ s.bus.system.time.ticks)

-- the run is over after n steps from s: the text is the whole trace, to the line of its stop
pub record IsWholeTrace (limit n : ℕ) (s : State) (text : List ℕ) : Type 0 where
  pub text_is : text ≡ selected_trace All n s
  pub over : IsOver limit (after n s)

-- the run was interrupted before this turn, or no step of its budget is left after n: that line isn't there
pub record IsCutTrace (run : Run) (left n : ℕ) (s : State) (signal : Signal) (text : List ℕ) : Type 0 where
  pub text_is : text ≡ steps_text (selected_text All) n s
  pub signal_is : signal ≡ signal_of reason.Interrupted
  pub cut : (run.is_interrupted ≡ true) ⊎ (n ≡ left)

-- GDB is asked after a whole slice of n steps, and the next turn goes on from there: that line isn't there either
pub record IsAskedTrace (features : Features) (run next : Run) (n : ℕ) (s : State) (text : List ℕ) : Type 0 where
  pub text_is : text ≡ steps_text (selected_text All) n s
  pub client : features.is_gdb ≡ true
  pub slice : n ≡ max_slice_steps
  pub continues : Continues next
  pub made : next.made ≡ run.made + n

abbrev pub IsTraceOf : ℕ → ℕ → Features → Run → ℕ → State → Turn → List ℕ → Type 0
IsTraceOf limit left features run n s (Asks next) text = IsAskedTrace features run next n s text
IsTraceOf limit left features run n s (Ends signal) text =
    IsWholeTrace limit n s text ⊎ IsCutTrace run left n s signal text

-- a turn makes the steps of the machine up to its first stop, or the limit, and writes what a run of as many steps
-- writes; it makes fewer where no more are left of the budget, or GDB is asked or has interrupted it
pub record WritesTrace (limit left : ℕ) (features : Features) (run : Run) (s : State) (t : Turned) : Type 0 where
  pub steps : ℕ
  pub state : last_state s t.pieces ≡ after steps s
  pub going : (i : ℕ) → i < steps → (after i s).stop ≡ None
  pub early : IsEarly limit s steps
  pub most : steps ≤ left
  pub polled : features.is_gdb ≡ true → steps ≤ max_slice_steps
  pub interrupted : run.is_interrupted ≡ true → steps ≡ 0
  pub text : List ℕ
  pub written : WritesText t.pieces text t.sent
  pub trace : IsTraceOf limit left features run steps s t.outcome text

abbrev pub TraceLaw : Points → Settings → Features → ℕ → Run → State → Type 0
TraceLaw points k features limit run s =
    TracesAll points k → Continues run →
    WritesTrace limit (steps_left (max_steps k features.is_gdb) run.made) features run s
    (turn points k features limit run s)
