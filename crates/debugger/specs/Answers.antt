-- What the debugger answers to a command (profile).
use Rattle.std.specs.Prelude.{ℕ, zero, suc, ◌+◌, ◌-◌, Bool, true, false, not, ◌&&◌, ◌||◌, if◌then◌else◌, is_some}
use Rattle.std.specs.Prelude.{List, [], ◌∷◌, ◌++◌, codes, decimal, Option, Some, None, Result, Ok, Err}
use Rattle.std.specs.Prelude.{nat_lt, slice_index_or, slice_set}
use Rattle.debugger.specs.StateText.{registers_text, state_text}
use Rattle.debugger_commands.specs.declared.changes.Change.{Change}
use Rattle.debugger_commands.specs.declared.changes.Change.TheVariants as change
use Rattle.debugger_commands.specs.declared.changes.Edge.{Edge}
use Rattle.debugger_commands.specs.declared.changes.Edge.TheVariants as edge
use Rattle.debugger_commands.specs.declared.commands.Command.{Command}
use Rattle.debugger_commands.specs.declared.commands.LineError.{LineError}
use Rattle.debugger_commands.specs.declared.commands.Part.{Part}
use Rattle.debugger_commands.specs.declared.commands.Part.TheVariants as part
use Rattle.debugger_commands.specs.declared.conditions.Hit.{Hit}
use Rattle.debugger_commands.specs.declared.conditions.Hit.TheVariants as hit
use Rattle.debugger_commands.specs.Breakpoints.{has}
use Rattle.debugger_commands.specs.Commands.{change_of, part_of, quits, steps_of, task_steps_of}
use Rattle.debugger_commands.specs.Conditions.{first_hit, run_end_text, written}
use Rattle.debugger_commands.specs.Settings.{Settings, ok_text, settings_after, settings_text, without_conditions}
use Rattle.debugger_commands.specs.Texts.{decision_text, help_text, memory_text, region_lines}
use Rattle.target.specs.NextStep.{is_instruction_next, next_kind_of}
use Rattle.target.specs.Endings.{end_of}
use Rattle.target.specs.Values.{values_of}
use Rattle.platform.specs.declared.error.PlaceError.{PlaceError}
use Rattle.platform.specs.declared.error.PlaceError.TheVariants.{NotAligned, NoSuchPlace, Stopped, Refused}
use Rattle.platform.specs.declared.exception.TheConstants.{MAX_INTERRUPTS}
use Rattle.platform.specs.declared.mpu.TheConstants.{MAX_REGIONS}
use Rattle.platform.specs.declared.script.Signal.{Signal}
use Rattle.platform.specs.declared.script.Signal.TheVariants as signal
use Rattle.platform.specs.declared.stop.Unsupported.TheVariants.{ClockEnd}
use Rattle.platform.specs.declared.stop.Stop.{Stop}
use Rattle.platform.specs.declared.stop.Stop.TheVariants.{OutOfProfile}
use Rattle.platform.specs.Priorities.{is_below_zero}
use Rattle.platform.specs.Rules.{decision_of}
use Rattle.reference.specs.declared.place.Place.{Place}
use Rattle.reference.specs.Places.{altered, signalled}
use Rattle.reference.specs.State.{State}
use Rattle.reference.specs.Step.{step}
use Rattle.serving.specs.Pieces.{Piece, last_state}
use Rattle.platform.specs.Text.{hex_word, line_feed, stop_line, stop_text}
use Rattle.platform.specs.Events.{lines}
use Rattle.task_laws.specs.declared.next_step.StepKind.{StepKind}
use Rattle.task_laws.specs.declared.next_step.StepKind.TheVariants as kind
use Rattle.task_laws.specs.declared.task.TaskEnd.{TaskEnd}
use Rattle.task_laws.specs.declared.task.TaskEnd.TheVariants as task_end
use Rattle.task_laws.specs.Tasks.{is_task}

-- ---- step and run n

-- one step, with the lines that its events have
abbrev pub step_piece : Settings → State → Piece
step_piece k s = record { state = (step s).state; text = lines (written k (step s).events) }

-- the end of a run: what was hit, and where the machine is
abbrev pub end_piece : Settings → Option Hit → State → Piece
end_piece k h s = record { state = s; text = run_end_text k h s.registers.pc s.stop }

-- the next step is an Instruction step at a breakpoint
abbrev pub is_hit : List ℕ → State → Bool
is_hit breakpoints s = has breakpoints s.registers.pc && is_instruction_next s

-- what is hit before the next step: by the events of the last one, or a breakpoint
abbrev pub hit_before : Settings → Option Hit → State → Option Hit
hit_before k (Some h) s = Some h
hit_before k None s = if is_hit k.breakpoints s then Some hit.Break else None

-- a run goes on after a step unless the machine has stopped or something is hit
abbrev pub ends_at : Option Hit → State → Bool
ends_at h s = is_some s.stop || is_some h

-- the pieces of a run of at most n steps after a step whose events hit this
unfoldable pub run_on : Settings → ℕ → Option Hit → State → List Piece
run_on k zero h s = end_piece k h s ∷ []
run_on k (suc n) h s =
    if ends_at (hit_before k h s) s then end_piece k (hit_before k h s) s ∷ []
    else step_piece k s ∷ run_on k n (first_hit k (step s).events) (step s).state

-- a run of at most n steps: no breakpoint is tested before its first step, and a stopped machine makes none
abbrev pub run_pieces : Settings → ℕ → State → List Piece
run_pieces k n s =
    if is_some s.stop then end_piece k None s ∷ []
    else step_piece k s ∷ run_on k (n - 1) (first_hit k (step s).events) (step s).state

-- ---- task n

abbrev pub task_text : TaskEnd → List ℕ
task_text task_end.Done = codes "task done" ++ line_feed
task_text task_end.Other = codes "task other" ++ line_feed
task_text task_end.NotTask = codes "task not" ++ line_feed
task_text (task_end.Stopped why) = stop_line why

abbrev pub task_piece : State → TaskEnd → Piece
task_piece s end = record { state = s; text = task_text end }

-- the pieces of at most n steps, as long as they are Instruction steps
unfoldable pub task_on : Settings → ℕ → State → List Piece
task_on k zero s = task_piece s (end_of s.stop false) ∷ []
task_on k (suc n) s =
    if is_instruction_next s then step_piece k s ∷ task_on k n (step s).state
    else task_piece s (end_of s.stop true) ∷ []

-- a run of a task of at most n steps: none is made where no task runs, and a stopped machine has its stop line alone.
-- Nothing else ends it
abbrev pub task_pieces : Settings → ℕ → State → List Piece
task_pieces k n s =
    if is_some s.stop || is_task s then task_on (without_conditions k) n s
    else task_piece s task_end.NotTask ∷ []

-- ---- next: the kind of the next step

abbrev pub kind_word : StepKind → List ℕ
kind_word kind.Vector = codes "Vector"
kind_word kind.Stack = codes "Stack"
kind_word kind.Sleep = codes "Sleep"
kind_word kind.Instruction = codes "Instruction"

-- where there is no next step, the line of the stop, which at the end of the clock is that of the step that would only
-- stop
abbrev pub next_line : Option StepKind → Option Stop → List ℕ
next_line (Some what) stop = kind_word what ++ line_feed
next_line None (Some why) = stop_line why
next_line None None = stop_line (OutOfProfile ClockEnd)

abbrev pub next_text : State → List ℕ
next_text s = next_line (next_kind_of s) s.stop

-- ---- commands that show a part of the machine

-- the text for a part of the machine
abbrev pub part_text : State → Part → List ℕ
part_text s part.Regs = registers_text (values_of s.registers s.bus.system.nvic.masks)
part_text s (part.Memory a n) = memory_text s.bus a (n + 1)
part_text s part.Regions = region_lines s.bus.system.mpu MAX_REGIONS
part_text s (part.Explain a privileged kind) =
    decision_text (decision_of s.bus.system.mpu a kind privileged (is_below_zero s.bus.system.nvic))
part_text s part.State = state_text s
part_text s part.Next = next_text s
part_text s part.Help = help_text

-- ---- place, signal, save and back

-- the state with a value in its place, or the refusal. A register that no machine has is no place
abbrev pub placed : State → Option Place → Result State PlaceError
placed s None = Err NoSuchPlace
placed s (Some value) = altered s value

-- what an event of a script does on an interrupt
abbrev pub edge_signal : Edge → ℕ → Signal
edge_signal edge.Pulse k = signal.Pulse k
edge_signal edge.Rise k = signal.Rise k
edge_signal edge.Fall k = signal.Fall k

-- the state after it, or the refusal. No board has an interrupt from 240 on
abbrev pub after_edge : State → Edge → ℕ → Result State PlaceError
after_edge s how k = if nat_lt k MAX_INTERRUPTS then signalled s (edge_signal how k) else Err NoSuchPlace

-- the number of a refusal, and its name
abbrev pub refusal_text : PlaceError → List ℕ
refusal_text NotAligned = codes "refused 1 NotAligned" ++ line_feed
refusal_text NoSuchPlace = codes "refused 2 NoSuchPlace" ++ line_feed
refusal_text Stopped = codes "refused 3 Stopped" ++ line_feed
refusal_text (Refused why) = codes "refused 4 Refused " ++ (stop_text why ++ line_feed)

-- whether a change was made
abbrev pub change_text : {A : Type 0} → Result A PlaceError → List ℕ
change_text (Ok done) = ok_text
change_text (Err why) = refusal_text why

-- the machine's state after a change that is made, or with the refusal
abbrev pub changed_piece : State → Result State PlaceError → Piece
changed_piece s (Ok after) = record { state = after; text = ok_text }
changed_piece s (Err why) = record { state = s; text = refusal_text why }

-- back to a saved state, where one was saved
abbrev pub back_piece : State → Option State → Piece
back_piece s None = record { state = s; text = codes "error 3" ++ line_feed }
back_piece s (Some saved) = record { state = saved; text = ok_text }

-- a change of a machine with these saved states
abbrev pub change_piece : State → List (Option State) → Change → Piece
change_piece s saved (change.Place value) = changed_piece s (placed s value)
change_piece s saved (change.Signal how k) = changed_piece s (after_edge s how k)
change_piece s saved change.Nmi = changed_piece s (signalled s signal.Nmi)
change_piece s saved (change.Save slot) = record { state = s; text = ok_text }
change_piece s saved (change.Back slot) = back_piece s (slice_index_or saved slot None)

-- the saved states after a change
abbrev pub saved_by : State → List (Option State) → Change → List (Option State)
saved_by s saved (change.Place value) = saved
saved_by s saved (change.Signal how k) = saved
saved_by s saved change.Nmi = saved
saved_by s saved (change.Save slot) = slice_set saved slot (Some s)
saved_by s saved (change.Back slot) = saved

abbrev pub saved_after : State → List (Option State) → Option Change → List (Option State)
saved_after s saved None = saved
saved_after s saved (Some what) = saved_by s saved what

-- ---- all commands

-- the text of a command that shows a part of the machine, else that of one that changes settings
abbrev pub text_for : State → Option Part → List ℕ → List ℕ
text_for s (Some what) text = part_text s what
text_for s None text = text

-- the text of an answer that neither makes a step nor changes the machine; `quit` has none
abbrev pub reply_text : State → Settings → Result Command LineError → List ℕ
reply_text s k asked = text_for s (part_of asked) (settings_text k asked)

abbrev pub reply : State → Settings → Result Command LineError → List Piece
reply s k asked = record { state = s; text = reply_text s k asked } ∷ []

-- the pieces of a change, else the reply
abbrev pub replies : State → Settings → List (Option State) → Result Command LineError → Option Change → List Piece
replies s k saved asked (Some what) = change_piece s saved what ∷ []
replies s k saved asked None = reply s k asked

abbrev pub answer_by
    : State → Settings → List (Option State) → Result Command LineError → Option ℕ → Option ℕ → List Piece
answer_by s k saved asked (Some n) task = run_pieces k n s
answer_by s k saved asked None (Some n) = task_pieces k n s
answer_by s k saved asked None None = replies s k saved asked (change_of asked)

-- ---- the line after an answer, in a session with scripts

-- the clock, PC and the kind of the next step
abbrev pub closing_text : State → List ℕ
closing_text s =
    ((codes "= " ++ decimal s.bus.system.time.ticks) ++ (codes " " ++ hex_word s.registers.pc))
    ++ (codes " " ++ next_text s)

abbrev pub closing_piece : State → Piece
closing_piece s = record { state = s; text = closing_text s }

abbrev pub closed : Bool → State → List Piece → List Piece
closed false s pieces = pieces
closed true s pieces = pieces ++ closing_piece (last_state s pieces) ∷ []

-- from `script 1` on each answer has that line, its own too; `quit` has no answer
abbrev pub is_closed : Settings → Result Command LineError → Bool
is_closed k asked = (settings_after k asked).is_script && not (quits asked)

-- the answer to a line, with these saved states
abbrev pub answer : State → Settings → List (Option State) → Result Command LineError → List Piece
answer s k saved asked =
    closed (is_closed k asked) s (answer_by s k saved asked (steps_of asked) (task_steps_of asked))
