-- The steps of a run, up to a reason to stop (profile).
use Rattle.std.specs.Prelude.{◌≡◌, ℕ, zero, suc, ◌+◌, Bool, not, ◌&&◌, List, [], ◌∷◌, ◌++◌}
use Rattle.std.specs.Prelude.{Option, Some, None, is_some}
use Rattle.gdb.specs.declared.over.ReturnPoint.{ReturnPoint}
use Rattle.gdb.specs.declared.slices.Plan.{Plan}
use Rattle.gdb.specs.declared.slices.Points.{Points}
use Rattle.gdb.specs.Consoles.{Console, console_after, sent_by}
use Rattle.gdb.specs.Over.{remembered_after}
use Rattle.gdb.specs.Reasons.{first_hit, is_continue, reason_after, reason_before, selection_of, watch_reason}
use Rattle.gdb_texts.specs.declared.actions.Resume.{Resume}
use Rattle.gdb_texts.specs.declared.stops.StopReason.{StopReason}
use Rattle.machine.specs.NextStep.{is_instruction_next}
use Rattle.platform.specs.declared.event.Event.{Event}
use Rattle.reference.specs.State.{State}
use Rattle.reference.specs.Step.{step}
use Rattle.serving.specs.Pieces.{Piece}
use Rattle.trace.specs.Selection.{selected_text}

-- what a run has made, beside the machine: steps, and text; the code that its unit returns to, if it is over a handler;
-- and the events of its last step
pub record Progress : Type 0 where
  pub made : ℕ
  pub console : Console
  pub returns_to : Option ReturnPoint
  pub events : List Event

-- a run between two steps
pub record Flow : Type 0 where
  pub made : ℕ
  pub console : Console
  pub returns_to : Option ReturnPoint
  pub state : State

abbrev pub flow : Progress → State → Flow
flow progress s = record {
  made = progress.made;
  console = progress.console;
  returns_to = progress.returns_to;
  state = s;
}

-- ---- one step

-- the text that the settings have of a step
abbrev pub step_text : Plan → State → List ℕ
step_text p s = selected_text (selection_of p.settings.selection) (step s).events

-- the code that the unit returns to after the step; a run that goes on until something stops it has no units
abbrev pub returns_then : Plan → Flow → Option ReturnPoint
returns_then p f = remembered_after (p.settings.steps_over && not (is_continue p.how)) f.returns_to f.state

abbrev pub after_step : Plan → Flow → Flow
after_step p f = record {
  made = f.made + 1;
  console = console_after f.console (step_text p f.state);
  returns_to = returns_then p f;
  state = (step f.state).state;
}

-- the packets that its text fills
abbrev pub step_piece : Plan → Flow → Piece
step_piece p f = record { state = (step f.state).state; text = sent_by f.console (step_text p f.state) }

-- whether an Instruction step of a unit comes next
abbrev pub counts : Resume → State → Bool
counts how s = not (is_continue how) && is_instruction_next s

abbrev pub before_step : Plan → Points → Flow → Option StopReason
before_step p points f = reason_before points.breakpoints p.limit p.how f.made f.returns_to f.state

-- the watchpoint that the next step would hit
abbrev pub hit_next : Points → State → Option StopReason
hit_next points s = watch_reason (first_hit points.watchpoints (step s).events)

abbrev pub reason_then : Plan → Flow → Option StopReason
reason_then p f =
    reason_after p.settings p.how (is_some (returns_then p f)) (counts p.how f.state) (step f.state).events
    (step f.state).state.stop (step f.state).state.registers.pc

-- ---- at most n steps

pub record Sliced : Type 0 where
  pub pieces : List Piece
  -- why the run ended, if it did
  pub reason : Option StopReason
  -- the events of its last step, where it ended after that, and of the step that would hit a watchpoint
  pub events : List Event
  pub flow : Flow

abbrev pub at_rest : Option StopReason → List Event → Flow → Sliced
at_rest r events f = record { pieces = []; reason = r; events = events; flow = f }

abbrev pub after_pieces : List Piece → Sliced → Sliced
after_pieces ps later = record later { pieces = ps ++ later.pieces }

-- a run ends for a reason, or goes on
abbrev pub unless_ended : Option StopReason → List Event → Flow → Sliced → Sliced
unless_ended (Some r) events f later = at_rest (Some r) events f
unless_ended None events f later = later

-- one step: it isn't made where it would hit a watchpoint
abbrev pub one_step : Plan → Points → Flow → Sliced
one_step p points f =
    unless_ended (hit_next points f.state) (step f.state).events f
    (after_pieces (step_piece p f ∷ []) (at_rest (reason_then p f) (step f.state).events (after_step p f)))

-- what comes later, unless the run ended in a part of it
abbrev pub going_on : Sliced → Sliced → Sliced
going_on part later = after_pieces part.pieces (unless_ended part.reason part.events part.flow later)

unfoldable pub slice : Plan → Points → ℕ → Flow → Sliced
slice p points zero f = at_rest None [] f
slice p points (suc n) f =
    unless_ended (before_step p points f) [] f
    (going_on (one_step p points f) (slice p points n (one_step p points f).flow))

-- what a call that made such steps leaves
abbrev pub Slices : Sliced → Progress → Option StopReason → Type 0
Slices sliced now reason =
    (reason ≡ sliced.reason) × (now ≡ record {
      made = sliced.flow.made;
      console = sliced.flow.console;
      returns_to = sliced.flow.returns_to;
      events = sliced.events;
    })
