-- A turn of a run: its steps up to a question to GDB, or up to its end (GDB manual, "Stop Reply Packets" and "File-I/O
-- Remote Protocol Extension", isatty).
use Rattle.std.specs.Prelude.{ℕ, zero, suc, ◌-◌, ◌/◌, ◌%◌, ◌^◌, false, if◌then◌else◌, List, [], ◌∷◌, ◌++◌, codes}
use Rattle.std.specs.Prelude.{◌≡◌, Option, Some, None, Result, Ok, Err, unwrap_or}
use Rattle.gdb.specs.declared.slices.Plan.{Plan}
use Rattle.gdb.specs.declared.slices.Points.{Points}
use Rattle.gdb.specs.declared.turns.Run.{Run}
use Rattle.gdb.specs.declared.turns.Turn.{Turn}
use Rattle.gdb.specs.declared.turns.Turn.TheVariants.{Asks, Ends}
use Rattle.gdb.specs.Consoles.{console_after, console_from, emptied, flush_text, sent_by}
use Rattle.gdb.specs.Slices.{Flow, Sliced, slice}
use Rattle.gdb.specs.Targets.{target_values}
use Rattle.gdb.specs.Whys.{stop_with_line, why_text}
use Rattle.gdb_packets.specs.Replies.{packet_of}
use Rattle.gdb_texts.specs.declared.actions.Resume.{Resume}
use Rattle.gdb_texts.specs.declared.features.Features.{Features}
use Rattle.gdb_texts.specs.declared.watchpoints.Watchpoint.{Watchpoint}
use Rattle.gdb_texts.specs.declared.settings.Settings.{Settings}
use Rattle.gdb_texts.specs.declared.stops.StopReason.{StopReason}
use Rattle.gdb_texts.specs.declared.stops.StopReason.TheVariants.{Interrupted}
use Rattle.gdb_texts.specs.Settings.{max_steps}
use Rattle.gdb_texts.specs.Stops.{signal_of, stop_reply}
use Rattle.platform.specs.declared.event.Event.{Event}
use Rattle.reference.specs.State.{State}
use Rattle.machine.specs.MachineModel.{MachineModel}
use Rattle.output.specs.Output.{Writing}
use Rattle.serving.specs.Pieces.{Piece, DeliversAll, DeliversPart}

pub record Turned : Type 0 where
  -- the pieces that go out
  pub pieces : List Piece
  -- how the turn ends
  pub outcome : Turn
  -- the last packet, which `-` asks for again
  pub sent : List ℕ

abbrev pub with_pieces : List Piece → Turned → Turned
with_pieces ps later = record later { pieces = ps ++ later.pieces }

-- text that goes out between two steps
abbrev pub said : Flow → List ℕ → Piece
said f text = record { state = f.state; text = text }

-- the text that waits goes out
abbrev pub flushed : Flow → Flow
flushed f = record f { console = emptied f.console }

abbrev pub flushing : Flow → Piece
flushing f = said f (flush_text f.console)

-- ---- the end of a run

-- the lines that say why it ended at a step with these events
abbrev pub whys : Settings → List Watchpoint → StopReason → List Event → Flow → List ℕ
whys k watchpoints r events f = why_text k watchpoints events (stop_with_line r f.state.stop) f.console.last

abbrev pub after_whys : Settings → List Watchpoint → StopReason → List Event → Flow → Flow
after_whys k watchpoints r events f = record f { console = console_after f.console (whys k watchpoints r events f) }

-- the stop reply, as a packet
abbrev pub stop_packet : Features → StopReason → State → List ℕ
stop_packet features r s = packet_of (stop_reply r features (target_values s))

-- these lines, all text, and then the stop reply
abbrev pub ended : Settings → List Watchpoint → Features → StopReason → List Event → Flow → Turned
ended k watchpoints features r events f = record {
  pieces = said f (sent_by f.console (whys k watchpoints r events f)) ∷ flushing (after_whys k watchpoints r events f)
      ∷ said f (stop_packet features r f.state) ∷ [];
  outcome = Ends (signal_of r);
  sent = stop_packet features r f.state;
}

-- ---- a question

-- whether GDB's console is a terminal: GDB answers at once, and says whether its user has interrupted
abbrev pub poll_packet : List ℕ
poll_packet = packet_of (codes "Fisatty,0")

abbrev pub asked : Resume → Flow → Turned
asked how f = record {
  pieces = said f poll_packet ∷ [];
  outcome = Asks (record {
    how = how;
    made = f.made;
    last = f.console.last;
    returns_to = f.returns_to;
    is_interrupted = false;
  });
  sent = poll_packet;
}

-- ---- slice after slice

-- the most steps before GDB is asked, and before the text of another client is sent (profile)
abbrev pub max_slice_steps : ℕ
max_slice_steps = 1000000

-- the steps that are left of a budget; without one a run has no end but that of the clock
abbrev pub steps_left : Option ℕ → ℕ → ℕ
steps_left None made = 2 ^ 64 - 1 - made
steps_left (Some most) made = most - made

-- the run ended in a slice, or goes on
abbrev pub ended_or : Settings → List Watchpoint → Features → Sliced → Option StopReason → Turned → Turned
ended_or k watchpoints features sliced (Some r) later = ended k watchpoints features r sliced.events sliced.flow
ended_or k watchpoints features sliced None later = later

-- after a whole slice GDB is asked, and another client isn't
abbrev pub asked_or : Features → Resume → Flow → Turned → Turned
asked_or features how f later = if features.is_gdb then asked how f else later

-- a whole slice, after which all text goes out; and what comes later, where the run goes on at once
abbrev pub after_slice : Plan → List Watchpoint → Features → Sliced → Turned → Turned
after_slice p watchpoints features sliced later =
    with_pieces sliced.pieces (ended_or p.settings watchpoints features sliced sliced.reason
    (with_pieces (flushing sliced.flow ∷ []) (asked_or features p.how (flushed sliced.flow) later)))

-- the last slice: where nothing else ends the run in it, its budget is made
abbrev pub last_slice : Plan → List Watchpoint → Features → Sliced → Turned
last_slice p watchpoints features sliced =
    with_pieces sliced.pieces
    (ended p.settings watchpoints features (unwrap_or sliced.reason Interrupted) sliced.events sliced.flow)

-- n whole slices, and one of the `rest` of the steps
unfoldable pub slices : Plan → Points → Features → ℕ → ℕ → Flow → Turned
slices p points features zero rest f = last_slice p points.watchpoints features (slice p points rest f)
slices p points features (suc n) rest f =
    after_slice p points.watchpoints features (slice p points max_slice_steps f)
    (slices p points features n rest (flushed (slice p points max_slice_steps f).flow))

-- the slices of `left` steps
abbrev pub all_slices : Plan → Points → Features → ℕ → Flow → Turned
all_slices p points features left f =
    slices p points features (left / max_slice_steps) (left % max_slice_steps) f

abbrev pub begun : Run → State → Flow
begun run s = record {
  made = run.made;
  console = console_from run.last;
  returns_to = run.returns_to;
  state = s;
}

abbrev pub plan_of : Settings → ℕ → Run → Plan
plan_of k limit run = record { how = run.how; limit = limit; settings = k }

-- a turn of a run, with these points and settings, for a client with these features, to the tick `limit`
abbrev pub turn : Points → Settings → Features → ℕ → Run → State → Turned
turn points k features limit run s =
    if run.is_interrupted then ended k points.watchpoints features Interrupted [] (begun run s)
    else all_slices (plan_of k limit run) points features (steps_left (max_steps k features.is_gdb) run.made)
    (begun run s)

-- ---- what a call that took a turn leaves

pub record TakesTurn (turned : Turned) (old new : MachineModel) (before after : Writing) (sent : List ℕ) (ends : Turn)
    : Type 0 where
  pub delivers : DeliversAll turned.pieces old new before after
  pub outcome : ends ≡ turned.outcome
  pub remembered : sent ≡ turned.sent

abbrev pub MakesTurn : {E : Type 0} → Turned → MachineModel → MachineModel → Writing → Writing → List ℕ → Result Turn E
    → Type 0
MakesTurn turned old new before after sent (Ok ends) = TakesTurn turned old new before after sent ends
MakesTurn turned old new before after sent (Err error) = DeliversPart turned.pieces old new before after
