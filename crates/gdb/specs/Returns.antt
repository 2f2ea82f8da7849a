-- A turn of going back: up to a question to GDB, or to a place in the past.
use Rattle.std.specs.Prelude.{◌≡◌, ℕ, ◌-◌, true, false, if◌then◌else◌, List, [], ◌∷◌, Option, Some, None}
use Rattle.std.specs.Prelude.{Result, Ok, Err}
use Rattle.gdb.specs.declared.returns.Return.{Return}
use Rattle.gdb.specs.declared.returns.Return.TheVariants.{Asks, Ends}
use Rattle.gdb.specs.declared.returns.Search.{Search}
use Rattle.gdb.specs.declared.searches.SearchScope.{SearchScope}
use Rattle.gdb.specs.declared.searches.Way.{Way}
use Rattle.gdb.specs.declared.slices.Points.{Points}
use Rattle.gdb.specs.Consoles.{console_from}
use Rattle.gdb.specs.Searches.{Place, place_back}
use Rattle.gdb.specs.Slices.{Flow}
use Rattle.gdb.specs.Turns.{ended, poll_packet, said, max_slice_steps, stop_packet}
use Rattle.gdb_past.specs.Places.{Past}
use Rattle.gdb_texts.specs.declared.features.Features.{Features}
use Rattle.gdb_texts.specs.declared.settings.Settings.{Settings}
use Rattle.gdb_texts.specs.declared.stops.StopReason.{StopReason}
use Rattle.gdb_texts.specs.declared.stops.StopReason.TheVariants.{Interrupted}
use Rattle.gdb_texts.specs.Stops.{signal_of}
use Rattle.machine.specs.MachineModel.{MachineModel}
use Rattle.output.specs.Output.{Writing}
use Rattle.platform.specs.declared.event.Event.{Event}
use Rattle.reference.specs.State.{State}
use Rattle.serving.specs.Pieces.{Piece, DeliversAll, DeliversPart}

pub record Returned : Type 0 where
  -- the pieces that go out
  pub pieces : List Piece
  -- how the turn ends
  pub outcome : Return
  -- the last packet, which `-` asks for again
  pub sent : List ℕ
  -- what is kept of the past
  pub past : Past

-- before the first turn, where the machine is at a tick
abbrev pub first_search : Way → ℕ → Search
first_search w now =
    record { scope = record { way = w; now = now; end = now; continues = false }; is_interrupted = false }

-- no text has gone out
abbrev pub flow_at : State → Flow
flow_at s = record { made = 0; console = console_from None; returns_to = None; state = s }

-- the lines that say why it ends there, and the stop reply
abbrev pub returned_at : Settings → Points → Features → Past → StopReason → List Event → State → Returned
returned_at k points features past r events s = record {
  pieces = (ended k points.watchpoints features r events (flow_at s)).pieces;
  outcome = Ends (signal_of r);
  sent = stop_packet features r s;
  past = past;
}

-- the tick down to which GDB's search goes before GDB is asked; another client isn't asked
abbrev pub low_of : Features → ℕ → ℕ
low_of features end = if features.is_gdb then end - max_slice_steps else 0

-- GDB is asked, with the machine where it was
abbrev pub asked_at : Past → SearchScope → ℕ → State → Returned
asked_at past q low s = record {
  pieces = said (flow_at s) poll_packet ∷ [];
  outcome = Asks (record { scope = record q { end = low; continues = true }; is_interrupted = false });
  sent = poll_packet;
  past = past;
}

-- the machine is at a place of its past, and what was kept from later ones is gone; or GDB is asked
abbrev pub returned_to : Settings → Points → Features → Past → SearchScope → ℕ → State → Option Place → Returned
returned_to k points features past q low s None = asked_at past q low s
returned_to k points features past q low s (Some place) =
    returned_at k points features (record past { marks = place.marks }) place.reason place.events place.state

-- a turn of a search, which an interrupt ends where the machine is
abbrev pub return : Settings → Points → Features → Past → Search → State → Returned
return k points features past search s =
    if search.is_interrupted then returned_at k points features past Interrupted [] s
    else returned_to k points features past search.scope (low_of features search.scope.end) s
    (place_back search.scope points k (low_of features search.scope.end) s past.marks)

-- ---- what a call that took such a turn leaves

pub record TakesReturn (returned : Returned) (old new : MachineModel) (before after : Writing) (sent : List ℕ)
    (past : Past)
    (ends : Return) : Type 0 where
  pub delivers : DeliversAll returned.pieces old new before after
  pub outcome : ends ≡ returned.outcome
  pub remembered : sent ≡ returned.sent
  pub kept : past ≡ returned.past

abbrev pub Returns
    : {E : Type 0} → Returned → MachineModel → MachineModel → Writing → Writing → List ℕ → Past → Result Return E
    → Type 0
Returns returned old new before after sent past (Ok ends) =
    TakesReturn returned old new before after sent past ends
Returns returned old new before after sent past (Err error) = DeliversPart returned.pieces old new before after
