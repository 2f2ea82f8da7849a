-- What a byte of the input makes: the pieces of text that are written, and what is kept (GDB manual, "Overview" of the
-- Remote Serial Protocol).
use Rattle.std.specs.Prelude.{ℕ, ◌-◌, Bool, true, false, ◌||◌, if◌then◌else◌, List, [], ◌∷◌, ◌++◌, length, drop, codes}
use Rattle.std.specs.Prelude.{bytes_eq, nat_le, ◌&&◌, Option, Some, None, option_map, Result, Ok, Err}
use Rattle.devices.specs.declared.device.Device.{Device}
use Rattle.gdb.specs.declared.returns.Return.{Return}
use Rattle.gdb.specs.declared.returns.Return.TheVariants.{Asks, Ends}
use Rattle.gdb.specs.declared.returns.Search.{Search}
use Rattle.gdb.specs.declared.turns.Run.{Run}
use Rattle.gdb.specs.declared.turns.Turn.{Turn}
use Rattle.gdb.specs.declared.turns.Turn.TheVariants as turning
use Rattle.gdb.specs.Returns.{Returned, first_search, return}
use Rattle.gdb.specs.Turns.{Turned, turn}
use Rattle.gdb_past.specs.Places.{Past, marked, past_anew, tick_of}
use Rattle.gdb_packets.specs.declared.framer.Event.{Event}
use Rattle.gdb_packets.specs.declared.framer.Event.TheVariants as event
use Rattle.gdb_packets.specs.Framing.{Framing, after, at_start, event_of, minus, plus}
use Rattle.gdb_packets.specs.Packets.{Packet, packet_of}
use Rattle.gdb_server.specs.Commands.{command_of, command_text, console_text, placed_by, settings_with}
use Rattle.gdb_server.specs.declared.purposes.Purpose.{Purpose}
use Rattle.gdb_server.specs.declared.purposes.Purpose.TheVariants as purpose
use Rattle.gdb_server.specs.declared.purposes.Reading.TheVariants as reading
use Rattle.gdb_server.specs.declared.waiting.Waiting.{Waiting}
use Rattle.gdb_server.specs.declared.waiting.Waiting.TheVariants as waiting
use Rattle.gdb_server.specs.Purposes.{is_file_reply, purpose_of}
use Rattle.gdb_server.specs.Replies.{constant_text, data_read}
use Rattle.gdb_server.specs.Sessions.{Session, data_of_write, left, ok, opened, reply_packet, session_after, set_data}
use Rattle.gdb_server.specs.Sessions.{with_reply}
use Rattle.gdb_server.specs.Writes.{Written, writes, written}
use Rattle.debugger_commands.specs.declared.commands.LineError.{LineError}
use Rattle.gdb_texts.specs.declared.actions.Resume.{Resume}
use Rattle.gdb_texts.specs.declared.monitor.Monitor.{Monitor}
use Rattle.gdb_texts.specs.declared.monitor.Monitor.TheVariants as monitor
use Rattle.gdb_texts.specs.declared.replies.ErrorCode.{ErrorCode}
use Rattle.gdb_texts.specs.declared.replies.ErrorCode.TheVariants.{TooLong}
use Rattle.platform.specs.Boards.{Numbers}
use Rattle.platform.specs.declared.error.PlaceError.{PlaceError}
use Rattle.reference.specs.State.{State}
use Rattle.serving.specs.Conduct.{Conduct}
use Rattle.serving.specs.Pieces.{Piece}

-- the pieces that are written, and the session after them
pub record Answered : Type 0 where
  pub pieces : List Piece
  pub session : Session

-- nothing is written
abbrev pub silent : Session → Answered
silent k = record { pieces = []; session = k }

abbrev pub piece : State → List ℕ → Piece
piece s text = record { state = s; text = text }

-- one reply, in this state of the machine
abbrev pub replied : Session → State → Result (List ℕ) ErrorCode → Answered
replied k s answer = record { pieces = piece s (reply_packet answer) ∷ []; session = with_reply k answer }

-- ---- writes, and commands of `monitor`

-- a write leaves a mark, unless it was refused or wrote nothing
abbrev pub past_after : Past → Bool → State → Option PlaceError → Past
past_after past something s None = if something then marked past s else past
past_after past something s (Some error) = past

abbrev pub wrote : Session → Bool → Written → Answered
wrote k something w =
    replied (record k { past = past_after k.past something w.state w.refused }) w.state (data_of_write w.refused)

-- the text of a command for GDB's console, after its value was refused or not, and then `OK`
abbrev pub reported : Session → State → Option PlaceError → Result Monitor LineError → Answered
reported k s refused asked = record {
  pieces = piece s (console_text (command_text k.past s k.refused refused asked)) ∷ piece s (reply_packet ok) ∷ [];
  session = with_reply k ok;
}

-- the past after a command
abbrev pub past_by : Past → Written → Result Monitor LineError → Past
past_by past w (Ok monitor.Help) = past
past_by past w (Ok (monitor.Explain a privileged kind)) = past
past_by past w (Ok monitor.Regions) = past
past_by past w (Ok monitor.State) = past
past_by past w (Ok monitor.Next) = past
past_by past w (Ok monitor.History) = past
past_by past w (Ok (monitor.Trace selection)) = past
past_by past w (Ok (monitor.Lines on)) = past
past_by past w (Ok (monitor.Stop what on)) = past
past_by past w (Ok (monitor.Step over)) = past
past_by past w (Ok (monitor.Budget steps)) = past
past_by past w (Ok (monitor.Place place)) = past_after past true w.state w.refused
past_by past w (Ok monitor.Restart) = past_anew past
past_by past w (Ok monitor.Why) = past
past_by past w (Err why) = past

abbrev pub commanded_by : Session → Written → Result Monitor LineError → Answered
commanded_by k w asked =
    reported (record k { settings = settings_with k.settings asked; past = past_by k.past w asked }) w.state w.refused
    asked

-- a command
abbrev pub commanded : Session → State → Result Monitor LineError → Answered
commanded k s asked = commanded_by k (placed_by k.past.start s asked) asked

-- ---- runs

-- a run that asks waits for the reply; one that ended leaves its signal
abbrev pub with_turn : Session → Turn → Session
with_turn k (turning.Asks run) = record k { running = Some (waiting.Running run) }
with_turn k (turning.Ends signal) = record k { running = None; signal = signal }

abbrev pub turned : Session → Turned → Answered
turned k t = record { pieces = t.pieces; session = with_turn (record k { sent = t.sent }) t.outcome }

-- the next turn of a run
abbrev pub resumed : Session → State → Run → Answered
resumed k s run = turned k (turn k.points k.settings k.features k.limit run s)

-- a run before its first step
abbrev pub first_turn : Resume → Run
first_turn how = record { how = how; made = 0; last = None; returns_to = None; is_interrupted = false }

-- ---- going back

-- a search that asks waits for the reply; one that ended leaves its signal
abbrev pub with_return : Session → Return → Session
with_return k (Asks search) = record k { running = Some (waiting.Searching search) }
with_return k (Ends signal) = record k { running = None; signal = signal }

abbrev pub returned : Session → Returned → Answered
returned k r = record {
  pieces = r.pieces;
  session = with_return (record k { sent = r.sent; past = r.past }) r.outcome;
}

-- the next turn of a search
abbrev pub searched : Session → State → Search → Answered
searched k s search = returned k (return k.settings k.points k.features k.past search s)

-- the machine is in its first state, which is the only mark
abbrev pub restarted : Session → Session
restarted k = record k { past = past_anew k.past }

-- and the reply is that to `?`
abbrev pub begun : Session → Answered
begun k = replied (restarted k) k.past.start (data_read k.signal k.board k.devices k.past.start reading.StopReason)

-- ---- a packet at rest

-- by what it asks for, with what follows its fields
abbrev pub answered : Session → State → Purpose → List ℕ → Answered
answered k s purpose.Nothing tail = silent k
answered k s (purpose.Say what) tail = replied k s (Ok (constant_text what))
answered k s (purpose.Refuse error) tail = replied k s (Err error)
answered k s (purpose.Read what) tail = replied k s (data_read k.signal k.board k.devices s what)
answered k s (purpose.Write change) tail = wrote k (writes change tail) (written s change tail)
answered k s (purpose.Set change) tail = replied (session_after k change tail) s (set_data k change)
answered k s purpose.Kill tail = silent (left k)
answered k s purpose.Run tail = begun k
answered k s purpose.Restart tail = record { pieces = piece k.past.start [] ∷ []; session = restarted k }
answered k s (purpose.Resume how) tail = resumed k s (first_turn how)
answered k s (purpose.Back w) tail = searched k s (first_search w (tick_of s))
answered k s purpose.Command tail = commanded k s (command_of tail)

-- ---- a packet while a run, or a search, waits for the reply to its question

-- whether a reply ends with `,C`: the user has interrupted
abbrev pub is_interrupt : List ℕ → Bool
is_interrupt tail = nat_le 2 (length tail) && bytes_eq (drop (length tail - 2) tail) (codes ",C")

-- what waits, where it was interrupted or not
abbrev pub interrupted_if : Bool → Waiting → Waiting
interrupted_if now (waiting.Running run) =
    waiting.Running (record run { is_interrupted = run.is_interrupted || now })
interrupted_if now (waiting.Searching search) =
    waiting.Searching (record search { is_interrupted = search.is_interrupted || now })

-- it goes on
abbrev pub gone_on : Session → State → Waiting → Answered
gone_on k s (waiting.Running run) = resumed k s run
gone_on k s (waiting.Searching search) = searched k s search

-- by the reply; other packets are skipped (profile)
abbrev pub reply_answered : Session → State → Waiting → Packet → Answered
reply_answered k s w p =
    if is_file_reply p.request then gone_on k s (interrupted_if (is_interrupt p.tail) w) else silent k

abbrev pub packet_by : Session → State → Option Waiting → Packet → Answered
packet_by k s None p = answered k s (purpose_of p.request p.tail) p.tail
packet_by k s (Some w) p = reply_answered k s w p

-- a packet
abbrev pub packet_answered : Session → State → Packet → Answered
packet_answered k s p = packet_by k s k.running p

-- ---- a byte

-- a byte of acknowledgement, until there is none any more
abbrev pub acknowledgement : Session → State → ℕ → List Piece
acknowledgement k s byte = if k.acknowledges then piece s (byte ∷ []) ∷ [] else []

-- what comes after an acknowledgement
abbrev pub acknowledged : Session → State → ℕ → Answered → Answered
acknowledged k s byte later = record later { pieces = acknowledgement k s byte ++ later.pieces }

-- the last packet once more
abbrev pub sent_again : Session → State → List Piece
sent_again k s = if k.acknowledges then piece s k.sent ∷ [] else []

-- what waits ends by its next turn. At rest an interrupt has crossed the end of a run, and counts for nothing
abbrev pub interrupted : Session → Session
interrupted k = record k { running = option_map (interrupted_if true) k.running }

abbrev pub too_long_by : Session → State → Option Waiting → Answered
too_long_by k s None = replied k s (Err TooLong)
too_long_by k s (Some w) = silent k

-- a packet of too many bytes is refused, and skipped while something waits (profile)
abbrev pub too_long : Session → State → Answered
too_long k s = too_long_by k s k.running

abbrev pub long_answered : Session → State → Answered
long_answered k s = acknowledged k s plus (too_long k s)

abbrev pub whole_answered : Session → State → List ℕ → Answered
whole_answered k s content = acknowledged k s plus (packet_answered k s (packet_of content))

-- what a byte makes, by its event; `content` is the data of the last packet
abbrev pub event_answered : Session → State → Event → List ℕ → Answered
event_answered k s event.Nothing content = silent k
event_answered k s event.Acknowledgement content = silent k
event_answered k s event.Rejection content = record { pieces = sent_again k s; session = k }
event_answered k s event.Interrupt content = silent (interrupted k)
event_answered k s event.WrongChecksum content = record { pieces = acknowledgement k s minus; session = k }
event_answered k s event.TooLong content = long_answered k s
event_answered k s event.Packet content = whole_answered k s content

-- ---- the server

pub record Server : Type 0 where
  pub framing : Framing
  pub session : Session

-- before the first byte, with the machine in its first state
abbrev pub first : ℕ → Numbers → List Device → State → Server
first limit board devices s = record { framing = at_start; session = opened limit board devices s }

abbrev pub byte_answered : Server → State → ℕ → Answered
byte_answered server s byte = event_answered server.session s (event_of server.framing byte)
    (after server.framing byte).content

-- the protocol. Nothing is written at the end of the input
abbrev pub conduct : Conduct Server
conduct = record {
  is_open = λ server. server.session.is_open;
  answered = λ server s byte. (byte_answered server s byte).pieces;
  kept = λ server s byte. record {
    framing = after server.framing byte;
    session = (byte_answered server s byte).session;
  };
  at_end = λ server s. [];
}
