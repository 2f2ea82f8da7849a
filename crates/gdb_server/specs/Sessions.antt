-- What a session keeps between two packets, and the replies that it writes.
use Rattle.std.specs.Prelude.{ℕ, Bool, true, false, List, [], codes, Option, Some, None, Result, Ok, Err}
use Rattle.devices.specs.declared.device.Device.{Device}
use Rattle.gdb.specs.declared.slices.Points.{Points}
use Rattle.gdb_past.specs.Copies.{room_of}
use Rattle.gdb_past.specs.Places.{Past, past_from}
use Rattle.gdb_packets.specs.Replies.{packet_of}
use Rattle.gdb_server.specs.Replies.{server_features}
use Rattle.gdb_server.specs.declared.purposes.SessionChange.{SessionChange}
use Rattle.gdb_server.specs.declared.waiting.Waiting.{Waiting}
use Rattle.gdb_server.specs.declared.purposes.SessionChange.TheVariants as change
use Rattle.gdb_texts.specs.Features.{features_of}
use Rattle.gdb_texts.specs.Points.{insertion, with_breakpoint, without_breakpoint}
use Rattle.gdb_texts.specs.Replies.{error_text, refusal}
use Rattle.gdb_texts.specs.Settings.{first_settings}
use Rattle.gdb_texts.specs.Watchpoints as watch
use Rattle.gdb_texts.specs.Watchpoints.{with_watchpoint, without_watchpoint}
use Rattle.gdb_texts.specs.declared.features.Features.{Features}
use Rattle.gdb_texts.specs.declared.replies.ErrorCode.{ErrorCode}
use Rattle.gdb_texts.specs.declared.replies.Reply.{Reply}
use Rattle.gdb_texts.specs.declared.replies.Reply.TheVariants as reply
use Rattle.gdb_texts.specs.declared.settings.Settings.{Settings}
use Rattle.gdb_texts.specs.declared.stops.Signal.{Signal}
use Rattle.gdb_texts.specs.declared.stops.Signal.TheVariants.{Trap}
use Rattle.platform.specs.Boards.{Numbers}
use Rattle.platform.specs.declared.error.PlaceError.{PlaceError}
use Rattle.reference.specs.State.{State}

pub record Session : Type 0 where
  pub points : Points
  pub settings : Settings
  -- the signal of the last run's end
  pub signal : Signal
  -- what the client takes
  pub features : Features
  -- whether packets are acknowledged
  pub acknowledges : Bool
  -- the last packet that was sent
  pub sent : List ℕ
  -- what GDB has been asked about, if something waits for the reply
  pub running : Option Waiting
  -- why the last packet was refused that was
  pub refused : Option ErrorCode
  pub is_open : Bool
  -- whether it goes on after the program was killed, or the client left
  pub is_extended : Bool
  -- the tick to which runs go at most
  pub limit : ℕ
  pub board : Numbers
  -- the devices of the board
  pub devices : List Device
  -- the states to which it can go back
  pub past : Past

-- a client that has said nothing
abbrev pub no_features : Features
no_features = record { is_gdb = false; takes_swbreak = false; takes_hwbreak = false }

abbrev pub no_points : Points
no_points = record { breakpoints = []; watchpoints = [] }

-- before the first packet, with the machine in its first state
abbrev pub opened : ℕ → Numbers → List Device → State → Session
opened limit board devices s = record {
  points = no_points;
  settings = first_settings;
  signal = Trap;
  features = no_features;
  acknowledges = true;
  sent = [];
  running = None;
  refused = None;
  is_open = true;
  is_extended = false;
  limit = limit;
  board = board;
  devices = devices;
  past = past_from (room_of board) s;
}

-- ---- replies: their data, or why the packet is refused

abbrev pub reply_data : Result (List ℕ) ErrorCode → List ℕ
reply_data (Ok text) = text
reply_data (Err error) = error_text error

-- the packet of a reply
abbrev pub reply_packet : Result (List ℕ) ErrorCode → List ℕ
reply_packet answer = packet_of (reply_data answer)

abbrev pub refused_after : Option ErrorCode → Result (List ℕ) ErrorCode → Option ErrorCode
refused_after last (Ok text) = last
refused_after last (Err error) = Some error

-- after a reply: it can be sent again, and `monitor why` tells a refusal
abbrev pub with_reply : Session → Result (List ℕ) ErrorCode → Session
with_reply k answer = record k { sent = reply_packet answer; refused = refused_after k.refused answer }

-- the reply `OK`
abbrev pub ok : Result (List ℕ) ErrorCode
ok = Ok (codes "OK")

abbrev pub data_of_reply : Reply → Result (List ℕ) ErrorCode
data_of_reply reply.Empty = Ok []
data_of_reply reply.Done = ok
data_of_reply (reply.Error error) = Err error

-- the reply to a write
abbrev pub data_of_write : Option PlaceError → Result (List ℕ) ErrorCode
data_of_write None = ok
data_of_write (Some error) = Err (refusal error)

-- the session after its client has left, or has killed the program
abbrev pub left : Session → Session
left k = record k { is_open = k.is_extended }

-- ---- packets that change the session

-- the reply
abbrev pub set_data : Session → SessionChange → Result (List ℕ) ErrorCode
set_data k change.Features = Ok server_features
set_data k change.NoAcknowledgement = ok
set_data k (change.Insert b) = data_of_reply (insertion k.points.breakpoints b)
set_data k (change.Remove b) = ok
set_data k (change.Watch w) = data_of_reply (watch.insertion k.points.watchpoints w)
set_data k (change.Unwatch w) = ok
set_data k change.Extended = ok
set_data k change.End = ok

-- the session after it, with what follows the name of the packet
abbrev pub session_after : Session → SessionChange → List ℕ → Session
session_after k change.Features tail = record k { features = features_of tail }
session_after k change.NoAcknowledgement tail = record k { acknowledges = false }
session_after k (change.Insert b) tail = record k {
  points = record k.points { breakpoints = with_breakpoint k.points.breakpoints b };
}
session_after k (change.Remove b) tail = record k {
  points = record k.points { breakpoints = without_breakpoint k.points.breakpoints b };
}
session_after k (change.Watch w) tail = record k {
  points = record k.points { watchpoints = with_watchpoint k.points.watchpoints w };
}
session_after k (change.Unwatch w) tail = record k {
  points = record k.points { watchpoints = without_watchpoint k.points.watchpoints w };
}
session_after k change.Extended tail = record k { is_extended = true }
session_after k change.End tail = left k
