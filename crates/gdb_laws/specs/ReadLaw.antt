-- A session that only reads leaves the machine as it is (profile).
use Rattle.std.specs.Prelude.{◌≡◌, ℕ, Bool, true, false, ◌&&◌, List, [], ◌∷◌, All, None, Result, Ok, Err}
use Rattle.debugger_commands.specs.declared.commands.LineError.{LineError}
use Rattle.devices.specs.declared.device.Device.{Device}
use Rattle.gdb_packets.specs.declared.framer.Event.{Event}
use Rattle.gdb_packets.specs.declared.framer.Event.TheVariants as event
use Rattle.gdb_packets.specs.Framing.{Framing, after, at_start, event_of}
use Rattle.gdb_packets.specs.Packets.{Packet, packet_of}
use Rattle.gdb_server.specs.Commands.{command_of}
use Rattle.gdb_server.specs.Conduct.{Answered, Server, byte_answered, conduct, first}
use Rattle.gdb_server.specs.declared.purposes.Purpose.{Purpose}
use Rattle.gdb_server.specs.declared.purposes.Purpose.TheVariants as purpose
use Rattle.gdb_server.specs.Purposes.{purpose_of}
use Rattle.gdb_server.specs.Sessions.{Session}
use Rattle.gdb_texts.specs.declared.monitor.Monitor.{Monitor}
use Rattle.gdb_texts.specs.declared.monitor.Monitor.TheVariants as monitor
use Rattle.machine.specs.MachineModel.{MachineModel}
use Rattle.output.specs.Input.{Reading}
use Rattle.output.specs.Output.{Writing}
use Rattle.platform.specs.Boards.{Numbers}
use Rattle.reference.specs.State.{State}
use Rattle.serving.specs.Conduct.{SessionState, after_bytes, answers, course_of}
use Rattle.serving.specs.Pieces.{Piece}
use Rattle.serving.specs.declared.sessions.SessionError.{SessionError}
use Rattle.serving.specs.declared.sessions.SessionError.TheVariants.{Read, Write}
use Rattle.serving.specs.Sessions.{Course, Sessions}

-- ---- bytes that only read

-- a command of `monitor` only reads, or changes a setting: all but `place` and `restart`
abbrev pub command_reads : Result Monitor LineError → Bool
command_reads (Ok monitor.Help) = true
command_reads (Ok (monitor.Explain a privileged kind)) = true
command_reads (Ok monitor.Regions) = true
command_reads (Ok monitor.State) = true
command_reads (Ok monitor.Next) = true
command_reads (Ok monitor.History) = true
command_reads (Ok (monitor.Trace selection)) = true
command_reads (Ok (monitor.Lines on)) = true
command_reads (Ok (monitor.Stop what on)) = true
command_reads (Ok (monitor.Step over)) = true
command_reads (Ok (monitor.Budget steps)) = true
command_reads (Ok (monitor.Place place)) = false
command_reads (Ok monitor.Restart) = false
command_reads (Ok monitor.Why) = true
command_reads (Err why) = true

-- a packet reads, or changes what the session keeps: all but writes, runs, runs backwards and a new start
abbrev pub purpose_reads : Purpose → List ℕ → Bool
purpose_reads purpose.Nothing tail = true
purpose_reads (purpose.Say what) tail = true
purpose_reads (purpose.Refuse error) tail = true
purpose_reads (purpose.Read what) tail = true
purpose_reads (purpose.Write change) tail = false
purpose_reads (purpose.Set change) tail = true
purpose_reads purpose.Kill tail = true
purpose_reads purpose.Run tail = false
purpose_reads purpose.Restart tail = false
purpose_reads (purpose.Resume how) tail = false
purpose_reads (purpose.Back way) tail = false
purpose_reads purpose.Command tail = command_reads (command_of tail)

abbrev pub packet_reads : Packet → Bool
packet_reads p = purpose_reads (purpose_of p.request p.tail) p.tail

-- a byte only reads, unless it ends a packet that does more
abbrev pub event_reads : Event → List ℕ → Bool
event_reads event.Nothing content = true
event_reads event.Acknowledgement content = true
event_reads event.Rejection content = true
event_reads event.Interrupt content = true
event_reads event.WrongChecksum content = true
event_reads event.TooLong content = true
event_reads event.Packet content = packet_reads (packet_of content)

abbrev pub byte_reads : Framing → ℕ → Bool
byte_reads f byte = event_reads (event_of f byte) (after f byte).content

-- each of some bytes does, from a place among the packets
unfoldable pub only_reads : Framing → List ℕ → Bool
only_reads f [] = true
only_reads f (byte ∷ bytes) = byte_reads f byte && only_reads (after f byte) bytes

-- ---- they leave the machine

-- all that is written is written in the state s of the machine
abbrev pub AreIn : State → List Piece → Type 0
AreIn s pieces = All (λ p. p.state ≡ s) pieces

-- the past stays, and nothing waits
pub record IsAtRest (before after : Session) : Type 0 where
  pub past : after.past ≡ before.past
  pub rest : after.running ≡ None

-- at rest a byte that only reads leaves the machine, and the session at rest
pub record LeavesMachine (k : Session) (s : State) (a : Answered) : Type 0 where
  pub pieces : AreIn s a.pieces
  pub session : IsAtRest k a.session

abbrev pub ByteLaw : Server → State → ℕ → Type 0
ByteLaw server s byte =
    server.session.running ≡ None → byte_reads server.framing byte ≡ true →
    LeavesMachine server.session s (byte_answered server s byte)

-- ---- many bytes

-- a session between two bytes, with the machine in the state s
abbrev pub session_at : Server → State → SessionState Server
session_at server s = record { kept = server; state = s }

-- bytes leave the machine in its state, and the session at rest
pub record LeaveMachine (server : Server) (s : State) (bytes : List ℕ) : Type 0 where
  pub pieces : AreIn s (answers conduct (session_at server s) bytes)
  pub state : (after_bytes conduct (session_at server s) bytes).state ≡ s
  pub session : IsAtRest server.session (after_bytes conduct (session_at server s) bytes).kept.session

abbrev pub BytesLaw : Server → State → List ℕ → Type 0
BytesLaw server s bytes =
    server.session.running ≡ None → only_reads server.framing bytes ≡ true → LeaveMachine server s bytes

-- ---- a whole session of `marm gdb`, from its first byte

abbrev pub session_of : ℕ → Numbers → List Device → State → Course
session_of limit board devices s = course_of conduct (first limit board devices s) s

-- the bytes that a session read, however it ended
abbrev pub bytes_read : (t : Course) (old new : MachineModel) (before after : Reading) (out out' : Writing)
    (result : Result (Unit {0}) SessionError) → Sessions t old new before after out out' result → List ℕ
bytes_read t old new before after out out' (Ok done) held = held.given
bytes_read t old new before after out out' (Err Read) failed = failed.given
bytes_read t old new before after out out' (Err Write) failed = failed.given

-- however it ended: where what it read only reads, the machine is as it was
abbrev pub SessionLaw : ℕ → Numbers → List Device → MachineModel → MachineModel → Reading → Reading → Writing → Writing
    → Result (Unit {0}) SessionError → Type 0
SessionLaw limit board devices old new before after out out' result =
    (ran : Sessions (session_of limit board devices old.state) old new before after out out' result) →
    only_reads at_start (bytes_read (session_of limit board devices old.state) old new before after out out' result ran)
    ≡ true → new ≡ old
