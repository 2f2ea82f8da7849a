-- Bytes that only read: one, by its event and its packet, and then many.
use Rattle.std.proofs.Common.{◌≡◌, ◌∙◌, ℕ, suc, Bool, true, false, ◌&&◌, if◌then◌else◌, List, [], ◌∷◌, ◌++◌, Option}
use Rattle.std.proofs.Common.{Some, None, Result, Ok, Err, ap, arith, inl, inr, option_map, refl, subst, sym}
use Rattle.std.proofs.lemmas.List.{append-nil}
use Rattle.std.proofs.lemmas.List.Elements.{All-append, All-cons, All-nil}
use Rattle.debugger_commands.specs.declared.commands.LineError.{LineError}
use Rattle.devices.specs.declared.device.Device.{Device}
use Rattle.gdb_laws.specs.ReadLaw.{AreIn, ByteLaw, BytesLaw, IsAtRest, LeaveMachine, LeavesMachine, SessionLaw}
use Rattle.gdb_laws.specs.ReadLaw.{bytes_read, command_reads, event_reads, only_reads, packet_reads, purpose_reads}
use Rattle.gdb_laws.specs.ReadLaw.{session_at}
use Rattle.gdb_packets.specs.declared.framer.Event.{Event}
use Rattle.gdb_packets.specs.declared.framer.Event.TheVariants as event
use Rattle.gdb_packets.specs.Framing.{after, event_of, plus}
use Rattle.gdb_packets.specs.Packets.{Packet, packet_of}
use Rattle.gdb_server.specs.Commands.{command_of}
use Rattle.gdb_server.specs.Conduct.{Answered, Server, acknowledged, acknowledgement, answered, byte_answered}
use Rattle.gdb_server.specs.Conduct.{commanded, conduct, event_answered, first, interrupted_if}
use Rattle.gdb_server.specs.Conduct.{packet_by, piece, too_long_by}
use Rattle.gdb_server.specs.declared.purposes.Purpose.{Purpose}
use Rattle.gdb_server.specs.declared.purposes.Purpose.TheVariants as purpose
use Rattle.gdb_server.specs.declared.purposes.SessionChange.{SessionChange}
use Rattle.gdb_server.specs.declared.purposes.SessionChange.TheVariants as change
use Rattle.gdb_server.specs.declared.waiting.Waiting.{Waiting}
use Rattle.gdb_server.specs.Purposes.{purpose_of}
use Rattle.gdb_server.specs.Sessions.{Session, session_after}
use Rattle.gdb_texts.specs.declared.monitor.Monitor.{Monitor}
use Rattle.gdb_texts.specs.declared.monitor.Monitor.TheVariants as monitor
use Rattle.machine.specs.MachineModel.{MachineModel}
use Rattle.output.specs.Input.{Reading}
use Rattle.output.specs.Output.{Writing}
use Rattle.platform.specs.Boards.{Numbers}
use Rattle.reference.specs.State.{State}
use Rattle.serving.specs.Conduct.{SessionState, after_bytes, answers, course_of, next}
use Rattle.serving.specs.declared.sessions.SessionError.{SessionError}
use Rattle.serving.specs.declared.sessions.SessionError.TheVariants.{Read, Write}
use Rattle.serving.specs.Pieces.{DeliversPart, Piece, last_state}
use Rattle.serving.specs.Sessions.{AreSoFar, Course, Ends, Sessions}

-- ---- pieces in one state

none_in : (s : State) → AreIn s []
none_in s = All-nil (λ p. p.state ≡ s)

one_in : (s : State) (text : List ℕ) → AreIn s (piece s text ∷ [])
one_in s text = All-cons (λ p. p.state ≡ s) (piece s text) [] refl (none_in s)

two_in : (s : State) (text more : List ℕ) → AreIn s (piece s text ∷ piece s more ∷ [])
two_in s text more = All-cons (λ p. p.state ≡ s) (piece s text) (piece s more ∷ []) refl (one_in s more)

both_in : (s : State) (xs ys : List Piece) → AreIn s xs → AreIn s ys → AreIn s (xs ++ ys)
both_in s xs ys = All-append (λ p. p.state ≡ s) xs ys

if_in : (b : Bool) (s : State) (text : List ℕ) → AreIn s (if b then piece s text ∷ [] else [])
if_in true s text = one_in s text
if_in false s text = none_in s

-- ---- a packet at rest

set_rests : (k : Session) (change : SessionChange) (tail : List ℕ) → k.running ≡ None
    → IsAtRest k (session_after k change tail)
set_rests k change.Features tail r = record { past = refl; rest = r }
set_rests k change.NoAcknowledgement tail r = record { past = refl; rest = r }
set_rests k (change.Insert b) tail r = record { past = refl; rest = r }
set_rests k (change.Remove b) tail r = record { past = refl; rest = r }
set_rests k (change.Watch w) tail r = record { past = refl; rest = r }
set_rests k (change.Unwatch w) tail r = record { past = refl; rest = r }
set_rests k change.Extended tail r = record { past = refl; rest = r }
set_rests k change.End tail r = record { past = refl; rest = r }

told : (k : Session) (s : State) (text more : List ℕ) (left : Session) → IsAtRest k left
    → LeavesMachine k s (record { pieces = piece s text ∷ piece s more ∷ []; session = left })
told k s text more left rests = record { pieces = two_in s text more; session = rests }

stays : (k : Session) → k.running ≡ None → IsAtRest k k
stays k r = record { past = refl; rest = r }

command_leaves : (k : Session) (s : State) (asked : Result Monitor LineError) → k.running ≡ None
    → command_reads asked ≡ true → LeavesMachine k s (commanded k s asked)
command_leaves k s (Ok monitor.Help) r is = told k s _ _ _ (record { past = refl; rest = r })
command_leaves k s (Ok (monitor.Explain a privileged kind)) r is = told k s _ _ _ (record { past = refl; rest = r })
command_leaves k s (Ok monitor.Regions) r is = told k s _ _ _ (record { past = refl; rest = r })
command_leaves k s (Ok monitor.State) r is = told k s _ _ _ (record { past = refl; rest = r })
command_leaves k s (Ok monitor.Next) r is = told k s _ _ _ (record { past = refl; rest = r })
command_leaves k s (Ok monitor.History) r is = told k s _ _ _ (record { past = refl; rest = r })
command_leaves k s (Ok (monitor.Trace selection)) r is = told k s _ _ _ (record { past = refl; rest = r })
command_leaves k s (Ok (monitor.Lines on)) r is = told k s _ _ _ (record { past = refl; rest = r })
command_leaves k s (Ok (monitor.Stop what on)) r is = told k s _ _ _ (record { past = refl; rest = r })
command_leaves k s (Ok (monitor.Step over)) r is = told k s _ _ _ (record { past = refl; rest = r })
command_leaves k s (Ok (monitor.Budget steps)) r is = told k s _ _ _ (record { past = refl; rest = r })
command_leaves k s (Ok (monitor.Place place)) r is = absurd cc
command_leaves k s (Ok monitor.Restart) r is = absurd cc
command_leaves k s (Ok monitor.Why) r is = told k s _ _ _ (record { past = refl; rest = r })
command_leaves k s (Err why) r is = told k s _ _ _ (record { past = refl; rest = r })

answer_leaves : (k : Session) (s : State) (p : Purpose) (tail : List ℕ) → k.running ≡ None
    → purpose_reads p tail ≡ true → LeavesMachine k s (answered k s p tail)
answer_leaves k s purpose.Nothing tail r is = record { pieces = none_in s; session = stays k r }
answer_leaves k s (purpose.Say what) tail r is =
    record { pieces = one_in s _; session = record { past = refl; rest = r } }
answer_leaves k s (purpose.Refuse error) tail r is =
    record { pieces = one_in s _; session = record { past = refl; rest = r } }
answer_leaves k s (purpose.Read what) tail r is =
    record { pieces = one_in s _; session = record { past = refl; rest = r } }
answer_leaves k s (purpose.Write change) tail r is = absurd cc
answer_leaves k s (purpose.Set change) tail r is =
    let set = set_rests k change tail r in
    record { pieces = one_in s _; session = record { past = set.past; rest = set.rest } }
answer_leaves k s purpose.Kill tail r is =
    record { pieces = none_in s; session = record { past = refl; rest = r } }
answer_leaves k s purpose.Run tail r is = absurd cc
answer_leaves k s purpose.Restart tail r is = absurd cc
answer_leaves k s (purpose.Resume how) tail r is = absurd cc
answer_leaves k s (purpose.Back way) tail r is = absurd cc
answer_leaves k s purpose.Command tail r is = command_leaves k s (command_of tail) r is

packet_leaves : (k : Session) (s : State) (waits : Option Waiting) (p : Packet) → waits ≡ None → k.running ≡ None
    → packet_reads p ≡ true → LeavesMachine k s (packet_by k s waits p)
packet_leaves k s None p at r is = answer_leaves k s (purpose_of p.request p.tail) p.tail r is
packet_leaves k s (Some w) p at r is = absurd cc

-- ---- a byte

long_leaves : (k : Session) (s : State) (waits : Option Waiting) → waits ≡ None → k.running ≡ None
    → LeavesMachine k s (too_long_by k s waits)
long_leaves k s None at r = record { pieces = one_in s _; session = record { past = refl; rest = r } }
long_leaves k s (Some w) at r = absurd cc

after_plus : (k : Session) (s : State) (later : Answered) → LeavesMachine k s later
    → LeavesMachine k s (acknowledged k s plus later)
after_plus k s later leaves = record {
  pieces = both_in s (acknowledgement k s plus) later.pieces (if_in k.acknowledges s (plus ∷ [])) leaves.pieces;
  session = leaves.session;
}

event_leaves : (k : Session) (s : State) (e : Event) (content : List ℕ) → k.running ≡ None
    → event_reads e content ≡ true → LeavesMachine k s (event_answered k s e content)
event_leaves k s event.Nothing content r is = record { pieces = none_in s; session = stays k r }
event_leaves k s event.Acknowledgement content r is = record { pieces = none_in s; session = stays k r }
event_leaves k s event.Rejection content r is =
    record { pieces = if_in k.acknowledges s k.sent; session = stays k r }
event_leaves k s event.Interrupt content r is = record {
  pieces = none_in s;
  session = record { past = refl; rest = ap (λ (o : Option Waiting). option_map (interrupted_if true) o) r };
}
event_leaves k s event.WrongChecksum content r is =
    record { pieces = if_in k.acknowledges s _; session = stays k r }
event_leaves k s event.TooLong content r is = after_plus k s _ (long_leaves k s k.running r r)
event_leaves k s event.Packet content r is =
    after_plus k s _ (packet_leaves k s k.running (packet_of content) r r is)

pub byte_leaves : (server : Server) (s : State) (byte : ℕ) → ByteLaw server s byte
byte_leaves server s byte r is =
    event_leaves server.session s (event_of server.framing byte) (after server.framing byte).content r is

-- ---- many bytes

last_in : (s t : State) (ps : List Piece) → s ≡ t → AreIn t ps → last_state s ps ≡ t
last_in s t [] at all = at
last_in s t (p ∷ ps) at all =
    last_in p.state t ps (all 0 p (omega arith)) (λ k d below. all (suc k) d (omega (arith, below)))

first_of_both : (a b : Bool) → a && b ≡ true → a ≡ true
first_of_both true b is = refl
first_of_both false b is = is

second_of_both : (a b : Bool) → a && b ≡ true → b ≡ true
second_of_both true b is = is
second_of_both false b is = absurd cc

-- the server after a byte
abbrev after_byte : Server → State → ℕ → Server
after_byte server s byte =
    record { framing = after server.framing byte; session = (byte_answered server s byte).session }

-- more bytes are read where the session is open
open_in : (reads_on : Bool) (s : State) (first later : List Piece) → AreIn s first → AreIn s later
    → AreIn s (if reads_on then first ++ later else [])
open_in true s first later one more = both_in s first later one more
open_in false s first later one more = none_in s

open_state : (reads_on : Bool) (s : State) (t u : SessionState Server) → t.state ≡ s → u.state ≡ s
    → (if reads_on then t else u).state ≡ s
open_state true s t u read kept = read
open_state false s t u read kept = kept

open_rest : (reads_on : Bool) (k : Session) (t u : SessionState Server) → IsAtRest k t.kept.session
    → IsAtRest k u.kept.session → IsAtRest k (if reads_on then t else u).kept.session
open_rest true k t u read kept = read
open_rest false k t u read kept = kept

go_on : (server : Server) (s : State) (byte : ℕ) (bytes : List ℕ) → server.session.running ≡ None
    → LeavesMachine server.session s (byte_answered server s byte)
    → LeaveMachine (after_byte server s byte) s bytes → LeaveMachine server s (byte ∷ bytes)
unfolding answers after_bytes
go_on server s byte bytes r one later =
    let there : session_at (after_byte server s byte) s ≡ next conduct (session_at server s) byte =
    ap (λ (u : State). session_at (after_byte server s byte) u)
    (sym (last_in s s (byte_answered server s byte).pieces refl one.pieces)) in
    let read = subst (λ (t : SessionState Server). IsAtRest (after_byte server s byte).session
    (after_bytes conduct t bytes).kept.session) there later.session in record {
      pieces = open_in server.session.is_open s _ _ one.pieces
          (subst (λ (t : SessionState Server). AreIn s (answers conduct t bytes)) there later.pieces);
      state = open_state server.session.is_open s _ _
          (subst (λ (t : SessionState Server). (after_bytes conduct t bytes).state ≡ s) there later.state) refl;
      session = open_rest server.session.is_open server.session _ _
          (record { past = read.past ∙ one.session.past; rest = read.rest }) (stays server.session r);
    }

pub bytes_leave : (server : Server) (s : State) (bytes : List ℕ) → BytesLaw server s bytes
unfolding answers after_bytes only_reads
bytes_leave server s [] r is = record { pieces = none_in s; state = refl; session = stays server.session r }
bytes_leave server s (byte ∷ bytes) r is =
    let one = byte_leaves server s byte r (first_of_both _ _ is) in
    go_on server s byte bytes r one
    (bytes_leave (after_byte server s byte) s bytes one.session.rest (second_of_both _ _ is))

-- ---- a whole session

-- the machine is in the state of the last piece, or of one of them
stays_in : (old new : MachineModel) (pieces : List Piece) → AreIn old.state pieces
    → new ≡ record old { state = last_state old.state pieces } → new ≡ old
stays_in old new pieces all is =
    is ∙ ap (λ (s : State). record old { state = s }) (last_in old.state old.state pieces refl all)

one_of : (s : State) (done others : List Piece) (p : Piece) → AreIn s (done ++ p ∷ others) → p.state ≡ s
one_of s [] others p all = all 0 p (omega arith)
one_of s (q ∷ done) others p all = one_of s done others p (λ k d below. all (suc k) d (omega (arith, below)))

stays_at : (old new : MachineModel) (before after : Writing) (pieces : List Piece) → AreIn old.state pieces
    → DeliversPart pieces old new before after → new ≡ old
stays_at old new before after pieces all part =
    part.stands ∙ ap (λ (s : State). record old { state = s })
    (one_of old.state part.done part.others part.piece (subst (AreIn old.state) part.among all))

-- nothing is written at the end of the input
module _ (server : Server) (s : State) where
  abbrev t : Course
  t = course_of conduct server s

  all_in : (bytes : List ℕ) → AreIn s (t.answers bytes) → AreIn s (t.all_answers bytes)
  all_in bytes all = subst (AreIn s) (sym (append-nil (t.answers bytes))) all

  ends_in : (bytes : List ℕ) (after : Reading) (pieces : List Piece) → AreIn s (t.answers bytes)
      → Ends t bytes after pieces → AreIn s pieces
  ends_in bytes after pieces all (inl h) = subst (AreIn s) (sym h.1) (all_in bytes all)
  ends_in bytes after pieces all (inr (inl h)) = subst (AreIn s) (sym h.1) all
  ends_in bytes after pieces all (inr (inr h)) = subst (AreIn s) (sym h.1) all

  so_far_in : (bytes : List ℕ) (after : Reading) (pieces : List Piece) → AreIn s (t.answers bytes)
      → AreSoFar t bytes after pieces → AreIn s pieces
  so_far_in bytes after pieces all (inl is) = subst (AreIn s) (sym is) all
  so_far_in bytes after pieces all (inr h) = subst (AreIn s) (sym h.1) (all_in bytes all)

-- however the session ended
session_stays : (server : Server) (old new : MachineModel) (before after : Reading) (out out' : Writing)
    (result : Result (Unit {0}) SessionError) → server.session.running ≡ None
    → (ran : Sessions (course_of conduct server old.state) old new before after out out' result)
    → only_reads server.framing (bytes_read (course_of conduct server old.state) old new before after out out' result
    ran) ≡ true → new ≡ old
session_stays server old new before after out out' (Ok done) r held is =
    let leave = bytes_leave server old.state held.given r is in
    stays_in old new held.pieces (ends_in server old.state held.given after held.pieces leave.pieces held.ends)
    held.delivers.stands
session_stays server old new before after out out' (Err Read) r failed is =
    let leave = bytes_leave server old.state failed.given r is in
    stays_in old new _ leave.pieces failed.delivers.stands
session_stays server old new before after out out' (Err Write) r failed is =
    let leave = bytes_leave server old.state failed.given r is in
    elim failed.delivers [
      | inl part ↦ stays_at old new out out' _ (all_in server old.state failed.given leave.pieces) part
      | inr whole ↦ stays_in old new whole.pieces
          (so_far_in server old.state failed.given after whole.pieces leave.pieces whole.so_far) whole.delivers.stands
    ]

pub session_leaves : (limit : ℕ) (board : Numbers) (devices : List Device) (old new : MachineModel)
    (before after : Reading) (out out' : Writing) (result : Result (Unit {0}) SessionError)
    → SessionLaw limit board devices old new before after out out' result
session_leaves limit board devices old new before after out out' result ran is =
    session_stays (first limit board devices old.state) old new before after out out' result refl ran is
