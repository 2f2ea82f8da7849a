-- Marks after writes, and the lines of the marks.
use Rattle.std.proofs.Common.{◌≡◌, ◌∙◌, ◌<◌, ℕ, suc, Bool, true, List, [], ◌++◌, codes, length, drop}
use Rattle.std.proofs.Common.{Option, Some, None, OnOk, Result, ap, append_assoc, slice_index_or, subst, sym}
use Rattle.debugger_commands.specs.declared.commands.LineError.{LineError}
use Rattle.std.specs.Fmt.{decimal}
use Rattle.std.proofs.Math.Seq.{drop-cons, drop-length}
use Rattle.gdb_past.specs.Places.{Past, marked, tick_of}
use Rattle.gdb_server.specs.Commands.{history_text, mark_lines, placed_by, settings_with}
use Rattle.gdb_server.specs.Conduct.{begun, commanded, past_after, past_by, restarted, wrote}
use Rattle.gdb_server.specs.declared.purposes.Reading.TheVariants as reading
use Rattle.gdb_server.specs.Replies.{data_read}
use Rattle.gdb_server.specs.Sessions.{Session, data_of_write, ok, with_reply}
use Rattle.gdb_server.specs.Writes.{Written, Writes}
use Rattle.gdb_texts.specs.declared.monitor.Monitor.{Monitor}
use Rattle.gdb_texts.specs.declared.replies.ErrorCode.{ErrorCode}
use Rattle.machine.specs.MachineModel.{MachineModel}
use Rattle.platform.specs.declared.error.PlaceError.{PlaceError}
use Rattle.platform.specs.Text.{line_feed}
use Rattle.reference.specs.State.{State}

-- ---- writes

-- a write that was refused leaves no mark
pub keeps_written : (past : Past) (something : Bool) (w : Written) (old new : MachineModel) (why : Option PlaceError)
    (error : PlaceError) → Writes w old new why → why ≡ Some error
    → past ≡ past_after past something w.state w.refused
keeps_written past something w old new why error wrote is =
    ap (λ (o : Option PlaceError). past_after past something w.state o) (sym is ∙ wrote.1)

-- another one does
pub marks_written : (past after : Past) (w : Written) (old new : MachineModel) (why : Option PlaceError)
    → Writes w old new why
    → why ≡ None → after ≡ marked past new.state → after ≡ past_after past true w.state w.refused
marks_written past after w old new why wrote is marks =
    marks ∙ (ap (λ (m : MachineModel). marked past m.state) wrote.0
    ∙ ap (λ (o : Option PlaceError). past_after past true w.state o) (sym is ∙ wrote.1))

-- the session after a write
pub session_wrote : (k marks left : Session) (something : Bool) (w : Written) (old new : MachineModel)
    (why : Option PlaceError)
    (reply : Result (List ℕ) ErrorCode) → Writes w old new why
    → marks ≡ record k { past = past_after k.past something new.state why } → reply ≡ data_of_write why
    → left ≡ with_reply marks reply → left ≡ (wrote k something w).session
session_wrote k marks left something w old new why reply wrote is answer ends =
    ends ∙ (ap (λ (m : Session). with_reply m reply) is
    ∙ (ap (λ (d : Result (List ℕ) ErrorCode). with_reply (record k { past = past_after k.past something new.state why })
    d)
    (answer ∙ ap data_of_write wrote.1)
    ∙ (ap (λ (m : MachineModel). with_reply (record k { past = past_after k.past something m.state why })
    (data_of_write w.refused)) wrote.0
    ∙ ap (λ (o : Option PlaceError). with_reply (record k { past = past_after k.past something w.state o })
    (data_of_write w.refused)) wrote.1)))

-- the session after a command
pub session_commanded : {A E : Type 0} (result : Result A E) (k mid set left : Session) (s : State)
    (asked want : Result Monitor LineError) → asked ≡ want
    → mid ≡ record k { past = past_by k.past (placed_by k.past.start s asked) asked }
    → set ≡ record mid { settings = settings_with mid.settings asked } → OnOk result (left ≡ with_reply set ok)
    → OnOk result (left ≡ (commanded k s want).session)
session_commanded result k mid set left s asked want is first then kept =
    subst (λ (a : Result Monitor LineError). OnOk result (left ≡ (commanded k s a).session)) is
    (subst (λ (x : Session). OnOk result (left ≡ with_reply x ok))
    (then ∙ ap (λ (x : Session). record x { settings = settings_with x.settings asked }) first) kept)

-- ---- the first state again

pub begun_data : (k q : Session) (s : State) (answer : Result (List ℕ) ErrorCode) → q ≡ restarted k → s ≡ k.past.start
    → answer ≡ data_read q.signal q.board q.devices s reading.StopReason
    → answer ≡ data_read k.signal k.board k.devices k.past.start reading.StopReason
begun_data k q s answer is at reads =
    reads ∙ (ap (λ (x : Session). data_read x.signal x.board x.devices s reading.StopReason) is
    ∙ ap (λ (u : State). data_read k.signal k.board k.devices u reading.StopReason) at)

pub session_begun : (k q left : Session) (s : State) (answer : Result (List ℕ) ErrorCode) → q ≡ restarted k
    → s ≡ k.past.start → answer ≡ data_read q.signal q.board q.devices s reading.StopReason
    → left ≡ with_reply q answer → left ≡ (begun k).session
session_begun k q left s answer is at reads ends =
    ends ∙ (ap (λ (x : Session). with_reply x answer) is
    ∙ ap (λ (d : Result (List ℕ) ErrorCode). with_reply (restarted k) d) (begun_data k q s answer is at reads))

-- ---- the lines of the marks

pub no_lines : (marks : List State) (n : ℕ) → n ≡ length marks → [] ≡ mark_lines (drop n marks)
no_lines marks n is = ap mark_lines (sym (ap (λ i. drop i marks) is ∙ drop-length marks))

pub one_more_line : (marks : List State) (left n tick : ℕ) (m : State) (page : List ℕ) → n < length marks
    → left ≡ suc n → tick ≡ tick_of (slice_index_or marks n m) → page ≡ mark_lines (drop left marks)
    → page ++ (decimal tick ++ line_feed) ≡ mark_lines (drop n marks)
one_more_line marks left n tick m page there next is so_far =
    ap (λ (text : List ℕ). text ++ (decimal tick ++ line_feed))
    (so_far ∙ ap (λ i. mark_lines (drop i marks)) next)
    ∙ (ap (λ i. mark_lines (drop (suc n) marks) ++ (decimal i ++ line_feed)) is
    ∙ sym (ap mark_lines (drop-cons marks n m there)))

pub history_ends : (past : Past) (s : State) (tick : ℕ) (page now all : List ℕ) → page ≡ mark_lines past.marks
    → now ≡ page ++ codes "now " → tick ≡ tick_of s → all ≡ now ++ (decimal tick ++ line_feed)
    → all ≡ history_text past s
history_ends past s tick page now all lines here is ends =
    ends ∙ (ap (λ (text : List ℕ). text ++ (decimal tick ++ line_feed)) here
    ∙ (append_assoc page (codes "now ") (decimal tick ++ line_feed)
    ∙ (ap (λ (text : List ℕ). text ++ (codes "now " ++ (decimal tick ++ line_feed))) lines
    ∙ ap (λ i. mark_lines past.marks ++ (codes "now " ++ (decimal i ++ line_feed))) is)))

pub line_put : (page digits mid last : List ℕ) → mid ≡ page ++ digits → last ≡ mid ++ line_feed
    → last ≡ page ++ (digits ++ line_feed)
line_put page digits mid last is ends =
    ends ∙ (ap (λ (text : List ℕ). text ++ line_feed) is ∙ append_assoc page digits line_feed)
