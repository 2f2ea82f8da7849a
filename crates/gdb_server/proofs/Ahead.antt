-- The machine stays after the last mark: it makes steps, and each write leaves a mark.
use Rattle.std.proofs.Common.{◌≡◌, Bool, true, false, List, ℕ, Option, Some, None, Result, Ok, Err, OnOk, refl, subst}
use Rattle.std.proofs.Common.{sym}
use Rattle.std.proofs.Common.{ap, ◌∙◌}
use Rattle.debugger_commands.specs.declared.commands.LineError.{LineError}
use Rattle.gdb.specs.declared.returns.Return.{Return}
use Rattle.gdb.specs.declared.returns.Return.TheVariants as returning
use Rattle.gdb.specs.declared.returns.Search.{Search}
use Rattle.gdb.specs.declared.turns.Run.{Run}
use Rattle.gdb.specs.declared.turns.Turn.{Turn}
use Rattle.gdb.specs.declared.turns.Turn.TheVariants as turning
use Rattle.gdb.specs.Returns.{Returned, return}
use Rattle.gdb.specs.Targets.{altered_if}
use Rattle.gdb.specs.Turns.{Turned, turn}
use Rattle.gdb_past.proofs.Following.{after_none, same_trans}
use Rattle.gdb_past.proofs.Ways.{at_first}
use Rattle.gdb_past.specs.Places.{AreOfOneMachine, Past, marked, past_anew, past_from}
use Rattle.gdb_past.specs.Ways.{IsAfterMark}
use Rattle.gdb_server.proofs.Refusals.{Unless, placed_unless, written_unless}
use Rattle.gdb_server.proofs.Sizes.{put_stays, written_stays}
use Rattle.gdb_server.specs.Commands.{placed_by}
use Rattle.gdb_server.specs.Conduct.{commanded, past_after, past_by, resumed, searched, with_return, with_turn}
use Rattle.gdb_server.specs.declared.purposes.MachineChange.{MachineChange}
use Rattle.gdb_server.specs.Sessions.{Session}
use Rattle.gdb_server.specs.Writes.{after_place, writes, written}
use Rattle.gdb_texts.specs.declared.monitor.Monitor.{Monitor}
use Rattle.gdb_texts.specs.declared.monitor.Monitor.TheVariants as monitor
use Rattle.machine.specs.MachineModel.{MachineModel}
use Rattle.platform.specs.declared.error.PlaceError.{PlaceError}
use Rattle.reference.specs.State.{State}

pub on_ok : {A E P : Type 0} (result : Result A E) → P → OnOk result P
on_ok (Ok done) p = p
on_ok (Err error) p = tt

-- before the first byte
pub ready_first : {room : ℕ} (s : State) → IsAfterMark (past_from room s) s
ready_first {room} s = at_first room s

-- after the session begins anew
pub ready_anew : (past : Past) → IsAfterMark (past_anew past) past.start
ready_anew past = at_first past.room past.start

-- a session and a machine after a call
pub now_ahead : (k : Session) (new : MachineModel) (past : Past) (s : State) → k.past ≡ past → new.state ≡ s
    → IsAfterMark past s → IsAfterMark k.past new.state
now_ahead k new past s kept stands h =
    subst (λ (p : Past). IsAfterMark p new.state) (sym kept) (subst (λ (t : State). IsAfterMark past t) (sym stands) h)

-- a turn leaves the past as it was then
turn_past : (k : Session) (t : Turn) → (with_turn k t).past ≡ k.past
turn_past k (turning.Asks run) = refl
turn_past k (turning.Ends signal) = refl

return_past : (k : Session) (r : Return) → (with_return k r).past ≡ k.past
return_past k (returning.Asks search) = refl
return_past k (returning.Ends signal) = refl

pub resumed_past : (k : Session) (s : State) (run : Run) → (resumed k s run).session.past ≡ k.past
resumed_past k s run =
    let t : Turned = turn k.points k.settings k.features k.limit run s in
    turn_past (record k { sent = t.sent }) t.outcome

pub searched_past : (k : Session) (s : State) (search : Search) → (searched k s search).session.past
    ≡ (return k.settings k.points k.features k.past search s).past
searched_past k s search =
    let r : Returned = return k.settings k.points k.features k.past search s in
    return_past (record k { sent = r.sent; past = r.past }) r.outcome

-- the machine is at a new mark
at_mark : (past : Past) (s : State) → AreOfOneMachine past.start s → IsAfterMark (marked past s) s
at_mark past s fits = record { fits = fits; steps = 0; there = λ m. sym (after_none s) }

left_ahead : (past : Past) (s t : State) (something : Bool) (why : Option PlaceError) → IsAfterMark past s
    → AreOfOneMachine s t → Unless something why s t → IsAfterMark (past_after past something t why) t
left_ahead past s t something (Some error) h fits same = subst (λ (u : State). IsAfterMark past u) (sym same) h
left_ahead past s t true None h fits same = at_mark past t (same_trans past.start s t h.fits fits)
left_ahead past s t false None h fits same = subst (λ (u : State). IsAfterMark past u) (sym same) h

pub wrote_ahead : (past : Past) (s : State) (c : MachineChange) (tail : List ℕ) → IsAfterMark past s
    → IsAfterMark (past_after past (writes c tail) (written s c tail).state (written s c tail).refused)
    (written s c tail).state
wrote_ahead past s c tail h =
    left_ahead past s (written s c tail).state (writes c tail) (written s c tail).refused h (written_stays s c tail)
    (written_unless s c tail)

pub by_ahead : (past : Past) (s : State) (asked : Result Monitor LineError) → IsAfterMark past s
    → IsAfterMark (past_by past (placed_by past.start s asked) asked) (placed_by past.start s asked).state
by_ahead past s (Ok monitor.Help) h = h
by_ahead past s (Ok (monitor.Explain a privileged kind)) h = h
by_ahead past s (Ok monitor.Regions) h = h
by_ahead past s (Ok monitor.State) h = h
by_ahead past s (Ok monitor.Next) h = h
by_ahead past s (Ok monitor.History) h = h
by_ahead past s (Ok (monitor.Trace selection)) h = h
by_ahead past s (Ok (monitor.Lines on)) h = h
by_ahead past s (Ok (monitor.Stop what on)) h = h
by_ahead past s (Ok (monitor.Step over)) h = h
by_ahead past s (Ok (monitor.Budget steps)) h = h
by_ahead past s (Ok (monitor.Place place)) h =
    let r : Result State PlaceError = altered_if s place in
    left_ahead past s (after_place s r).state true (after_place s r).refused h (put_stays s place) (placed_unless s r)
by_ahead past s (Ok monitor.Restart) h = ready_anew past
by_ahead past s (Ok monitor.Why) h = h
by_ahead past s (Err why) h = h

-- a session and a machine after a command
pub commanded_ahead : {A E : Type 0} (result : Result A E) (k left : Session) (new : MachineModel) (s : State)
    (asked want : Result Monitor LineError) → asked ≡ want
    → OnOk result (left ≡ (commanded k s want).session) → new.state ≡ (placed_by k.past.start s asked).state
    → IsAfterMark k.past s → OnOk result (IsAfterMark left.past new.state)
commanded_ahead (Ok done) k left new s asked want is kept stands h =
    now_ahead left new (past_by k.past (placed_by k.past.start s want) want) (placed_by k.past.start s want).state
    (ap (λ (q : Session). q.past) kept)
    (stands ∙ ap (λ (a : Result Monitor LineError). (placed_by k.past.start s a).state) is) (by_ahead k.past s want h)
commanded_ahead (Err error) k left new s asked want is kept stands h = tt
