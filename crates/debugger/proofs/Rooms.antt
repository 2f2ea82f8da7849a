-- The slots have room for the machine's states, whatever is answered.
use Rattle.std.proofs.Common.{◌≡◌, ◌<◌, ◌||◌, ℕ, zero, suc, Bool, true, false, List, [], ◌∷◌}
use Rattle.std.proofs.Common.{Option, Some, None, Result, Ok, Err}
use Rattle.std.proofs.Common.{refl, ◌∙◌, ap, is_some, not, length, nat_lt, slice_index_or, subst}
use Rattle.std.proofs.Common.{sym, arith, ◌+◌, ◌-◌, ◌++◌, replicate}
use Rattle.std.proofs.Common.{length-append}
use Rattle.std.proofs.lemmas.Grind.{replicate_next}
use Rattle.std.proofs.lemmas.Bool.{cond_both}
use Rattle.std.proofs.lemmas.List.{length-map, map-append, map-set}
use Rattle.std.proofs.lemmas.List.Elements.{All-push, All-set}
use Rattle.debugger.specs.Answers.{after_edge, answer, answer_by, change_piece, changed_piece, closed}
use Rattle.debugger.specs.Answers.{closing_piece, back_piece, edge_signal, ends_at, hit_before, is_closed, placed}
use Rattle.debugger.specs.Answers.{replies, run_on, run_pieces, saved_after, task_on, task_piece, task_pieces}
use Rattle.debugger.specs.Held.{Held, held_after, held_after_line, held_first, holding, data_of}
use Rattle.debugger.specs.Sessions.{SessionData, after_line, debugging, is_line_feed, line_asked, next, opened}
use Rattle.debugger.specs.Sessions.{session_of}
use Rattle.debugger.specs.Slots.{HaveRoom, Slot, saved_in, saved_there, slots_after}
use Rattle.debugger_commands.specs.declared.changes.Change.{Change}
use Rattle.debugger_commands.specs.declared.changes.Change.TheVariants as change
use Rattle.debugger_commands.specs.declared.changes.Edge.{Edge}
use Rattle.debugger_commands.specs.declared.commands.Command.{Command}
use Rattle.debugger_commands.specs.declared.commands.LineError.{LineError}
use Rattle.debugger_commands.specs.declared.conditions.Hit.{Hit}
use Rattle.debugger_commands.specs.Commands.{change_of, quits, steps_of, task_steps_of}
use Rattle.debugger_commands.specs.Conditions.{first_hit}
use Rattle.debugger_commands.specs.Settings.{Settings, opened_settings, settings_after, without_conditions}
use Rattle.target.specs.NextStep.{is_instruction_next}
use Rattle.platform.specs.declared.error.PlaceError.{PlaceError}
use Rattle.platform.specs.declared.exception.TheConstants.{MAX_INTERRUPTS}
use Rattle.platform.specs.declared.script.Signal.TheVariants as signal
use Rattle.platform.specs.Boards.{Numbers}
use Rattle.reference.specs.declared.place.Place.{Place}
use Rattle.reference.specs.Places.{signalled}
use Rattle.reference.specs.State.{Bus, State}
use Rattle.reference.specs.Step.{step}
use Rattle.step_laws.proofs.Sizes.{alter_board, board_refl, board_sym, board_trans, signal_board, step_board}
use Rattle.step_laws.specs.SizeLaw.{AreOfOneBoard, KeepsBoard}
use Rattle.task_laws.specs.declared.task.TaskEnd.TheVariants.{NotTask}
use Rattle.task_laws.specs.Tasks.{is_task}
use Rattle.serving.proofs.Lifting.{course_seen}
use Rattle.serving.proofs.Delivering.{last-append}
use Rattle.serving.specs.Conduct.{course_of}
use Rattle.serving.specs.Pieces.{Piece, last_state}

-- a state after another one of the same machine
abbrev Stays : State → State → Type 0
Stays s u = AreOfOneBoard s.bus u.bus

-- ---- an answer leaves the board

-- what follows a state of the same machine is of the same machine
then_stays : (s t : State) (ps : List Piece) → Stays s t → Stays t (last_state t ps) → Stays s (last_state t ps)
then_stays s t ps h rest = board_trans s.bus t.bus (last_state t ps).bus h rest

run_stays_on : (k : Settings) (n : ℕ) (h : Option Hit) (s : State) → Stays s (last_state s (run_on k n h s))
unfolding run_on
run_stays_on k zero h s = board_refl s.bus
run_stays_on k (suc n) h s =
    cond_both (ends_at (hit_before k h s) s) _ _ (λ (ps : List Piece). Stays s (last_state s ps))
    (λ e. board_refl s.bus)
    (λ e. then_stays s (step s).state (run_on k n (first_hit k (step s).events) (step s).state) (step_board s)
    (run_stays_on k n (first_hit k (step s).events) (step s).state))

run_stays : (k : Settings) (n : ℕ) (s : State) → Stays s (last_state s (run_pieces k n s))
run_stays k n s =
    cond_both (is_some s.stop) _ _ (λ (ps : List Piece). Stays s (last_state s ps)) (λ e. board_refl s.bus)
    (λ e. then_stays s (step s).state (run_on k (n - 1) (first_hit k (step s).events) (step s).state) (step_board s)
    (run_stays_on k (n - 1) (first_hit k (step s).events) (step s).state))

task_stays_on : (k : Settings) (n : ℕ) (s : State) → Stays s (last_state s (task_on k n s))
unfolding task_on
task_stays_on k zero s = board_refl s.bus
task_stays_on k (suc n) s =
    cond_both (is_instruction_next s) _ _ (λ (ps : List Piece). Stays s (last_state s ps))
    (λ e. then_stays s (step s).state (task_on k n (step s).state) (step_board s) (task_stays_on k n (step s).state))
    (λ e. board_refl s.bus)

task_stays : (k : Settings) (n : ℕ) (s : State) → Stays s (last_state s (task_pieces k n s))
task_stays k n s =
    cond_both (is_some s.stop || is_task s) (task_on (without_conditions k) n s)
    (task_piece s NotTask ∷ []) (λ (ps : List Piece). Stays s (last_state s ps))
    (λ e. task_stays_on (without_conditions k) n s) (λ e. board_refl s.bus)

changed_stays : (s : State) (r : Result State PlaceError) → KeepsBoard s r → Stays s (changed_piece s r).state
changed_stays s (Ok after) h = h
changed_stays s (Err why) h = board_refl s.bus

placed_board : (s : State) (value : Option Place) → KeepsBoard s (placed s value)
placed_board s None = tt
placed_board s (Some value) = alter_board s value

edge_board : (s : State) (how : Edge) (k : ℕ) → KeepsBoard s (after_edge s how k)
edge_board s how k =
    cond_both (nat_lt k MAX_INTERRUPTS) _ _ (KeepsBoard s) (λ e. signal_board s (edge_signal how k)) (λ e. tt)

back_by : (s : State) (slot : Slot) (b : Bool) → slot.is_saved ≡ b → AreOfOneBoard slot.state.bus s.bus
    → Stays s (back_piece s (saved_there slot)).state
back_by s slot true e h = rw e (board_sym slot.state.bus s.bus h)
back_by s slot false e h = rw e (board_refl s.bus)

found_by : (slot : Slot) (b : Bool) (m : Bus) (s : State) → slot.is_saved ≡ b
    → AreOfOneBoard slot.state.bus m → saved_there slot ≡ Some s → AreOfOneBoard m s.bus
found_by slot true m s is h e =
    let same : slot.state ≡ s = (let f : Some slot.state ≡ Some s = rw is at e in cc) in
    subst (λ (u : State). AreOfOneBoard m u.bus) same (board_sym slot.state.bus m h)
found_by slot false m s is h e = absurd (let f : None ≡ Some s = rw is at e in let w : ⊥ = cc in w)

-- the slots after the first one
rest : (slot : Slot) (slots : List Slot) (m : Bus) → HaveRoom (slot ∷ slots) m → HaveRoom slots m
rest slot slots m room = λ i d below. room (suc i) d (let b : i < length slots = below in omega arith)

first : (slot : Slot) (slots : List Slot) (m : Bus) → HaveRoom (slot ∷ slots) m
    → AreOfOneBoard slot.state.bus m
first slot slots m room = room 0 slot (omega arith)

back_stays : (s : State) (slots : List Slot) (n : ℕ) → HaveRoom slots s.bus
    → Stays s (back_piece s (slice_index_or (saved_in slots) n None)).state
back_stays s [] n room = board_refl s.bus
back_stays s (slot ∷ slots) zero room =
    back_by s slot slot.is_saved refl (first slot slots s.bus room)
back_stays s (slot ∷ slots) (suc n) room = back_stays s slots n (rest slot slots s.bus room)

change_stays : (s : State) (slots : List Slot) (what : Change) → HaveRoom slots s.bus
    → Stays s (change_piece s (saved_in slots) what).state
change_stays s slots (change.Place value) room = changed_stays s (placed s value) (placed_board s value)
change_stays s slots (change.Signal how k) room = changed_stays s (after_edge s how k) (edge_board s how k)
change_stays s slots change.Nmi room = changed_stays s (signalled s signal.Nmi) (signal_board s signal.Nmi)
change_stays s slots (change.Save slot) room = board_refl s.bus
change_stays s slots (change.Back slot) room = back_stays s slots slot room

replies_stay : (k : Settings) (s : State) (slots : List Slot) (asked : Result Command LineError) (what : Option Change)
    → HaveRoom slots s.bus → Stays s (last_state s (replies s k (saved_in slots) asked what))
replies_stay k s slots asked None room = board_refl s.bus
replies_stay k s slots asked (Some what) room = change_stays s slots what room

answer_stays_by : (k : Settings) (s : State) (slots : List Slot) (asked : Result Command LineError)
    (steps task : Option ℕ) → HaveRoom slots s.bus
    → Stays s (last_state s (answer_by s k (saved_in slots) asked steps task))
answer_stays_by k s slots asked (Some n) task room = run_stays k n s
answer_stays_by k s slots asked None (Some n) room = task_stays k n s
answer_stays_by k s slots asked None None room = replies_stay k s slots asked (change_of asked) room

pub closed_last : (is_closed : Bool) (s : State) (ps : List Piece)
    → last_state s (closed is_closed s ps) ≡ last_state s ps
closed_last false s ps = refl
closed_last true s ps = last-append s ps (closing_piece (last_state s ps) ∷ [])

answer_stays : (k : Settings) (s : State) (slots : List Slot) (asked : Result Command LineError)
    → HaveRoom slots s.bus → Stays s (last_state s (answer s k (saved_in slots) asked))
answer_stays k s slots asked room =
    rw (closed_last (is_closed k asked) s (answer_by s k (saved_in slots) asked (steps_of asked) (task_steps_of asked)))
    (answer_stays_by k s slots asked (steps_of asked) (task_steps_of asked) room)

-- ---- the slots after an answer

moved : (slots : List Slot) (m k : Bus) → AreOfOneBoard m k → HaveRoom slots m → HaveRoom slots k
moved slots m k h room =
    λ i d below. board_trans (slice_index_or slots i d).state.bus m k (room i d below) h

kept_room : (s : State) (slots : List Slot) (what : Option Change) → HaveRoom slots s.bus
    → HaveRoom (slots_after s slots what) s.bus
kept_room s slots None room = room
kept_room s slots (Some (change.Place value)) room = room
kept_room s slots (Some (change.Signal how k)) room = room
kept_room s slots (Some change.Nmi) room = room
kept_room s slots (Some (change.Save slot)) room =
    All-set (λ (x : Slot). AreOfOneBoard x.state.bus s.bus) slots slot
    (record { state = s; is_saved = true }) (board_refl s.bus) room
kept_room s slots (Some (change.Back slot)) room = room

-- a saved state is of the board of the machine
pub found_fits : (slots : List Slot) (n : ℕ) (m : Bus) (s : State) → HaveRoom slots m
    → slice_index_or (saved_in slots) n None ≡ Some s → AreOfOneBoard m s.bus
found_fits [] n m s room e = absurd (let w : ⊥ = cc in w)
found_fits (slot ∷ slots) zero m s room e =
    found_by slot slot.is_saved m s refl (first slot slots m room) e
found_fits (slot ∷ slots) (suc n) m s room e = found_fits slots n m s (rest slot slots m room) e

-- they have room after it too
pub room_after : (k : Settings) (s new : State) (slots after : List Slot) (asked : Result Command LineError)
    → HaveRoom slots s.bus → after ≡ slots_after s slots (change_of asked)
    → new ≡ last_state s (answer s k (saved_in slots) asked) → HaveRoom after new.bus
room_after k s new slots after asked room kept state =
    rw (kept, state)
    (moved (slots_after s slots (change_of asked)) s.bus (last_state s (answer s k (saved_in slots) asked)).bus
    (answer_stays k s slots asked room)
    (kept_room s slots (change_of asked) room))

-- what is saved in them is what the definition saves
pub saved_same : (s : State) (slots : List Slot) (what : Option Change)
    → saved_in (slots_after s slots what) ≡ saved_after s (saved_in slots) what
saved_same s slots None = refl
saved_same s slots (Some (change.Place value)) = refl
saved_same s slots (Some (change.Signal how k)) = refl
saved_same s slots (Some change.Nmi) = refl
saved_same s slots (Some (change.Save slot)) =
    map-set (λ (x : Slot). saved_there x) slots slot (record { state = s; is_saved = true })
saved_same s slots (Some (change.Back slot)) = refl

-- so what is held after a byte is what the session keeps
pub holds : (h : Held) (s : State) (byte : ℕ) → data_of (held_after h s byte) ≡ next (data_of h) s byte
holds h s byte = split (is_line_feed byte) refl
  where
    split : (b : Bool) → is_line_feed byte ≡ b → data_of (held_after h s byte) ≡ next (data_of h) s byte
    split true e =
        rw e
        (ap (λ (saved : List (Option State)). record (after_line (data_of h) s) { saved = saved })
        (saved_same s h.slots (change_of (line_asked (data_of h)))))
    split false e = rw e refl

-- what is held after the answer to a line
pub line_held : (h : Held) (s : State) (new : Held) (line : Option (List ℕ)) (asked : Result Command LineError)
    (quit : Bool) → asked ≡ line_asked (data_of h) → line ≡ Some [] → quit ≡ quits asked
    → new ≡ record {
      settings = settings_after h.settings asked;
      line = line;
      slots = slots_after s h.slots (change_of asked);
      is_open = not quit;
    } → new ≡ held_after_line h s
line_held h s new line asked quit is empty quitted kept = rw (kept, empty, quitted, is) refl

-- ---- before the first byte

-- slots in which nothing was saved
pub record Unsaved (n : ℕ) (slots : List Slot) (m : Bus) : Type 0 where
  pub count : length slots ≡ n
  pub saved : saved_in slots ≡ replicate n None
  pub room : HaveRoom slots m

pub none_made : (m : Bus) → Unsaved 0 [] m
none_made m = record { count = refl; saved = refl; room = λ i d below. absurd (omega (arith, below)) }

-- one more
pub one_made : (n : ℕ) (slots more : List Slot) (slot : Slot) (s : State) → Unsaved n slots s.bus
    → slot.is_saved ≡ false → slot.state ≡ s → more ≡ slots ++ slot ∷ [] → Unsaved (n + 1) more s.bus
one_made n slots more slot s h empty same longer =
    let m = s.bus in
    let fits : AreOfOneBoard slot.state.bus m = rw same (board_refl m) in
    let there : saved_there slot ≡ None = rw empty refl in
    rw longer (record {
      count = length-append slots (slot ∷ []) ∙ ap (λ x. x + 1) h.count;
      saved = map-append (λ (x : Slot). saved_there x) slots (slot ∷ [])
          ∙ (ap (λ (o : Option State). saved_in slots ++ o ∷ []) there
          ∙ (ap (λ (os : List (Option State)). os ++ None ∷ []) h.saved ∙ sym (replicate_next n None)));
      room = All-push (λ (x : Slot). AreOfOneBoard x.state.bus m) slots slot h.room fits;
    })

opened_is : (board : Numbers) (slots : List Slot) → data_of (held_first board slots) ≡ opened board (saved_in slots)
opened_is board slots =
    ap (λ (n : ℕ). record (opened board (saved_in slots)) { settings = opened_settings board n })
    (sym (length-map slots (λ (x : Slot). saved_there x)))

-- a session of what is held first is that of what is saved
pub session_is : (board : Numbers) (slots : List Slot) (h : Held) (s : State) → h ≡ held_first board slots
    → course_of holding h s ≡ session_of board (saved_in slots) s
unfolding session_of
session_is board slots h s e =
    course_seen data_of held_after debugging holds h s
    ∙ ap (λ (k : SessionData). course_of debugging k s) (ap data_of e ∙ opened_is board slots)
