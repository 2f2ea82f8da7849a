-- What `back k` goes back to.
use Rattle.std.proofs.Common.{◌≡◌, ℕ, List, [], ◌∷◌, Option, Some, None, Result, sym, ◌∙◌, ap}
use Rattle.std.proofs.Common.{slice_index_or}
use Rattle.std.proofs.lemmas.List.{get_or-set_other, get_or-set_same}
use Rattle.debugger.proofs.Rooms.{closed_last}
use Rattle.debugger.specs.Answers.{answer, back_piece, change_piece, is_closed, saved_after}
use Rattle.debugger.specs.Laws.{BackLaw, LeaveSlot, SaveLaw, after_commands, back_to, save_in}
use Rattle.debugger.specs.Sessions.{SessionData, after_command}
use Rattle.debugger_commands.specs.declared.changes.Change.{Change}
use Rattle.debugger_commands.specs.declared.changes.Change.TheVariants as change
use Rattle.debugger_commands.specs.declared.commands.Command.{Command}
use Rattle.debugger_commands.specs.declared.commands.LineError.{LineError}
use Rattle.debugger_commands.specs.Commands.{change_of}
use Rattle.debugger_commands.specs.Settings.{Settings}
use Rattle.reference.specs.State.{State}
use Rattle.serving.specs.Conduct.{SessionState}
use Rattle.serving.specs.Pieces.{last_state}

pub save_law : (t : SessionState SessionData) (slot : ℕ) → SaveLaw t slot
save_law t slot =
    closed_last (is_closed t.kept.settings (save_in slot)) t.state
    (change_piece t.state t.kept.saved (change.Save slot) ∷ [])

-- what is saved in a slot stays there
saved_stays : (s : State) (saved : List (Option State)) (slot : ℕ) (what : Option Change) (o : Option State)
    → ¬ (what ≡ Some (change.Save slot)) → slice_index_or saved slot None ≡ o
    → slice_index_or (saved_after s saved what) slot None ≡ o
saved_stays s saved slot None o other e = e
saved_stays s saved slot (Some (change.Place value)) o other e = e
saved_stays s saved slot (Some (change.Signal how k)) o other e = e
saved_stays s saved slot (Some change.Nmi) o other e = e
saved_stays s saved slot (Some (change.Save k)) o other e =
    get_or-set_other saved k slot (Some s) None (λ same. other (ap (λ n. Some (change.Save n)) (sym same))) ∙ e
saved_stays s saved slot (Some (change.Back k)) o other e = e

all_stay : (t : SessionState SessionData) (slot : ℕ) (between : List (Result Command LineError)) (o : Option State)
    → LeaveSlot slot between → slice_index_or t.kept.saved slot None ≡ o
    → slice_index_or (after_commands t between).kept.saved slot None ≡ o
all_stay t slot [] o leave e = e
all_stay t slot (asked ∷ more) o leave e =
    all_stay (after_command t asked) slot more o leave.1
    (saved_stays t.state t.kept.saved slot (change_of asked) o leave.0 e)

back_state : (k : Settings) (s u : State) (saved : List (Option State)) (slot : ℕ)
    → slice_index_or saved slot None ≡ Some u → last_state s (answer s k saved (back_to slot)) ≡ u
back_state k s u saved slot e =
    closed_last (is_closed k (back_to slot)) s (change_piece s saved (change.Back slot) ∷ [])
    ∙ ap (λ (o : Option State). (back_piece s o).state) e

pub back_law : (t : SessionState SessionData) (slot : ℕ) (between : List (Result Command LineError))
    → BackLaw t slot between
back_law t slot between there leave =
    let first : SessionState SessionData = after_command t (save_in slot) in
    let last : SessionState SessionData = after_commands first between in
    back_state last.kept.settings last.state t.state last.kept.saved slot
    (all_stay first slot between (Some t.state) leave (get_or-set_same t.kept.saved slot (Some t.state) None there))
