-- What the answers to `run n` and `task n` say of a run, that commands which show leave all as it is, and what `back k`
-- goes back to.
use Rattle.std.specs.Prelude.{◌≡◌, ℕ, zero, suc, ◌+◌, ◌-◌, ◌<◌, ◌≤◌, true, false, ◌||◌, if◌then◌else◌, is_some, List}
use Rattle.std.specs.Prelude.{[], ◌∷◌, ◌++◌, length, Option, Some, None, Result, Ok}
use Rattle.debugger.specs.Answers.{answer, end_piece, is_hit, run_pieces, task_pieces, task_text}
use Rattle.debugger.specs.Sessions.{SessionData, after_command}
use Rattle.debugger_commands.specs.declared.changes.Change.TheVariants as change
use Rattle.debugger_commands.specs.declared.commands.Command.{Command}
use Rattle.debugger_commands.specs.declared.commands.Command.TheVariants as command
use Rattle.debugger_commands.specs.declared.commands.LineError.{LineError}
use Rattle.debugger_commands.specs.declared.commands.Part.{Part}
use Rattle.debugger_commands.specs.Commands.{change_of, part_of}
use Rattle.debugger_commands.specs.Conditions.{is_plain, written}
use Rattle.debugger_commands.specs.Settings.{Settings, settings_after, without_conditions}
use Rattle.debugger_commands.specs.Texts.{end_text}
use Rattle.reference.specs.Invariant.{Invariant}
use Rattle.reference.specs.Run.{after, events_of}
use Rattle.reference.specs.State.{State}
use Rattle.reference.specs.Step.{step}
use Rattle.platform.specs.Events.{lines}
use Rattle.task_laws.specs.declared.task.TaskEnd.{TaskEnd}
use Rattle.task_laws.specs.Sight.{Same}
use Rattle.task_laws.specs.Tasks.{AreInstructions, EndsTask, is_task}
use Rattle.serving.specs.Conduct.{SessionState}
use Rattle.serving.specs.Pieces.{Piece, last_state, texts}

-- the pieces are those of a run of at most n steps: `steps` steps were made, each of them an Instruction step; their
-- lines come first and then why the run ended, and the machine is in the state after them
pub record SaysHowItRan (k : Settings) (n : ℕ) (s : State) (pieces : List Piece) : Type 0 where
  pub steps : ℕ
  pub end : TaskEnd
  pub few : steps ≤ n
  pub instructions : AreInstructions steps s
  pub ends : EndsTask n steps (after steps s) end
  pub state : last_state s pieces ≡ after steps s
  pub text : texts pieces ≡ lines (written (without_conditions k) (events_of steps s)) ++ task_text end

abbrev pub TaskLaw : Settings → ℕ → State → Type 0
TaskLaw k n s = is_some s.stop || is_task s ≡ true → SaysHowItRan k n s (task_pieces k n s)

-- two answers have the same text, and the states by their ends look the same to a task
pub record SayTheSame (s t : State) (one two : List Piece) : Type 0 where
  pub text : texts two ≡ texts one
  pub same : Same (last_state s one) (last_state t two)

-- so do the answers to `task n` from two states that look the same to a task
abbrev pub TaskAnswersLaw : Settings → ℕ → State → State → Type 0
TaskAnswersLaw k n s t = Invariant s → Same s t → SayTheSame s t (task_pieces k n s) (task_pieces k n t)

-- ---- runs that only breakpoints end

-- one step, with all its lines
abbrev pub whole_step : State → Piece
whole_step s = record { state = (step s).state; text = lines (step s).events }

-- where the machine is
abbrev pub place_piece : State → Piece
place_piece s = record { state = s; text = end_text s.registers.pc s.stop }

unfoldable pub plain_on : List ℕ → ℕ → State → List Piece
plain_on breakpoints zero s = place_piece s ∷ []
plain_on breakpoints (suc n) s =
    if is_some s.stop || is_hit breakpoints s then place_piece s ∷ []
    else whole_step s ∷ plain_on breakpoints n (step s).state

-- a run of at most n steps with all lines: a breakpoint is tested before each step but the first
abbrev pub plain_run : List ℕ → ℕ → State → List Piece
plain_run breakpoints n s =
    if is_some s.stop then place_piece s ∷ []
    else whole_step s ∷ plain_on breakpoints (n - 1) (step s).state

-- where every line is chosen and nothing but breakpoints is set, in a session without scripts, this is the answer
abbrev pub PlainRunLaw : Settings → ℕ → State → Type 0
PlainRunLaw k n s = is_plain k ≡ true → k.is_script ≡ false → run_pieces k n s ≡ plain_run k.breakpoints n s

-- ---- runs in parts

-- the pieces of a run of a steps are `front` and an end, and those of one of a + b are `front` and the pieces of a run
-- of b from there
pub record JoinsTo (k : Settings) (a b : ℕ) (s : State) : Type 0 where
  pub front : List Piece
  pub first : run_pieces k a s ≡ front ++ end_piece k None (last_state s front) ∷ []
  pub both : run_pieces k (a + b) s ≡ front ++ run_pieces k b (last_state s front)

-- so it is where nothing is set that ends a run
abbrev pub PartsLaw : Settings → ℕ → ℕ → State → Type 0
PartsLaw k a b s = 0 < a → 0 < b → is_plain k ≡ true → k.breakpoints ≡ [] → JoinsTo k a b s

-- ---- commands that show a part of the machine

-- they leave the machine's state and the settings, whatever was saved
abbrev pub ShowLaw : Settings → State → List (Option State) → Result Command LineError → Part → Type 0
ShowLaw k s saved asked what =
    part_of asked ≡ Some what → (last_state s (answer s k saved asked) ≡ s) × (settings_after k asked ≡ k)

-- ---- saved states

-- the command `save k`, and `back k`
abbrev pub save_in : ℕ → Result Command LineError
save_in slot = Ok (command.Change (change.Save slot))

abbrev pub back_to : ℕ → Result Command LineError
back_to slot = Ok (command.Change (change.Back slot))

-- a state that is saved stays the machine's
abbrev pub SaveLaw : SessionState SessionData → ℕ → Type 0
SaveLaw t slot = (after_command t (save_in slot)).state ≡ t.state

abbrev pub after_commands : SessionState SessionData → List (Result Command LineError) → SessionState SessionData
after_commands t [] = t
after_commands t (asked ∷ more) = after_commands (after_command t asked) more

-- no command saves a state in a slot
abbrev pub LeaveSlot : ℕ → List (Result Command LineError) → Type 0
LeaveSlot slot [] = Unit {0}
LeaveSlot slot (asked ∷ more) = ¬ (change_of asked ≡ Some (change.Save slot)) × LeaveSlot slot more

-- `back k` goes back to the state that `save k` saved, whatever comes between that doesn't save another one there
abbrev pub BackLaw : SessionState SessionData → ℕ → List (Result Command LineError) → Type 0
BackLaw t slot between =
    slot < length t.kept.saved → LeaveSlot slot between
    → (after_command (after_commands (after_command t (save_in slot)) between) (back_to slot)).state ≡ t.state
