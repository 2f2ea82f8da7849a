-- What the text says of the worlds that were counted holds for those of the reference machine's run.
use Rattle.std.proofs.Common.{◌≡◌, ◌∙◌, ap, ℕ, List, Result}
use Rattle.access_map.specs.Counting.{Worlds, no_worlds}
use Rattle.command.specs.declared.error.Error.{Error}
use Rattle.command.specs.declared.tasks_command.TasksResult.{TasksResult}
use Rattle.command.specs.Tasks.{WritesTasks, name_in_file}
use Rattle.mpu.specs.declared.spans.Span.{Span}
use Rattle.output.specs.Output.{Writing}
use Rattle.platform.specs.Boards.{Numbers}
use Rattle.platform.specs.declared.stop.Stop.{Stop}
use Rattle.reference.specs.Run.{ending_of}
use Rattle.reference.specs.State.{State}
use Rattle.symbols.specs.Tables.{places_of, strings_in, symbols_in}
use Rattle.symbols.specs.declared.symbol.Symbol.{Symbol}
use Rattle.survey_run.specs.WorldRuns.{worlds_after}
use Rattle.access_map.specs.Names.{shown_name}

pub tasks_run : (board : Numbers) (file : List ℕ) (steps : ℕ) (items : List Span) (s : State) (strings : List ℕ)
    (symbols : List Symbol) (allowed : List Span) (v : Worlds) (why : Stop) (old new : Writing)
    (result : Result TasksResult Error) → strings ≡ strings_in file (places_of file)
    → symbols ≡ symbols_in file (places_of file) → allowed ≡ items → v ≡ worlds_after steps s no_worlds
    → why ≡ ending_of steps s → WritesTasks board (shown_name strings symbols) allowed v why old new result
    → WritesTasks board (name_in_file file) items (worlds_after steps s no_worlds) (ending_of steps s) old new result
tasks_run board file steps items s strings symbols allowed v why old new result e f g h k writes =
    rw (← e, ← f, ← g, ← h, ← k) writes

-- the worlds after a run that began with none
pub counted_from_none : (steps : ℕ) (s : State) (v w first : Worlds) → v ≡ w → w ≡ worlds_after steps s first
    → first ≡ no_worlds → v ≡ worlds_after steps s no_worlds
counted_from_none steps s v w first same counted none =
    same ∙ counted ∙ ap (λ (u : Worlds). worlds_after steps s u) none
