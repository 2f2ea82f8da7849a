-- The state before the first step stays kept after a command.
use Rattle.std.proofs.Common.{◌≡◌, Bool, true, false, [], ◌∷◌, Option, Some, None, Result, Ok, Err, refl}
use Rattle.std.proofs.KnownBytes.{Appends-nil}
use Rattle.debugger_commands.specs.declared.commands.LineError.{LineError}
use Rattle.gdb_past.specs.Places.{Past}
use Rattle.gdb_server.specs.Conduct.{past_after, past_by, piece}
use Rattle.gdb_server.specs.Writes.{Written}
use Rattle.gdb_texts.specs.declared.monitor.Monitor.{Monitor}
use Rattle.gdb_texts.specs.declared.monitor.Monitor.TheVariants as monitor
use Rattle.machine.specs.MachineModel.{MachineModel}
use Rattle.output.specs.Output.{Writing}
use Rattle.platform.specs.declared.error.PlaceError.{PlaceError}
use Rattle.reference.specs.State.{State}
use Rattle.serving.specs.Pieces.{DeliversAll}

-- the machine is in another state, and nothing is written
pub moved : (s : State) (old new : MachineModel) (a : Writing) → new ≡ record old { state = s }
    → DeliversAll (piece s [] ∷ []) old new a a
moved s old new a stands = record { went = Appends-nil a.written; stands = stands; quiet = refl }

after_keeps : (past : Past) (something : Bool) (s : State) (o : Option PlaceError)
    → (past_after past something s o).start ≡ past.start
after_keeps past true s None = refl
after_keeps past false s None = refl
after_keeps past something s (Some error) = refl

pub by_keeps : (past : Past) (w : Written) (asked : Result Monitor LineError) → (past_by past w asked).start
    ≡ past.start
by_keeps past w (Ok monitor.Help) = refl
by_keeps past w (Ok (monitor.Explain a privileged kind)) = refl
by_keeps past w (Ok monitor.Regions) = refl
by_keeps past w (Ok monitor.State) = refl
by_keeps past w (Ok monitor.Next) = refl
by_keeps past w (Ok monitor.History) = refl
by_keeps past w (Ok (monitor.Trace selection)) = refl
by_keeps past w (Ok (monitor.Lines on)) = refl
by_keeps past w (Ok (monitor.Stop what on)) = refl
by_keeps past w (Ok (monitor.Step over)) = refl
by_keeps past w (Ok (monitor.Budget steps)) = refl
by_keeps past w (Ok (monitor.Place place)) = after_keeps past true w.state w.refused
by_keeps past w (Ok monitor.Restart) = refl
by_keeps past w (Ok monitor.Why) = refl
by_keeps past w (Err why) = refl
