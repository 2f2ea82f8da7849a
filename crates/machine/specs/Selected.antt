-- What a run that writes a selection of its events leaves where a writer cuts it short.
use Rattle.std.specs.Prelude.{ℕ}
use Rattle.machine.specs.declared.machine.RunError.{RunError}
use Rattle.machine.specs.Runs.{FailsIn, Leaves}
use Rattle.target.specs.MachineModel.{MachineModel}
use Rattle.output.specs.Output.{Writing}
use Rattle.reference.specs.Run.{events_of, ending_of}
use Rattle.reference.specs.State.{State}
use Rattle.trace.specs.declared.selection.TraceSelection.{TraceSelection}
use Rattle.trace.specs.Selection.{selected_end, selected_text}

-- what a run of at most n steps leaves that was cut short after `steps` of them
abbrev pub SelectedLeaves : TraceSelection → ℕ → State → ℕ → Writing → Writing → State → Type 0
SelectedLeaves selection n s steps old new last =
    Leaves (selected_text selection) (selected_end selection (events_of n s) (ending_of n s)) n s steps old new last

-- a run failed
abbrev pub SelectedFails : TraceSelection → ℕ → MachineModel → MachineModel → Writing → Writing → RunError → Type 0
SelectedFails selection n old new out out' error =
    FailsIn (selected_text selection) (selected_end selection (events_of n old.state) (ending_of n old.state)) n old new
    out out' error
