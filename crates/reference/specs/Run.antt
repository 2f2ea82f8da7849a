-- A run: steps, one after another, to the first stop or the limit.
use Rattle.std.specs.Prelude.{ℕ, zero, suc, List, [], ◌++◌, unwrap_or}
use Rattle.platform.specs.declared.event.Event.{Event}
use Rattle.platform.specs.declared.stop.Stop.{Stop}
use Rattle.platform.specs.declared.stop.Stop.TheVariants.{StepLimit}
use Rattle.reference.specs.State.{State}
use Rattle.reference.specs.Step.{step}
use Rattle.platform.specs.Events.{lines}
use Rattle.platform.specs.Text.{stop_line}

-- the state after n steps: a stopped machine stays as it is
unfoldable pub after : ℕ → State → State
after zero s = s
after (suc n) s = (step (after n s)).state

-- the events of n steps; a stopped machine has none
unfoldable pub events_of : ℕ → State → List Event
events_of zero s = []
events_of (suc n) s = events_of n s ++ (step (after n s)).events

-- the stop of a run of at most n steps (an `Ending` is another thing: how an instruction ends)
abbrev pub ending_of : ℕ → State → Stop
ending_of n s = unwrap_or (after n s).stop StepLimit

-- the text of a run of at most n steps
unfoldable pub trace : ℕ → State → List ℕ
trace n s = lines (events_of n s) ++ stop_line (ending_of n s)
