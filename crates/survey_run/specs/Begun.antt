-- What a step begins with, and the events so far.
use Rattle.std.specs.Prelude.{ℕ, List, map, [], None, false}
use Rattle.platform.specs.declared.event.Event.{Event}
use Rattle.platform.specs.Regions.{fresh}
use Rattle.trace.specs.Emission.{Emission}
use Rattle.survey.specs.declared.step_start.StepStart.{StepStart}
use Rattle.survey.specs.declared.survey.Survey.{Survey}
use Rattle.survey.specs.Cells.{Cells}
use Rattle.survey.specs.CodeCounts.{CodeCounts}

abbrev pub no_step_start : StepStart
no_step_start = record { pc = 0; exception = 0; privileged = false; asleep = false; mpu = fresh 8 }

abbrev pub no_cells : Cells
no_cells = record { base = 0; size = 0; width = 0; marks = [] }

abbrev pub no_code : CodeCounts
no_code = record { base = 0; halfwords = 0; counters = [] }

abbrev pub no_survey : Survey
no_survey = record {
  counts = [];
  settings = record { rows = []; used = 0; others = 0 };
  faults = record { rows = []; used = 0; number = 0; missed = false; refused = None };
  flash = no_cells;
  ram = no_cells;
  flash_code = no_code;
  ram_code = no_code;
  timeline = record { columns = []; used = 0; column_ticks = 1; filled = 1; handlers = [] };
  console = record { bytes = []; used = 0; number = 0 };
  steps = 0;
}

-- the events of pairs of which each event is the second
abbrev pub events_of : List (Unit {0} × Event) → List Event
events_of items = map (λ entry. entry.1) items

-- what a sink that has taken these events shows, over a survey that is borrowed under a name
abbrev pub emission : ℕ → List (Unit {0} × Event) → Emission
emission name items = record { writer = name; written = None; errors = 0; events = events_of items }
