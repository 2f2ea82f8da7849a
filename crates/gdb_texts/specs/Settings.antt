-- The settings of a session, which `monitor` changes (profile).
use Rattle.std.specs.Prelude.{ℕ, Bool, true, false, ◌==◌, if◌then◌else◌, Option, Some, None}
use Rattle.debugger_commands.specs.declared.conditions.Condition.{Condition}
use Rattle.debugger_commands.specs.declared.conditions.Condition.TheVariants as condition
use Rattle.debugger_commands.specs.declared.conditions.LineSelection.TheVariants.{Console}
use Rattle.gdb_texts.specs.declared.monitor.Monitor.{Monitor}
use Rattle.gdb_texts.specs.declared.monitor.Monitor.TheVariants as monitor
use Rattle.gdb_texts.specs.declared.settings.Settings.{Settings}

-- before the first command: the bytes that the firmware prints, lines that tell why, nothing that stops a run
abbrev pub first_settings : Settings
first_settings = record {
  selection = Console;
  has_lines = true;
  refused = false;
  faults = false;
  exceptions = false;
  steps_over = false;
  budget = None;
}

abbrev pub with_condition : Settings → Condition → Bool → Settings
with_condition s condition.Refused on = record s { refused = on }
with_condition s condition.Faults on = record s { faults = on }
with_condition s condition.Exceptions on = record s { exceptions = on }

-- after a command
abbrev pub settings_after : Settings → Monitor → Settings
settings_after s monitor.Help = s
settings_after s (monitor.Explain a privileged kind) = s
settings_after s monitor.Regions = s
settings_after s monitor.State = s
settings_after s monitor.Next = s
settings_after s monitor.History = s
settings_after s (monitor.Trace selection) = record s { selection = selection }
settings_after s (monitor.Lines on) = record s { has_lines = on }
settings_after s (monitor.Stop what on) = with_condition s what on
settings_after s (monitor.Step over) = record s { steps_over = over }
settings_after s (monitor.Budget steps) = record s { budget = Some steps }
settings_after s (monitor.Place place) = s
settings_after s monitor.Restart = s
settings_after s monitor.Why = s

-- the most steps of a run, None where there is no limit. GDB can interrupt a run, so it has no limit at first; another
-- client has one of 50,000,000 steps
abbrev pub steps_in : Option ℕ → Bool → Option ℕ
steps_in None is_gdb = if is_gdb then None else Some 50000000
steps_in (Some steps) is_gdb = if steps == 0 then None else Some steps

abbrev pub max_steps : Settings → Bool → Option ℕ
max_steps s is_gdb = steps_in s.budget is_gdb
