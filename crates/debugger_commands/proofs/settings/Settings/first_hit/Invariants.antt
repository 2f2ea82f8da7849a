use Rattle.std.proofs.Common.{◌≡◌, drop}
use Rattle.debugger_commands.specs.Conditions.{first_hit}
use Rattle.debugger_commands.proofs.settings.Settings.first_hit.Given as goal

-- what is hit first by all events is hit first by those that are left
abbrev pub invariant-events : goal.invariant-events
invariant-events l = first_hit l.self (drop l.event-index l.events) ≡ first_hit l.self l.events
