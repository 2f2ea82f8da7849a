use Rattle.std.proofs.Common.{◌≡◌, ◌+◌, drop}
use Rattle.toml.specs.View.{items_view}
use Rattle.reasons.specs.Events.{first_refused}
use Rattle.reasons.proofs.events.script_problem.Given as goal

-- the first of all events that is refused is the first of those that are left
abbrev pub invariant-values : goal.invariant-values
invariant-values l =
    first_refused l.lines l.devices l.before (l.index + 1) (items_view (drop l.index l.values))
    ≡ first_refused l.lines l.devices 1 1 (items_view l.values)
