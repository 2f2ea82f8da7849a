use Rattle.std.proofs.Common.{◌≡◌, ◌+◌, drop}
use Rattle.toml.specs.View.{items_view}
use Rattle.reasons.specs.Events.{first_with}
use Rattle.reasons.proofs.events.first_with.Given as goal

-- the first of all values with the key is the first of those that are left
abbrev pub invariant-values : goal.invariant-values
invariant-values l =
    first_with l.key (l.index + 1) (items_view (drop l.index l.values)) ≡ first_with l.key 1 (items_view l.values)
