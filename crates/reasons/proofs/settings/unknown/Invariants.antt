use Rattle.std.proofs.Common.{◌≡◌, map}
use Rattle.toml.specs.View.{members_view}
use Rattle.board.specs.Values.{has_only}
use Rattle.reasons.proofs.settings.unknown.Given as goal

-- all keys are known just where those that are left are
abbrev pub invariant-members : goal.invariant-members
invariant-members l =
    has_only (map (λ key. key.now) l.known) (members_view l.key-iterator)
    ≡ has_only (map (λ key. key.now) l.known) (members_view l.table.entries)
