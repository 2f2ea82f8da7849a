use Rattle.std.proofs.Common.{◌≡◌, drop}
use Rattle.std.specs.List.{list_any}
use Rattle.messages.specs.Visible.{is_in}
use Rattle.messages.proofs.visible.is_in_one.Given as goal

-- the character is in one of the ranges just where it is in one of those that are left
abbrev pub invariant-each : goal.invariant-each
invariant-each l = list_any (is_in l.character) (drop l.range-index l.ranges) ≡ list_any (is_in l.character) l.ranges
