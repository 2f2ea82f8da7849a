use Rattle.std.proofs.Common.{◌≡◌, ◌≤◌}
use Rattle.access_map.specs.Notes.{notes_below}
use Rattle.access_map.proofs.notes.notes_of.Given as goal

-- the lines of the regions that were read
abbrev pub invariant-each : goal.invariant-each
invariant-each l = record {
  text : l.text.items ≡ notes_below l.number l.registers l.region;
  upto : l.region ≤ l.registers.count;
}
