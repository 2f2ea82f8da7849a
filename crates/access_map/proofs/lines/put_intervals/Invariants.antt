use Rattle.std.proofs.Common.{◌≡◌, ◌++◌, drop}
use Rattle.access_map.specs.Lines.{map_lines}
use Rattle.access_map.proofs.lines.put_intervals.Given as goal

-- the lines that were added and those that are left are all lines
abbrev pub invariant-each : goal.invariant-each
invariant-each l =
    l.text.items ++ map_lines l.number l.place (drop l.interval-index l.intervals)
    ≡ l.fn.text.items ++ map_lines l.number l.place l.intervals
