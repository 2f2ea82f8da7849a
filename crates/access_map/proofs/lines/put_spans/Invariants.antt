use Rattle.std.proofs.Common.{◌≡◌, ◌++◌, drop}
use Rattle.access_map.specs.Lines.{shares_lines}
use Rattle.access_map.proofs.lines.put_spans.Given as goal

-- the lines that were added and those that are left are all lines
abbrev pub invariant-each : goal.invariant-each
invariant-each l =
    l.text.items ++ shares_lines l.number l.other (drop l.span-index l.spans)
    ≡ l.fn.text.items ++ shares_lines l.number l.other l.spans
