use Rattle.std.proofs.Common.{◌≡◌, ◌≤◌, [], drop}
use Rattle.std.specs.List.{slice_range}
use Rattle.gdb_texts.specs.Actions.{first_ours}
use Rattle.gdb_texts.specs.Parts.{parts_from, semicolon}
use Rattle.gdb_texts.proofs.actions.read_actions.Given as goal

-- the part that was begun, and the bytes after the index, decide
abbrev pub invariant-bytes : goal.invariant-bytes
invariant-bytes l = record {
  order : l.start ≤ l.index;
  rest :
      first_ours (parts_from semicolon (slice_range l.tail l.start l.index) (drop l.index l.tail))
      ≡ first_ours (parts_from semicolon [] l.tail);
}
