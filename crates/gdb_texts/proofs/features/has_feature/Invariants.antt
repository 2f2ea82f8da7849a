use Rattle.std.proofs.Common.{◌≡◌, ◌≤◌, [], drop}
use Rattle.std.specs.Prelude.{bytes_eq}
use Rattle.std.specs.List.{list_any, slice_range}
use Rattle.gdb_texts.specs.Parts.{parts_from, semicolon}
use Rattle.gdb_texts.proofs.features.has_feature.Given as goal

-- the part that was begun, and the bytes after the index, decide
abbrev pub invariant-bytes : goal.invariant-bytes
invariant-bytes l = record {
  order : l.start ≤ l.index;
  rest :
      list_any (λ part. bytes_eq part l.name)
      (parts_from semicolon (slice_range l.text l.start l.index) (drop l.index l.text))
      ≡ list_any (λ part. bytes_eq part l.name) (parts_from semicolon [] l.text);
}
