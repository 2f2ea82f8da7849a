use Rattle.std.proofs.Common.{◌≡◌, ◌<◌, ◌^◌, drop}
use Rattle.encodings.proofs.pattern.field.Given as goal
use Rattle.instruction_set.specs.Patterns.{joined_field, field}

abbrev pub invariant-loop-i : goal.invariant-loop-i
invariant-loop-i l = record {
  rest : joined_field l.letter (drop l.i l.places) l.x l.field ≡ field l.places l.x l.letter;
  small : l.field < 2 ^ l.i;
}
