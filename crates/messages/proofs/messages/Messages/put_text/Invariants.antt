use Rattle.std.proofs.Common.{◌≡◌}
use Rattle.std.specs.Str.{IsUtf8, chars}
use Rattle.std.specs.Str.Iter.{chars_rest}
use Rattle.messages.specs.Clips.{left_after, with_characters}
use Rattle.messages.proofs.messages.Messages.put_text.Given as goal

abbrev pub invariant-characters : goal.invariant-characters
invariant-characters g l =
    IsUtf8 (chars_rest l.character-iterator)
    × (with_characters l.self.line (chars (chars_rest l.character-iterator))
    ≡ with_characters l.fn.self.line (chars l.fn.text))
    × (left_after l.self.lines_left (chars (chars_rest l.character-iterator))
    ≡ left_after l.fn.self.lines_left (chars l.fn.text))
