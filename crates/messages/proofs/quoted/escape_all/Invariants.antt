use Rattle.std.proofs.Common.{◌≡◌}
use Rattle.std.specs.Str.{IsUtf8, chars}
use Rattle.std.specs.Str.Iter.{chars_rest}
use Rattle.messages.specs.Clips.{empty, joined}
use Rattle.messages.specs.Visible.{visible}
use Rattle.messages.proofs.quoted.escape_all.Given as goal

abbrev pub invariant-characters : goal.invariant-characters
invariant-characters l =
    IsUtf8 (chars_rest l.character-iterator)
    × (joined 198 visible l.shown (chars (chars_rest l.character-iterator))
    ≡ joined 198 visible empty (chars l.fn.text))
