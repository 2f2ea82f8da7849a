use Rattle.std.proofs.Common.{◌≡◌}
use Rattle.std.specs.Str.{IsUtf8, chars}
use Rattle.std.specs.Str.Iter.{chars_rest}
use Rattle.messages.specs.Clips.{empty, in_quotes, joined}
use Rattle.messages.proofs.quoted.quote_all.Given as goal

abbrev pub invariant-characters : goal.invariant-characters
invariant-characters l =
    IsUtf8 (chars_rest l.character-iterator)
    × (joined 198 in_quotes l.shown (chars (chars_rest l.character-iterator))
    ≡ joined 198 in_quotes empty (chars l.fn.text))
