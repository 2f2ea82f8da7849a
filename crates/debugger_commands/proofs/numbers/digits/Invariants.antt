use Rattle.std.proofs.Common.{◌≡◌, Some, drop}
use Rattle.debugger_commands.specs.Words.{with_digits}
use Rattle.debugger_commands.proofs.numbers.digits.Given as goal

-- the digits after the index decide
abbrev pub invariant-bytes : goal.invariant-bytes
invariant-bytes l = with_digits l.is_hex l.number (drop l.byte-index l.text) ≡ with_digits l.is_hex (Some 0) l.text
