-- What the firmware printed: the first 65,536 bytes, and the number of all.
use Rattle.std.specs.Prelude.{ℕ, ◌+◌, nat_lt, if◌then◌else◌, List, Option, Some, None, slice_set}
use Rattle.survey.specs.Counts.{one_more}

-- What was printed so far. Of the 65,536 places of `bytes` the first `used` are bytes that were printed.
pub record Console : Type 0 where
  pub bytes : List ℕ
  pub used : ℕ
  -- how many bytes were printed
  pub number : ℕ

-- how many bytes are kept at most
abbrev pub max_bytes : ℕ
max_bytes = 65536

-- a byte is kept, where there is a place for it
abbrev pub kept : Console → ℕ → Console
kept c byte =
    if nat_lt c.used max_bytes then record c { bytes = slice_set c.bytes c.used byte; used = c.used + 1 } else c

-- after a byte that was printed
abbrev pub with_byte : Console → ℕ → Console
with_byte c byte = kept (record c { number = one_more c.number }) byte

-- after a byte that was printed, if there is one
abbrev pub with_any_byte : Console → Option ℕ → Console
with_any_byte c None = c
with_any_byte c (Some byte) = with_byte c byte
