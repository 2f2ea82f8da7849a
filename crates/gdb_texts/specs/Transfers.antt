-- Texts that GDB reads in pieces (GDB manual, "General Query Packets", qXfer; "Target Descriptions"; "Memory Map
-- Format").
use Rattle.std.specs.Prelude.{ℕ, min, nat_lt, nat_le, ◌==◌, if◌then◌else◌, List, [], ◌∷◌, ◌++◌, length, take, drop}
use Rattle.std.specs.Prelude.{codes}
use Rattle.devices.specs.declared.device.Device.{Device}
use Rattle.platform.specs.Boards.{Numbers}
use Rattle.gdb_texts.specs.Replies.{error_text}
use Rattle.gdb_texts.specs.Stops.{number_digits}
use Rattle.gdb_texts.specs.Stretches.{rams_of, size_of}
use Rattle.gdb_texts.specs.declared.stretch.Stretch.{Stretch}
use Rattle.gdb_texts.specs.declared.replies.ErrorCode.TheVariants.{Malformed}
use Rattle.gdb_texts.specs.declared.transfers.TheConstants.{DESCRIPTION, MAP_HEAD, MAP_TAIL}

-- ---- pieces

-- the most bytes of a piece (profile)
abbrev pub max_piece : ℕ
max_piece = 4095

-- `l` and the rest of a text, where it has at most `count` bytes, or else `m` and its first `count` bytes
abbrev pub piece_of : List ℕ → ℕ → List ℕ
piece_of rest count = if nat_le (length rest) count then codes "l" ++ rest else codes "m" ++ take count rest

-- the reply to a request for `count` bytes from an offset on
abbrev pub piece_text : List ℕ → ℕ → ℕ → List ℕ
piece_text text offset count =
    if nat_lt (length text) offset then error_text Malformed else piece_of (drop offset text) (min count max_piece)

-- ---- target.xml: the registers, those of GDB's features `m-profile` and `m-system`

unfoldable pub description : List ℕ
description = DESCRIPTION.now

-- ---- the memory map: flash, and as RAM the RAMs, devices, the device window and the Private Peripheral Bus

-- digits without zeros in front
unfoldable pub without_zeros : List ℕ → List ℕ
without_zeros [] = []
without_zeros (digit ∷ digits) = if digit == 48 then without_zeros digits else digit ∷ digits

-- a number in hexadecimal, without zeros in front
unfoldable pub hex_number : ℕ → List ℕ
hex_number n = if n == 0 then codes "0" else without_zeros (number_digits n)

-- the end of a block's line
abbrev pub block_end : List ℕ
block_end = codes "\"/>" ++ 10 ∷ []

-- a block of memory, by the text in front of its start
abbrev pub block_text : List ℕ → ℕ → ℕ → List ℕ
block_text before start size =
    (((before ++ hex_number start) ++ codes "\" length=\"0x") ++ hex_number size) ++ block_end

abbrev pub rom : List ℕ
rom = codes "<memory type=\"rom\" start=\"0x"

abbrev pub ram : List ℕ
ram = codes "<memory type=\"ram\" start=\"0x"

abbrev pub ram_text : Stretch → List ℕ
ram_text s = block_text ram s.base (size_of s)

abbrev pub rams_text : List Stretch → List ℕ
rams_text [] = []
rams_text (s ∷ others) = ram_text s ++ rams_text others

unfoldable pub memory_map : Numbers → List Device → List ℕ
memory_map board devices =
    ((MAP_HEAD.now ++ block_text rom board.flash_base board.flash_size) ++ rams_text (rams_of board devices))
    ++ MAP_TAIL.now
