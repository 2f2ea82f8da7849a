-- What is where, for lldb (LLDB's extensions of the protocol, qMemoryRegionInfo).
use Rattle.std.specs.Prelude.{ℕ, ◌^◌, nat_lt, if◌then◌else◌, List, [], ◌∷◌, ◌++◌, codes}
use Rattle.devices.specs.declared.device.Device.{Device}
use Rattle.platform.specs.Boards.{Numbers}
use Rattle.gdb_texts.specs.declared.stretch.Stretch.{Stretch}
use Rattle.gdb_texts.specs.Stretches.{all_of, distance, permissions, size_of}
use Rattle.gdb_texts.specs.Transfers.{hex_number}

-- a region: its start, its size, and what may be done there
abbrev pub region_text : ℕ → ℕ → List ℕ → List ℕ
region_text start size permissions =
    ((((codes "start:" ++ hex_number start) ++ codes ";size:") ++ hex_number size) ++ codes ";") ++ permissions

-- where nothing is: a gap has no permissions
abbrev pub gap_text : ℕ → ℕ → List ℕ
gap_text start end = region_text start (distance start end) []

-- what is at an address: one of these stretches, or a gap; `from` is the first address after the stretch before them
abbrev pub region_in : ℕ → List Stretch → ℕ → List ℕ
region_in from [] a = gap_text from (2 ^ 32)
region_in from (s ∷ others) a =
    if nat_lt a s.base then gap_text from s.base
    else if nat_lt a s.end then region_text s.base (size_of s) (permissions s.kind)
    else region_in s.end others a

-- the region of an address: memory, registers, or the gap between two of them
unfoldable pub region_at : Numbers → List Device → ℕ → List ℕ
region_at board devices a = region_in 0 (all_of board devices) a
