-- The local monitor of exclusive accesses (ARM DDI 0403, the pseudocode of SetExclusiveMonitors(),
-- ExclusiveMonitorsPass() and ClearExclusiveLocal()). It marks one address with one size (profile).
use Rattle.std.specs.Prelude.{ℕ, Bool, false, ◌&&◌, ◌==◌, Option, Some, None}
use Rattle.instruction_set.specs.declared.registers.Marked.{Marked}
use Rattle.instruction_set.specs.declared.size.Size.{Size}
use Rattle.instruction_set.specs.Registers.{Registers}
use Rattle.instruction_set.specs.Sizes.{bytes_in}

-- whether what is marked is that address with that size
abbrev pub is_marked_with : Option Marked → ℕ → Size → Bool
is_marked_with None address size = false
is_marked_with (Some m) address size = m.address == address && bytes_in m.size == bytes_in size

-- ExclusiveMonitorsPass() without its checks of alignment and permission
abbrev pub is_marked : Registers → ℕ → Size → Bool
is_marked r address size = is_marked_with r.monitor address size

-- SetExclusiveMonitors()
abbrev pub with_mark : Registers → ℕ → Size → Registers
with_mark r address size = record r { monitor = Some (record { address = address; size = size }) }

-- ClearExclusiveLocal()
abbrev pub without_mark : Registers → Registers
without_mark r = record r { monitor = None }
