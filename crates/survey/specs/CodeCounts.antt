-- How many instructions were carried out at each halfword of a memory, by code of each privilege.
use Rattle.std.specs.Prelude.{◌≡◌, ℕ, ◌+◌, ◌-◌, ◌*◌, ◌/◌, Bool, not, ◌&&◌, ◌==◌, nat_le, nat_lt, is_some}
use Rattle.std.specs.Prelude.{if◌then◌else◌, List, replicate, slice_index}
use Rattle.platform.specs.declared.access.DecidedAccess.{DecidedAccess}
use Rattle.platform.specs.Kinds.{is_fetch}
use Rattle.survey.specs.Counts.{counted_at, privilege_number}

-- a memory of `halfwords` halfwords from `base` on, with a counter for each halfword and privilege: first those of
-- unprivileged code, and then those of privileged code
pub record CodeCounts : Type 0 where
  pub base : ℕ
  pub halfwords : ℕ
  pub counters : List ℕ

-- nothing was counted in a memory of `size` bytes from `base` on
abbrev pub IsUncounted : ℕ → ℕ → CodeCounts → Type 0
IsUncounted base size c =
    (c.base ≡ base) × (c.halfwords ≡ size / 2) × (c.counters ≡ replicate (2 * (size / 2)) 0)

-- the number of the halfword at an address of the memory
abbrev pub halfword_of : CodeCounts → ℕ → ℕ
halfword_of c a = (a - c.base) / 2

-- whether the memory has a halfword at an address
abbrev pub has_halfword : CodeCounts → ℕ → Bool
has_halfword c a = nat_le c.base a && nat_lt (halfword_of c a) c.halfwords

-- the place of the counter of an address and a privilege
abbrev pub code_place : CodeCounts → Bool → ℕ → ℕ
code_place c privileged a = privilege_number privileged * c.halfwords + halfword_of c a

-- after an instruction of code of a privilege at an address
abbrev pub counted_code : CodeCounts → Bool → ℕ → CodeCounts
counted_code c privileged a =
    if has_halfword c a then record c { counters = counted_at c.counters (code_place c privileged a) } else c

-- an access is the fetch with which the instruction at `pc` begins, and was carried out
abbrev pub begins_instruction : ℕ → DecidedAccess → Bool
begins_instruction pc d = is_fetch d.access.kind && (not (is_some d.refused) && (d.access.address == pc))

-- after an access of a step that began at `pc`: an instruction is counted with the fetch of its first halfword
abbrev pub with_fetch : ℕ → CodeCounts → DecidedAccess → CodeCounts
with_fetch pc c d = if begins_instruction pc d then counted_code c d.access.privileged d.access.address else c

-- how many instructions of code of a privilege were counted at an address, 0 where the memory has no halfword
abbrev pub code_number : CodeCounts → Bool → ℕ → ℕ
code_number c privileged a =
    if has_halfword c a then slice_index c.counters (code_place c privileged a) else 0
