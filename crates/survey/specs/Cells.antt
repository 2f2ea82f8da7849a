-- Which cells of a memory were touched, by whom and how. A cell is a block of 32, 64, .. 1,024 bytes.
use Rattle.std.specs.Prelude.{◌≡◌, ℕ, ◌+◌, ◌-◌, ◌*◌, ◌/◌, ◌^◌, Bool, true, ◌&&◌, nat_le, nat_lt, if◌then◌else◌, List}
use Rattle.std.specs.Prelude.{Option}
use Rattle.std.specs.Prelude.{Some, None, replicate, slice_set, slice_index_or, false}
use Rattle.instruction_set.specs.Sizes.{bytes_in}
use Rattle.platform.specs.declared.access.Cause.{Cause}
use Rattle.platform.specs.declared.access.DecidedAccess.{DecidedAccess}
use Rattle.platform.specs.declared.access.Kind.{Kind}
use Rattle.platform.specs.declared.access.Kind.TheVariants.{Fetch, Load, Store, Push, Pop, Vector, Probe}
use Rattle.survey.specs.declared.touch.Touch.{Touch}
use Rattle.survey.specs.declared.touch.Touch.TheVariants.{Read, Written, Executed, Refused}
use Rattle.survey.specs.Counts.{privilege_number}

-- a memory of `size` bytes from `base` on, in cells of 2 ^ width bytes, with a mark for each cell and each way in which
-- it can be touched
pub record Cells : Type 0 where
  pub base : ℕ
  pub size : ℕ
  pub width : ℕ
  pub marks : List Bool

-- how many cells there are at most
abbrev pub max_cells : ℕ
max_cells = 1024

-- the width of the cells of a memory: the least for which there are enough cells
abbrev pub width_of : ℕ → ℕ
width_of size =
    if nat_le size (32 * 1024) then 5
    else if nat_le size (64 * 1024) then 6
    else if nat_le size (128 * 1024) then 7
    else if nat_le size (256 * 1024) then 8
    else if nat_le size (512 * 1024) then 9
    else 10

-- the cells are those of a memory of `size` bytes from `base` on, and none was touched
abbrev pub IsUntouched : ℕ → ℕ → Cells → Type 0
IsUntouched base size c =
    (c.base ≡ base) × (c.size ≡ size) × (c.width ≡ width_of size) × (c.marks ≡ replicate 8192 false)

-- what an access does to the memory that it touches; a probe that is granted does nothing
abbrev pub touch_of : Kind → Option Cause → Option Touch
touch_of kind (Some cause) = Some Refused
touch_of Fetch None = Some Executed
touch_of Load None = Some Read
touch_of Store None = Some Written
touch_of Push None = Some Written
touch_of Pop None = Some Read
touch_of Vector None = Some Read
touch_of Probe None = None

abbrev pub touch_number : Touch → ℕ
touch_number Read = 0
touch_number Written = 1
touch_number Executed = 2
touch_number Refused = 3

-- the place of the mark of a cell that code of a privilege touched so
abbrev pub mark_of : Bool → Touch → ℕ → ℕ
mark_of privileged touch cell = (privilege_number privileged * 4 + touch_number touch) * max_cells + cell

-- whether the memory has a byte at an address
abbrev pub has_byte : Cells → ℕ → Bool
has_byte c a = nat_le c.base a && nat_lt a (c.base + c.size)

-- the cell of an address of the memory
abbrev pub cell_of : Cells → ℕ → ℕ
cell_of c a = (a - c.base) / 2 ^ c.width

-- after code of a privilege touched the byte at an address
abbrev pub touched_at : Cells → Bool → Touch → ℕ → Cells
touched_at c privileged touch a =
    if has_byte c a then record c { marks = slice_set c.marks (mark_of privileged touch (cell_of c a)) true } else c

-- the last byte of an access, as a whole number
abbrev pub last_byte : DecidedAccess → ℕ
last_byte d = d.access.address + (bytes_in d.access.size - 1)

-- after it touched the bytes at two addresses
abbrev pub touched_both : Cells → Bool → Touch → ℕ → ℕ → Cells
touched_both c privileged touch first last = touched_at (touched_at c privileged touch first) privileged touch last

-- after an access that touches memory so: it has at most four bytes, which lie in the cells of its first and last byte
abbrev pub touched : Cells → DecidedAccess → Option Touch → Cells
touched c d None = c
touched c d (Some touch) = touched_both c d.access.privileged touch d.access.address (last_byte d)

-- after an access
abbrev pub with_touch : Cells → DecidedAccess → Cells
with_touch c d = touched c d (touch_of d.access.kind d.refused)

-- whether code of a privilege touched a byte of a cell so
abbrev pub is_marked : Cells → Bool → Touch → ℕ → Bool
is_marked c privileged touch cell = slice_index_or c.marks (mark_of privileged touch cell) false
