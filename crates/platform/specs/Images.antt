-- The image in an ELF file (TIS ELF 1.2, "ELF Header" and "Program Header"), whether its segments lie in memory, and
-- memory with them. The order in which a file is refused is the profile's.
use Rattle.std.specs.Prelude.{ℕ, zero, suc, ◌+◌, ◌*◌, ◌<◌, ◌≤◌, max, min, Bool, true, false, ◌&&◌, ◌||◌, not, nat_lt}
use Rattle.std.specs.Prelude.{◌==◌}
use Rattle.std.specs.Prelude.{if◌then◌else◌, List, [], ◌∷◌, length, slice_index, slice_range, Result, Ok, Err}
use Rattle.std.specs.List.{AllPairs, list_any}
use Rattle.platform.specs.declared.error.LoadError.{LoadError}
pub use Rattle.platform.specs.Memory.{number_in}
use Rattle.platform.specs.declared.error.LoadError.TheVariants.{Truncated, NotElf, NotElf32Little, NotExecutable}
use Rattle.platform.specs.declared.error.LoadError.TheVariants.{NotArm, HeaderSize, SegmentOutsideFile, SegmentOverlap}
use Rattle.platform.specs.declared.error.LoadError.TheVariants.{TooManySegments}
use Rattle.platform.specs.Memory.{Memory, is_in_memory, overwritten}

-- bytes that are at an address before the first step
pub record Segment : Type 0 where
  pub address : ℕ
  pub bytes : List ℕ

abbrev pub elf_header_size : ℕ
elf_header_size = 52

abbrev pub program_header_size : ℕ
program_header_size = 32

-- how many program headers a file may have (profile)
abbrev pub max_program_headers : ℕ
max_program_headers = 64

-- e_ident begins with 7F and "ELF"
abbrev pub has_magic : List ℕ → Bool
has_magic file =
    (((slice_index file 0 == 0x7F) && (slice_index file 1 == 0x45)) && (slice_index file 2 == 0x4C))
    && (slice_index file 3 == 0x46)

-- e_ident[EI_CLASS] is ELFCLASS32, and e_ident[EI_DATA] is ELFDATA2LSB
abbrev pub is_32_bit_little : List ℕ → Bool
is_32_bit_little file = (slice_index file 4 == 1) && (slice_index file 5 == 1)

abbrev pub e_type : List ℕ → ℕ
e_type file = number_in file 16 2

abbrev pub e_machine : List ℕ → ℕ
e_machine file = number_in file 18 2

abbrev pub e_phoff : List ℕ → ℕ
e_phoff file = number_in file 28 4

abbrev pub e_phentsize : List ℕ → ℕ
e_phentsize file = number_in file 42 2

abbrev pub e_phnum : List ℕ → ℕ
e_phnum file = number_in file 44 2

-- ET_EXEC and EM_ARM
abbrev pub executable_type : ℕ
executable_type = 2

abbrev pub arm_machine : ℕ
arm_machine = 40

-- PT_LOAD
abbrev pub load_type : ℕ
load_type = 1

-- the fields of the program header at a place of the file
abbrev pub p_type : List ℕ → ℕ → ℕ
p_type file at = number_in file at 4

abbrev pub p_offset : List ℕ → ℕ → ℕ
p_offset file at = number_in file (at + 4) 4

abbrev pub p_paddr : List ℕ → ℕ → ℕ
p_paddr file at = number_in file (at + 12) 4

abbrev pub p_filesz : List ℕ → ℕ → ℕ
p_filesz file at = number_in file (at + 16) 4

-- a program header is a segment's if its type is PT_LOAD and it has bytes in the file
abbrev pub is_segment : List ℕ → ℕ → Bool
is_segment file at = (p_type file at == load_type) && not (p_filesz file at == 0)

-- p_offset + p_filesz, in whole numbers
abbrev pub segment_end : List ℕ → ℕ → ℕ
segment_end file at = p_offset file at + p_filesz file at

-- the segment's bytes go to p_paddr
abbrev pub segment_at : List ℕ → ℕ → Segment
segment_at file at = record {
  address = p_paddr file at;
  bytes = slice_range file (p_offset file at) (segment_end file at);
}

-- one segment more, before the others
abbrev pub in_front : Segment → Result (List Segment) LoadError → Result (List Segment) LoadError
in_front segment (Ok segments) = Ok (segment ∷ segments)
in_front segment (Err error) = Err error

-- the segments of n program headers from a place of the file on, in their order
abbrev pub segments_of : List ℕ → ℕ → ℕ → Result (List Segment) LoadError
segments_of file at zero = Ok []
segments_of file at (suc n) =
    let rest = segments_of file (at + program_header_size) n in
    if not (is_segment file at) then rest
    else if nat_lt (length file) (segment_end file at) then Err SegmentOutsideFile
    else in_front (segment_at file at) rest

-- the first address after the segment, as a whole number: it doesn't wrap at 2^32
abbrev pub target_end : Segment → ℕ
target_end segment = segment.address + length segment.bytes

-- two segments share an address: the later of their beginnings comes before the earlier of their ends
abbrev pub share_an_address : Segment → Segment → Bool
share_an_address one other =
    nat_lt (max one.address other.address) (min (target_end one) (target_end other))

-- some segment of the list shares an address with a later one
abbrev pub have_overlap : List Segment → Bool
have_overlap [] = false
have_overlap (segment ∷ others) = list_any (share_an_address segment) others || have_overlap others

-- an address to which a byte of the segment goes
abbrev pub IsTarget : ℕ → Segment → Type 0
IsTarget address segment = (segment.address ≤ address) × (address < target_end segment)

-- no address is a target of both
abbrev pub ShareNoTarget : Segment → Segment → Type 0
ShareNoTarget one other = (address : ℕ) → IsTarget address one → IsTarget address other → ⊥

-- each segment of a list is apart from each later one: it is proved that `have_overlap` is false just where this holds
unfoldable pub AreSegmentsApart : List Segment → Type 0
AreSegmentsApart segments = AllPairs ShareNoTarget segments

-- segments of which two share an address are refused
abbrev pub without_overlap : Result (List Segment) LoadError → Result (List Segment) LoadError
without_overlap (Ok segments) = if have_overlap segments then Err SegmentOverlap else Ok segments
without_overlap (Err error) = Err error

-- the segments of the table, or the first refusal
abbrev pub table_of : List ℕ → Result (List Segment) LoadError
table_of file =
    if nat_lt max_program_headers (e_phnum file) then Err TooManySegments
    else if e_phnum file == 0 then Ok []
    else if not (e_phentsize file == program_header_size) then Err HeaderSize
    else if nat_lt (length file) (e_phoff file + program_header_size * e_phnum file) then Err Truncated
    else without_overlap (segments_of file (e_phoff file) (e_phnum file))

-- the image that a file holds, or the first refusal
unfoldable pub image_of : List ℕ → Result (List Segment) LoadError
image_of file =
    if nat_lt (length file) elf_header_size then Err Truncated
    else if not (has_magic file) then Err NotElf
    else if not (is_32_bit_little file) then Err NotElf32Little
    else if not (e_type file == executable_type) then Err NotExecutable
    else if not (e_machine file == arm_machine) then Err NotArm
    else table_of file

-- ---- its place in memory

-- whether a segment lies wholly in one block of memory
abbrev pub is_placed : Memory → Segment → Bool
is_placed m s = is_in_memory m s.address (length s.bytes)

-- memory with the segments in it, in their order
abbrev pub image_loaded : Memory → List Segment → Memory
image_loaded m [] = m
image_loaded m (s ∷ segments) = image_loaded (overwritten m s.address s.bytes) segments

abbrev pub are_placed : Memory → List Segment → Bool
are_placed m [] = true
are_placed m (s ∷ segments) = is_placed m s && are_placed m segments
