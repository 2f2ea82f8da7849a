-- The blocks of memory stay laid out: in each access, and in the memory of a board.
use Rattle.std.proofs.Common.{◌≡◌, ℕ, ◌+◌, ◌≤◌, true, List, [], ◌∷◌, length, replicate, Option, Some, None}
use Rattle.std.proofs.Common.{arith}
use Rattle.std.proofs.lemmas.Bool.{and_parts, cond_both}
use Rattle.std.proofs.lemmas.Bool.Decides.{nat_tests}
use Rattle.std.proofs.lemmas.List.{length-replicate}
use Rattle.instruction_set.specs.Sizes.{bytes_in}
use Rattle.platform.specs.declared.access.Request.{Request}
use Rattle.platform.specs.declared.access.Rule.{Rule}
use Rattle.platform.specs.Boards.{Numbers, RamSpan, blank, blank_ram, blank_second, is_apart, is_flash, is_second_ram}
use Rattle.platform.specs.Boards.{is_second_ram_or_none, is_size}
use Rattle.platform.specs.Images.{Segment, image_loaded}
use Rattle.platform.specs.SystemInvariant.{IsLaidOut}
use Rattle.platform.specs.Kinds.{is_write}
use Rattle.platform.specs.Map.{are_apart, is_for_memory, is_in_window, ram_base}
use Rattle.platform.specs.Memory.{Memory, is_writable_at, bytes_of, overwritten}
use Rattle.platform.specs.Outcomes.{Outcome}
use Rattle.platform.specs.Space.{written_to, memory_access}
use Rattle.physical_memory.specs.MemoryBlocks.{IsSecondInPlace, flash_block, ram_block}
use Rattle.physical_memory.proofs.Blocks.{overwritten_laid_out}
use Rattle.physical_memory.proofs.Places.{laid_out}

-- the blocks are laid out after an access
abbrev LeavesLaidOut : Outcome Memory → Type 0
LeavesLaidOut o = IsLaidOut o.after

written_laid_out : (m : Memory) (rule : Rule) (q : Request) → IsLaidOut m → LeavesLaidOut (written_to m rule q)
written_laid_out m rule q h =
    cond_both (is_in_window q.access.address) _ _ LeavesLaidOut (λ e. h)
    (λ e. cond_both (is_writable_at m q.access.address (bytes_in q.access.size)) _ _ LeavesLaidOut
    (λ f. overwritten_laid_out m q.access.address (bytes_of (bytes_in q.access.size) q.value) h) (λ f. h))

pub space_laid_out : (m : Memory) (ticks : ℕ) (rule : Rule) (q : Request) → IsLaidOut m →
    IsLaidOut (memory_access m ticks rule q).after
unfolding memory_access
space_laid_out m ticks rule q h =
    cond_both (is_write q.access.kind) _ _ LeavesLaidOut (λ e. written_laid_out m rule q h) (λ e. h)

-- ---- the start

flash_fits : (base size : ℕ) → is_flash base size ≡ true → base + size ≤ ram_base
flash_fits base size fits = grind (arith, nat_tests, fits)

ram_fits : (size : ℕ) → is_size size ≡ true → size ≤ 0x10_0000
ram_fits size fits = grind (arith, nat_tests, fits)

-- what a second RAM of a board is
second_fits : (board : Numbers) (second : RamSpan) → is_second_ram board second ≡ true →
    (is_for_memory second.base second.size ≡ true)
    × (are_apart board.flash_base board.flash_size second.base second.size ≡ true)
    × (are_apart ram_base board.ram_size second.base second.size ≡ true)
second_fits board second fits =
    let places = (and_parts _ _ fits).1 in
    let parts = and_parts (is_for_memory second.base second.size) (is_apart board second) places in
    let apart = and_parts (are_apart board.flash_base board.flash_size second.base second.size) _ parts.1 in
    (parts.0, apart.0, apart.1)

second_in_place : (board : Numbers) (second : RamSpan) → is_second_ram board second ≡ true →
    IsSecondInPlace board.flash_base (length {A = ℕ} (replicate board.flash_size 0xFF))
    (length {A = ℕ} (replicate board.ram_size 0))
    (Some (blank_ram second.base second.size))
second_in_place board second fits =
    rw (
      length-replicate {A = ℕ} board.flash_size 0xFF,
      length-replicate {A = ℕ} board.ram_size 0,
      length-replicate {A = ℕ} second.size 0,
    )
    (second_fits board second fits)

blank_by : (board : Numbers) (second : Option RamSpan) → is_flash board.flash_base board.flash_size ≡ true →
    is_size board.ram_size ≡ true → is_second_ram_or_none board second ≡ true →
    IsLaidOut (flash_block board.flash_base (replicate board.flash_size 0xFF)
    ∷ ram_block (replicate board.ram_size 0) ∷ blank_second second)
blank_by board None flash ram second =
    laid_out board.flash_base (replicate board.flash_size 0xFF) (replicate board.ram_size 0) None (
      rw (length-replicate {A = ℕ} board.flash_size 0xFF) (flash_fits board.flash_base board.flash_size flash),
      rw (length-replicate {A = ℕ} board.ram_size 0) (ram_fits board.ram_size ram),
      tt,
    )
blank_by board (Some span) flash ram second =
    laid_out board.flash_base (replicate board.flash_size 0xFF) (replicate board.ram_size 0)
    (Some (blank_ram span.base span.size)) (
      rw (length-replicate {A = ℕ} board.flash_size 0xFF) (flash_fits board.flash_base board.flash_size flash),
      rw (length-replicate {A = ℕ} board.ram_size 0) (ram_fits board.ram_size ram),
      second_in_place board span second,
    )

loaded_laid_out : (m : Memory) (image : List Segment) → IsLaidOut m → IsLaidOut (image_loaded m image)
loaded_laid_out m [] h = h
loaded_laid_out m (s ∷ segments) h =
    loaded_laid_out (overwritten m s.address s.bytes) segments (overwritten_laid_out m s.address s.bytes h)

pub start_laid_out : (board : Numbers) (image : List Segment) → is_flash board.flash_base board.flash_size ≡ true →
    is_size board.ram_size ≡ true → is_second_ram_or_none board board.second_ram ≡ true →
    IsLaidOut (image_loaded (blank board) image)
start_laid_out board image flash ram second =
    loaded_laid_out (blank board) image (blank_by board board.second_ram flash ram second)
