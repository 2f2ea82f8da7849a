-- A board that was read has the numbers and the script that a start needs.
use Rattle.std.proofs.Common.{◌≡◌, ℕ, ◌+◌, ◌%◌, ◌≤◌, Bool, true, ◌&&◌, Option, Some, None, option_map}
use Rattle.std.proofs.Common.{unwrap_or, refl, arith}
use Rattle.std.proofs.lemmas.Bool.Decides.{nat_tests}
use Rattle.board.proofs.Ordered.{script_is}
use Rattle.board.specs.declared.board.Board.{Board}
use Rattle.board.specs.Reading.{described}
use Rattle.platform.specs.declared.exception.TheConstants.{MAX_INTERRUPTS}
use Rattle.platform.specs.declared.mpu.RegionCount.{RegionCount}
use Rattle.platform.specs.declared.mpu.RegionCount.TheVariants.{Eight, Sixteen}
use Rattle.platform.specs.declared.board.SecondRam.{SecondRam}
use Rattle.platform.specs.Boards.{IsScript, Numbers, is_apart, is_flash, is_interrupt_count, is_region_count}
use Rattle.platform.specs.Boards.{is_second_ram_or_none, is_second_size, is_size, is_whole_blocks, numbers_of, span_of}
use Rattle.platform.specs.SystemInvariant.{HaveLinesOfBoard, IsBoard}
use Rattle.platform.specs.Map.{is_for_memory, ram_base}
use Rattle.platform.specs.Regions.{region_number}

few_lines : (interrupts : ℕ) → interrupts ≤ MAX_INTERRUPTS → is_interrupt_count interrupts ≡ true
few_lines interrupts few = grind (arith, nat_tests)

flash_fits : (base size : ℕ) → size % 1024 ≡ 0 → 1024 ≤ size → size ≤ 0x10_0000 → base + size ≤ ram_base →
    is_flash base size ≡ true
flash_fits base size whole least most apart = grind (arith, nat_tests)

known_regions : (regions : RegionCount) → is_region_count (region_number regions) ≡ true
known_regions Eight = refl
known_regions Sixteen = refl

size_fits : (size : ℕ) → size % 1024 ≡ 0 → 1024 ≤ size → size ≤ 0x10_0000 → is_size size ≡ true
size_fits size whole least most = grind (arith, nat_tests)

second_size_fits : (size : ℕ) → size % 1024 ≡ 0 → 1024 ≤ size → size ≤ 0x100_0000 → is_second_size size ≡ true
second_size_fits size whole least most = grind (arith, nat_tests)

base_fits : (base : ℕ) → base % 1024 ≡ 0 → is_whole_blocks base ≡ true
base_fits base whole = grind (arith, nat_tests)

all_true : (a b c d : Bool) → a ≡ true → b ≡ true → c ≡ true → d ≡ true → ((a && b) && (c && d)) ≡ true
all_true a b c d h i j k = rw (h, i, j, k) refl

second_fits : (numbers : Numbers) (second : Option SecondRam)
    → unwrap_or (option_map (λ s. is_apart numbers (span_of s)) second) true ≡ true
    → is_second_ram_or_none numbers (option_map span_of second) ≡ true
second_fits numbers None apart = refl
second_fits numbers (Some s) apart =
    all_true (is_whole_blocks s.base) (is_second_size s.size) (is_for_memory s.base s.size)
    (is_apart numbers (span_of s)) (base_fits s.base s.base_is_whole)
    (second_size_fits s.size s.size_is_whole s.is_there s.is_small) s.is_for_memory apart

pub is_board : (board : Board) → IsScript board.layout.interrupts board.events.items
    → HaveLinesOfBoard board.layout.interrupts board.devices.items → IsBoard (described board)
is_board board script lines = record {
  flash =
      flash_fits board.layout.flash_base board.layout.flash_size board.layout.flash_is_whole board.layout.flash_is_there
      board.layout.flash_is_small board.layout.apart;
  ram =
      size_fits board.layout.ram_size board.layout.ram_is_whole board.layout.ram_is_there board.layout.ram_is_small;
  second_ram = second_fits (numbers_of board.layout) board.layout.second_ram board.layout.second_is_apart;
  interrupts = few_lines board.layout.interrupts board.layout.interrupts_are_few;
  regions = known_regions board.layout.regions;
  script = script;
  devices = lines;
}

pub ruleset board_lemmas = (script_is, is_board)
