-- The rows of 16 bits in "Special data instructions and branch and exchange" (ARM DDI 0403, "16-bit Thumb instruction
-- encoding").
use Rattle.std.specs.Prelude.{ℕ, nat_lt, true, false, ◌&&◌, ◌||◌, ◌==◌, List, [], ◌∷◌, codes}
use Rattle.instruction_set.specs.declared.instruction.ItPosition.TheVariants as place
use Rattle.instruction_set.specs.declared.branch.Branch.TheVariants as branch
use Rattle.instruction_set.specs.declared.data_processing.DataProcessing.TheVariants.{DataRegister, MoveRegister}
use Rattle.instruction_set.specs.declared.data_processing.DataProcessing.TheVariants.{CompareRegister}
use Rattle.instruction_set.specs.declared.instruction.Decoded.{Decoded}
use Rattle.instruction_set.specs.declared.instruction.Instruction.TheVariants.{Branch, DataProcessing}
use Rattle.instruction_set.specs.declared.instruction.InstructionLength.TheVariants.{Short}
use Rattle.instruction_set.specs.declared.data_processing.Comparison.TheVariants.{Compare}
use Rattle.instruction_set.specs.declared.data_processing.DataOperation.TheVariants.{Add}
use Rattle.instruction_set.specs.declared.data_processing.FlagSetting.TheVariants as flags
use Rattle.instruction_set.specs.declared.data_processing.MoveOperation.TheVariants.{Move}
use Rattle.instruction_set.specs.declared.unpredictable.UnpredictableCase.TheVariants.{Registers}
use Rattle.instruction_set.specs.RowOperands.{unshifted}
use Rattle.instruction_set.specs.Rows.{Row, short, placed, last_only_if, unless, row}

-- ADD of any registers, without flags
unfoldable pub add_high_row : ℕ → ℕ → Decoded
add_high_row d m =
    unless (d == 15 && m == 15) (last_only_if (d == 15)) Registers
    (placed Short (last_only_if (d == 15))
    (DataProcessing (DataRegister (record {
      operation = Add;
      flags = flags.Never;
      destination = d;
      first = d;
      second = unshifted m;
    }))))

-- CMP of any registers but PC, of which at least one is above R7
unfoldable pub compare_high_row : ℕ → ℕ → Decoded
compare_high_row n m =
    unless (n == 15 || m == 15 || nat_lt n 8 && nat_lt m 8) place.Anywhere Registers
    (short (DataProcessing (CompareRegister (record { operation = Compare; first = n; second = unshifted m }))))

-- MOV of any registers, without flags
unfoldable pub move_high_row : ℕ → ℕ → Decoded
move_high_row d m =
    placed Short (last_only_if (d == 15))
    (DataProcessing (MoveRegister (record {
      operation = Move;
      flags = flags.Never;
      destination = d;
      source = unshifted m;
    })))

-- BX
unfoldable pub branch_exchange_row : ℕ → Decoded
branch_exchange_row m = placed Short place.LastOnly (Branch (branch.Exchange (record { links = false; target = m })))

-- BLX
unfoldable pub branch_link_exchange_row : ℕ → Decoded
branch_link_exchange_row m =
    unless (m == 15) place.LastOnly Registers
    (placed Short place.LastOnly (Branch (branch.Exchange (record { links = true; target = m }))))

-- ---- the rows

abbrev pub special_rows : List Row
special_rows =
    row (codes "010001 00 d mmmm ddd") (λ f. add_high_row f.d f.m) ∷  -- ADD (register), T2
    row (codes "010001 01 n mmmm nnn") (λ f. compare_high_row f.n f.m) ∷  -- CMP (register), T2
    row (codes "010001 10 d mmmm ddd") (λ f. move_high_row f.d f.m) ∷  -- MOV (register), T1
    row (codes "010001 11 0 mmmm zzz") (λ f. branch_exchange_row f.m) ∷  -- BX, T1
    row (codes "010001 11 1 mmmm zzz") (λ f. branch_link_exchange_row f.m) ∷  -- BLX (register), T1
    []
