-- The rows of 16 bits in "Miscellaneous 16-bit instructions", and ADR and ADD of SP beside them (ARM DDI 0403, "16-bit
-- Thumb instruction encoding").
use Rattle.std.specs.Prelude.{ℕ, ◌+◌, ◌*◌, ◌^◌, Bool, true, false, not, ◌&&◌, ◌||◌, ◌==◌, List, [], ◌∷◌, codes}
use Rattle.instruction_set.specs.declared.instruction.ItPosition.TheVariants as place
use Rattle.instruction_set.specs.declared.branch.Branch.TheVariants as branch
use Rattle.instruction_set.specs.declared.data_processing.DataProcessing.TheVariants.{DataImmediate, Address, Extend}
use Rattle.instruction_set.specs.declared.data_processing.DataProcessing.TheVariants.{Rearrange}
use Rattle.instruction_set.specs.declared.instruction.Decoded.{Decoded}
use Rattle.instruction_set.specs.declared.instruction.Instruction.TheVariants.{Branch, DataProcessing}
use Rattle.instruction_set.specs.declared.instruction.Instruction.TheVariants.{LoadStoreMultiple, System}
use Rattle.instruction_set.specs.declared.instruction.InstructionLength.TheVariants.{Short}
use Rattle.instruction_set.specs.declared.load_store.LoadStoreMultiple.TheVariants.{LoadMultiple, StoreMultiple}
use Rattle.instruction_set.specs.declared.system.System.TheVariants.{ChangeProcessorState, Hint, Breakpoint}
use Rattle.instruction_set.specs.declared.data_processing.DataOperation.{DataOperation}
use Rattle.instruction_set.specs.declared.data_processing.DataOperation.TheVariants.{Add, Subtract}
use Rattle.instruction_set.specs.declared.data_processing.FlagSetting.TheVariants as flags
use Rattle.instruction_set.specs.declared.load_store.ListOrder.TheVariants.{IncrementAfter, DecrementBefore}
use Rattle.instruction_set.specs.declared.data_processing.Rearrangement.{Rearrangement}
use Rattle.instruction_set.specs.declared.data_processing.Rearrangement.TheVariants.{ReverseWord, ReverseHalfwords}
use Rattle.instruction_set.specs.declared.data_processing.Rearrangement.TheVariants.{ReverseSignedHalfword}
use Rattle.instruction_set.specs.declared.size.Size.{Size}
use Rattle.instruction_set.specs.declared.size.Size.TheVariants.{Byte, Halfword}
use Rattle.instruction_set.specs.declared.unpredictable.UnpredictableCase.TheVariants.{FewRegisters, ItBlock, Registers}
use Rattle.instruction_set.specs.RowOperands.{plain_immediate, hint_of}
use Rattle.instruction_set.specs.Rows.{Row, short, placed, last_only_if, unless, row, row_but}

-- ADR: the offset counts words
unfoldable pub address_row : ℕ → ℕ → Decoded
address_row d words = short (DataProcessing (Address (record { destination = d; offset = words * 4 })))

-- ADD and SUB of SP and a number, which counts words; no flags
unfoldable pub sp_number_row : DataOperation → ℕ → ℕ → Decoded
sp_number_row operation d words =
    short (DataProcessing (DataImmediate (record {
      operation = operation;
      flags = flags.Never;
      destination = d;
      first = 13;
      second = plain_immediate (words * 4);
    })))

-- SXTB, SXTH, UXTB and UXTH
unfoldable pub extend_row : Bool → Size → ℕ → ℕ → Decoded
extend_row signed size d m =
    short (DataProcessing (Extend (record { signed = signed; size = size; destination = d; source = m; rotation = 0 })))

-- REV, REV16 and REVSH
unfoldable pub rearrange_row : Rearrangement → ℕ → ℕ → Decoded
rearrange_row operation d m = short
    (DataProcessing (Rearrange (record { operation = operation; destination = d; source = m })))

-- PUSH of registers from R0 to R7, and of LR
unfoldable pub push_row : ℕ → ℕ → Decoded
push_row lr list =
    unless (lr * 2 ^ 14 + list == 0) place.Anywhere FewRegisters
    (short (LoadStoreMultiple (StoreMultiple
    (record { base = 13; list = lr * 2 ^ 14 + list; order = DecrementBefore; write_back = true }))))

-- POP of registers from R0 to R7, and of PC
unfoldable pub pop_row : ℕ → ℕ → Decoded
pop_row pc list =
    unless (pc * 2 ^ 15 + list == 0) (last_only_if (pc == 1)) FewRegisters
    (placed Short (last_only_if (pc == 1))
    (LoadStoreMultiple (LoadMultiple
    (record { base = 13; list = pc * 2 ^ 15 + list; order = IncrementAfter; write_back = true }))))

-- CBZ and CBNZ: the offset counts halfwords
unfoldable pub compare_and_branch_row : Bool → ℕ → ℕ → Decoded
compare_and_branch_row nonzero halfwords n =
    placed Short place.Never (Branch (branch.CompareAndBranch
    (record { nonzero = nonzero; register = n; offset = halfwords * 2 })))

-- CPS
unfoldable pub change_state_row : Bool → Bool → Bool → Decoded
change_state_row disables primask faultmask =
    unless (not primask && not faultmask) place.Never Registers
    (placed Short place.Never (System (ChangeProcessorState
    (record { disables = disables; primask = primask; faultmask = faultmask }))))

-- BKPT
unfoldable pub breakpoint_row : ℕ → Decoded
breakpoint_row value = short (System (Breakpoint value))

-- whether exactly one of four bits is set: BitCount(mask) == 1
abbrev pub is_one_bit : ℕ → Bool
is_one_bit mask = mask == 1 || mask == 2 || mask == 4 || mask == 8

-- IT: the condition 1111, and 1110 with more than one bit in the mask, are UNPREDICTABLE
unfoldable pub if_then_row : ℕ → ℕ → Decoded
if_then_row condition mask =
    unless (condition == 15 || condition == 14 && not (is_one_bit mask)) place.Never ItBlock
    (placed Short place.Never (Branch (branch.IfThen (record { condition = condition; mask = mask }))))

-- ---- the rows: those that compute, then those that load, store, branch and control

abbrev pub adjusting_rows : List Row
adjusting_rows =
    row (codes "10100 ddd iiiiiiii") (λ f. address_row f.d f.i) ∷  -- ADR, T1
    row (codes "10101 ddd iiiiiiii") (λ f. sp_number_row Add f.d f.i) ∷  -- ADD (SP plus immediate), T1
    row (codes "1011 0000 0 iiiiiii") (λ f. sp_number_row Add 13 f.i) ∷  -- ADD (SP plus immediate), T2
    row (codes "1011 0000 1 iiiiiii") (λ f. sp_number_row Subtract 13 f.i) ∷  -- SUB (SP minus immediate), T1
    row (codes "1011 0010 00 mmm ddd") (λ f. extend_row true Halfword f.d f.m) ∷  -- SXTH, T1
    row (codes "1011 0010 01 mmm ddd") (λ f. extend_row true Byte f.d f.m) ∷  -- SXTB, T1
    row (codes "1011 0010 10 mmm ddd") (λ f. extend_row false Halfword f.d f.m) ∷  -- UXTH, T1
    row (codes "1011 0010 11 mmm ddd") (λ f. extend_row false Byte f.d f.m) ∷  -- UXTB, T1
    row (codes "1011 1010 00 mmm ddd") (λ f. rearrange_row ReverseWord f.d f.m) ∷  -- REV, T1
    row (codes "1011 1010 01 mmm ddd") (λ f. rearrange_row ReverseHalfwords f.d f.m) ∷  -- REV16, T1
    row (codes "1011 1010 11 mmm ddd") (λ f. rearrange_row ReverseSignedHalfword f.d f.m) ∷  -- REVSH, T1
    []

-- The hints of 16 bits, encoding T1
abbrev pub nop_t1 : Row
nop_t1 = row (codes "1011 1111 hhhh 0000") (λ f. short (System (Hint (hint_of f.h))))

-- IT, encoding T1; with the mask 0000 it is a hint
abbrev pub it_t1 : Row
it_t1 = row_but (codes "1011 1111 cccc kkkk") (codes "xxxx xxxx xxxx 0000" ∷ []) (λ f. if_then_row f.c f.k)

abbrev pub controlling_rows : List Row
controlling_rows =
    row (codes "1011 p 0 i 1 iiiii nnn") (λ f. compare_and_branch_row (f.p == 1) f.i f.n) ∷  -- CBZ and CBNZ, T1
    row (codes "1011 0 10 M llllllll") (λ f. push_row f.M f.l) ∷  -- PUSH, T1
    row (codes "1011 1 10 P llllllll") (λ f. pop_row f.P f.l) ∷  -- POP, T1
    row (codes "1011 0110 011 e z z I F") (λ f. change_state_row (f.e == 1) (f.I == 1) (f.F == 1)) ∷  -- CPS, T1
    row (codes "1011 1110 iiiiiiii") (λ f. breakpoint_row f.i) ∷  -- BKPT, T1
    nop_t1 ∷ it_t1 ∷
    []
