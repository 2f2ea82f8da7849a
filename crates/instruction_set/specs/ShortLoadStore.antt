-- The rows of 16 bits that load and store: "Load from Literal Pool", "Load/store single data item", "Store multiple
-- registers" and "Load multiple registers" (ARM DDI 0403, "16-bit Thumb instruction encoding").
use Rattle.std.specs.Prelude.{ℕ, ◌*◌, ◌%◌, ◌^◌, Bool, true, false, not, ◌&&◌, ◌==◌, List, [], ◌∷◌, codes}
use Rattle.instruction_set.specs.declared.instruction.ItPosition.TheVariants as place
use Rattle.instruction_set.specs.declared.instruction.Decoded.{Decoded}
use Rattle.instruction_set.specs.declared.instruction.Instruction.TheVariants.{LoadStore, LoadStoreMultiple}
use Rattle.instruction_set.specs.declared.load_store.LoadStore.TheVariants.{LoadImmediate, LoadRegister, LoadLiteral}
use Rattle.instruction_set.specs.declared.load_store.LoadStore.TheVariants.{StoreImmediate, StoreRegister}
use Rattle.instruction_set.specs.declared.load_store.LoadStoreMultiple.TheVariants.{LoadMultiple, StoreMultiple}
use Rattle.instruction_set.specs.declared.load_store.ListOrder.TheVariants.{IncrementAfter}
use Rattle.instruction_set.specs.declared.size.Size.{Size}
use Rattle.instruction_set.specs.declared.size.Size.TheVariants.{Byte, Halfword, Word}
use Rattle.instruction_set.specs.declared.unpredictable.UnpredictableCase.TheVariants.{FewRegisters, StoredBase}
use Rattle.instruction_set.specs.RowOperands.{at_offset}
use Rattle.instruction_set.specs.Rows.{Row, short, unless, row}
use Rattle.instruction_set.specs.Words.{is_bit}

-- LDR at the PC and an offset, which counts words
unfoldable pub load_literal_word_row : ℕ → ℕ → Decoded
load_literal_word_row t words =
    short (LoadStore (LoadLiteral (record {
      form = record { size = Word; signed = false };
      target = t;
      offset = words * 4;
    })))

-- a store at the sum of two registers
unfoldable pub store_register_row : Size → ℕ → ℕ → ℕ → Decoded
store_register_row size t n m =
    short (LoadStore (StoreRegister
    (record { size = size; target = t; address = record { base = n; index = m; shift = 0 } })))

-- a load at the sum of two registers
unfoldable pub load_register_row : Size → Bool → ℕ → ℕ → ℕ → Decoded
load_register_row size signed t n m =
    short (LoadStore (LoadRegister (record {
      form = record { size = size; signed = signed };
      target = t;
      address = record { base = n; index = m; shift = 0 };
    })))

-- a store at a register and an offset
unfoldable pub store_number_row : Size → ℕ → ℕ → ℕ → Decoded
store_number_row size t n offset =
    short (LoadStore (StoreImmediate
    (record { size = size; target = t; address = at_offset n offset; unprivileged = false })))

-- a load at a register and an offset
unfoldable pub load_number_row : Size → ℕ → ℕ → ℕ → Decoded
load_number_row size t n offset =
    short (LoadStore (LoadImmediate (record {
      form = record { size = size; signed = false };
      target = t;
      address = at_offset n offset;
      unprivileged = false;
    })))

-- whether a register is in a list, and not its lowest
abbrev pub is_above_lowest : ℕ → ℕ → Bool
is_above_lowest n list = is_bit list n && not (list % 2 ^ n == 0)

-- STM, which writes back always
unfoldable pub store_list_row : ℕ → ℕ → Decoded
store_list_row n list =
    unless (list == 0) place.Anywhere FewRegisters
    (unless (is_above_lowest n list) place.Anywhere StoredBase
    (short (LoadStoreMultiple (StoreMultiple
    (record { base = n; list = list; order = IncrementAfter; write_back = true })))))

-- LDM, which writes back where the base isn't in the list
unfoldable pub load_list_row : ℕ → ℕ → Decoded
load_list_row n list =
    unless (list == 0) place.Anywhere FewRegisters
    (short (LoadStoreMultiple (LoadMultiple
    (record { base = n; list = list; order = IncrementAfter; write_back = not (is_bit list n) }))))

-- ---- the rows: at the PC or at the sum of two registers, at a register and an offset, of several registers

abbrev pub literal_and_register_rows : List Row
literal_and_register_rows =
    row (codes "01001 ttt iiiiiiii") (λ f. load_literal_word_row f.t f.i) ∷  -- LDR (literal), T1
    row (codes "0101 000 mmm nnn ttt") (λ f. store_register_row Word f.t f.n f.m) ∷  -- STR (register), T1
    row (codes "0101 001 mmm nnn ttt") (λ f. store_register_row Halfword f.t f.n f.m) ∷  -- STRH (register), T1
    row (codes "0101 010 mmm nnn ttt") (λ f. store_register_row Byte f.t f.n f.m) ∷  -- STRB (register), T1
    row (codes "0101 011 mmm nnn ttt") (λ f. load_register_row Byte true f.t f.n f.m) ∷  -- LDRSB (register), T1
    row (codes "0101 100 mmm nnn ttt") (λ f. load_register_row Word false f.t f.n f.m) ∷  -- LDR (register), T1
    row (codes "0101 101 mmm nnn ttt") (λ f. load_register_row Halfword false f.t f.n f.m) ∷  -- LDRH (register), T1
    row (codes "0101 110 mmm nnn ttt") (λ f. load_register_row Byte false f.t f.n f.m) ∷  -- LDRB (register), T1
    row (codes "0101 111 mmm nnn ttt") (λ f. load_register_row Halfword true f.t f.n f.m) ∷  -- LDRSH (register), T1
    []

abbrev pub immediate_and_list_rows : List Row
immediate_and_list_rows =
    row (codes "0110 0 iiiii nnn ttt") (λ f. store_number_row Word f.t f.n (f.i * 4)) ∷  -- STR (immediate), T1
    row (codes "0110 1 iiiii nnn ttt") (λ f. load_number_row Word f.t f.n (f.i * 4)) ∷  -- LDR (immediate), T1
    row (codes "0111 0 iiiii nnn ttt") (λ f. store_number_row Byte f.t f.n f.i) ∷  -- STRB (immediate), T1
    row (codes "0111 1 iiiii nnn ttt") (λ f. load_number_row Byte f.t f.n f.i) ∷  -- LDRB (immediate), T1
    row (codes "1000 0 iiiii nnn ttt") (λ f. store_number_row Halfword f.t f.n (f.i * 2)) ∷  -- STRH (immediate), T1
    row (codes "1000 1 iiiii nnn ttt") (λ f. load_number_row Halfword f.t f.n (f.i * 2)) ∷  -- LDRH (immediate), T1
    row (codes "1001 0 ttt iiiiiiii") (λ f. store_number_row Word f.t 13 (f.i * 4)) ∷  -- STR (immediate), T2: at SP
    row (codes "1001 1 ttt iiiiiiii") (λ f. load_number_row Word f.t 13 (f.i * 4)) ∷  -- LDR (immediate), T2: at SP
    row (codes "11000 nnn llllllll") (λ f. store_list_row f.n f.l) ∷  -- STM, T1
    row (codes "11001 nnn llllllll") (λ f. load_list_row f.n f.l) ∷  -- LDM, T1
    []
