-- The rows of 32 bits in "Load Multiple and Store Multiple" (ARM DDI 0403, "32-bit Thumb instruction encoding").
use Rattle.std.specs.Prelude.{ℕ, ◌+◌, ◌*◌, ◌^◌, nat_lt, Bool, ◌&&◌, ◌||◌, ◌==◌, List, [], ◌∷◌, codes}
use Rattle.std.specs.Int.RustNames.{count_ones}
use Rattle.instruction_set.specs.declared.instruction.ItPosition.TheVariants as place
use Rattle.instruction_set.specs.declared.instruction.Decoded.{Decoded}
use Rattle.instruction_set.specs.declared.instruction.Instruction.TheVariants.{LoadStoreMultiple}
use Rattle.instruction_set.specs.declared.instruction.InstructionLength.TheVariants.{Long}
use Rattle.instruction_set.specs.declared.load_store.LoadStoreMultiple.TheVariants as multiple
use Rattle.instruction_set.specs.declared.load_store.ListOrder.TheVariants.{IncrementAfter, DecrementBefore}
use Rattle.instruction_set.specs.declared.load_store.LoadMultiple.{LoadMultiple}
use Rattle.instruction_set.specs.declared.load_store.StoreMultiple.{StoreMultiple}
use Rattle.instruction_set.specs.declared.unpredictable.UnpredictableCase.TheVariants as cause
use Rattle.instruction_set.specs.Rows.{Row, long, placed, last_only_if, unless, row}
use Rattle.instruction_set.specs.Words.{is_bit}

-- whether fewer than two bits are set: BitCount(registers) < 2
abbrev pub has_few : ℕ → Bool
has_few list = nat_lt (count_ones list) 2

-- STM and STMDB: PC isn't a base, and a base that is stored isn't written back
unfoldable pub store_list_wide_row : StoreMultiple → Decoded
store_list_wide_row o =
    unless (has_few o.list) place.Anywhere cause.FewRegisters
    (unless (o.base == 15 || o.write_back && is_bit o.list o.base) place.Anywhere cause.Registers
    (long (LoadStoreMultiple (multiple.StoreMultiple o))))

-- LDM and LDMDB: PC isn't a base, LR and PC aren't both loaded, and a base that is loaded isn't written back
unfoldable pub load_list_wide_row : LoadMultiple → Decoded
load_list_wide_row o =
    unless (has_few o.list) (last_only_if (is_bit o.list 15)) cause.FewRegisters
    (unless (o.base == 15 || (is_bit o.list 15 && is_bit o.list 14 || o.write_back && is_bit o.list o.base))
    (last_only_if (is_bit o.list 15)) cause.Registers
    (placed Long (last_only_if (is_bit o.list 15)) (LoadStoreMultiple (multiple.LoadMultiple o))))

-- ---- the rows

abbrev pub stm_t2 : Row
stm_t2 =
    row (codes "11101 00 01 0 W 0 nnnn z M z lllllllllllll")
    (λ f. store_list_wide_row (record {
      base = f.n;
      list = f.M * 2 ^ 14 + f.l;
      order = IncrementAfter;
      write_back = f.W == 1;
    }))

abbrev pub ldm_t2 : Row
ldm_t2 =
    row (codes "11101 00 01 0 W 1 nnnn P M z lllllllllllll")
    (λ f. load_list_wide_row (record {
      base = f.n;
      list = f.P * 2 ^ 15 + f.M * 2 ^ 14 + f.l;
      order = IncrementAfter;
      write_back = f.W == 1;
    }))

abbrev pub stmdb_t1 : Row
stmdb_t1 =
    row (codes "11101 00 10 0 W 0 nnnn z M z lllllllllllll")
    (λ f. store_list_wide_row (record {
      base = f.n;
      list = f.M * 2 ^ 14 + f.l;
      order = DecrementBefore;
      write_back = f.W == 1;
    }))

abbrev pub ldmdb_t1 : Row
ldmdb_t1 =
    row (codes "11101 00 10 0 W 1 nnnn P M z lllllllllllll")
    (λ f. load_list_wide_row (record {
      base = f.n;
      list = f.P * 2 ^ 15 + f.M * 2 ^ 14 + f.l;
      order = DecrementBefore;
      write_back = f.W == 1;
    }))

abbrev pub multiple_rows : List Row
multiple_rows =
    stm_t2 ∷ ldm_t2 ∷ stmdb_t1 ∷ ldmdb_t1 ∷ []
