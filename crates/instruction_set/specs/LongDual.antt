-- The rows of 32 bits in "Load/store dual or exclusive, table branch" (ARM DDI 0403, "32-bit Thumb instruction
-- encoding").
use Rattle.std.specs.Prelude.{ℕ, ◌*◌, Bool, ◌&&◌, ◌||◌, ◌==◌, List, [], ◌∷◌, codes}
use Rattle.instruction_set.specs.declared.instruction.ItPosition.TheVariants as place
use Rattle.instruction_set.specs.declared.branch.Branch.TheVariants as branch
use Rattle.instruction_set.specs.declared.instruction.Decoded.{Decoded}
use Rattle.instruction_set.specs.declared.load_store.Exclusive.TheVariants as exclusive
use Rattle.instruction_set.specs.declared.instruction.Instruction.TheVariants.{Branch, Exclusive, LoadStoreMultiple}
use Rattle.instruction_set.specs.declared.instruction.InstructionLength.TheVariants.{Long}
use Rattle.instruction_set.specs.declared.load_store.LoadStoreMultiple.TheVariants as multiple
use Rattle.instruction_set.specs.declared.load_store.ImmediateAddress.{ImmediateAddress}
use Rattle.instruction_set.specs.declared.load_store.Indexing.{Indexing}
use Rattle.instruction_set.specs.declared.load_store.LoadDual.{LoadDual}
use Rattle.instruction_set.specs.declared.load_store.LoadDualLiteral.{LoadDualLiteral}
use Rattle.instruction_set.specs.declared.load_store.LoadExclusive.{LoadExclusive}
use Rattle.instruction_set.specs.declared.load_store.StoreDual.{StoreDual}
use Rattle.instruction_set.specs.declared.load_store.StoreExclusive.{StoreExclusive}
use Rattle.instruction_set.specs.declared.size.Size.{Size}
use Rattle.instruction_set.specs.declared.size.Size.TheVariants.{Word}
use Rattle.instruction_set.specs.declared.unpredictable.UnpredictableCase.TheVariants as cause
use Rattle.instruction_set.specs.RowOperands.{writes_back, byte_or_halfword, signed_offset, indexing_of}
use Rattle.instruction_set.specs.Rows.{Letters, Row, long, placed, unless, is_bad, row, row_but}

-- STREX, STREXB and STREXH: R[d] is neither the base nor the register that is stored
unfoldable pub store_exclusive_row : StoreExclusive → Decoded
store_exclusive_row o =
    unless (is_bad o.status || (is_bad o.target || (o.base == 15 || (o.status == o.base || o.status == o.target))))
    place.Anywhere cause.Registers
    (long (Exclusive (exclusive.Store o)))

-- LDREX, LDREXB and LDREXH
unfoldable pub load_exclusive_row : LoadExclusive → Decoded
load_exclusive_row o =
    unless (is_bad o.target || o.base == 15) place.Anywhere cause.Registers
    (long (Exclusive (exclusive.Load o)))

-- TBB and TBH
unfoldable pub table_branch_row : Size → ℕ → ℕ → Decoded
table_branch_row size n m =
    unless (n == 13 || is_bad m) place.LastOnly cause.Registers
    (placed Long place.LastOnly (Branch (branch.Table (record { size = size; base = n; index = m }))))

-- the address of LDRD and STRD: the offset counts words
abbrev pub dual_address : Letters → ImmediateAddress
dual_address f = record { base = f.n; offset = signed_offset f.U (f.i * 4); indexing = indexing_of f.P f.W }

-- whether two registers are refused: SP, PC, and a base that is written
abbrev pub is_refused_pair : ℕ → ℕ → ℕ → Indexing → Bool
is_refused_pair t u n indexing = is_bad t || (is_bad u || writes_back indexing && (n == t || n == u))

-- LDRD: the two registers differ
unfoldable pub load_dual_row : LoadDual → Decoded
load_dual_row o =
    unless (is_refused_pair o.first o.second o.address.base o.address.indexing || o.first == o.second) place.Anywhere
    cause.Registers
    (long (LoadStoreMultiple (multiple.LoadDual o)))

-- LDRD (literal): W = 1 is UNPREDICTABLE
unfoldable pub load_dual_literal_row : Bool → LoadDualLiteral → Decoded
load_dual_literal_row write_back o =
    unless (is_bad o.first || (is_bad o.second || (o.first == o.second || write_back))) place.Anywhere cause.Registers
    (long (LoadStoreMultiple (multiple.LoadDualLiteral o)))

-- STRD: PC isn't a base
unfoldable pub store_dual_row : StoreDual → Decoded
store_dual_row o =
    unless (is_refused_pair o.first o.second o.address.base o.address.indexing || o.address.base == 15) place.Anywhere
    cause.Registers
    (long (LoadStoreMultiple (multiple.StoreDual o)))

-- ---- the rows

abbrev pub strex_t1 : Row
strex_t1 =
    row (codes "1110100 00100 nnnn tttt dddd iiiiiiii")
    (λ f. store_exclusive_row (record { size = Word; status = f.d; target = f.t; base = f.n; offset = f.i * 4 }))

abbrev pub ldrex_t1 : Row
ldrex_t1 =
    row (codes "1110100 00101 nnnn tttt oooo iiiiiiii")
    (λ f. load_exclusive_row (record { size = Word; target = f.t; base = f.n; offset = f.i * 4 }))

-- STREXB and STREXH, encoding T1
abbrev pub strexb_t1 : Row
strexb_t1 =
    row (codes "1110100 01100 nnnn tttt oooo 010 H dddd")
    (λ f. store_exclusive_row (record {
      size = byte_or_halfword f.H;
      status = f.d;
      target = f.t;
      base = f.n;
      offset = 0;
    }))

-- LDREXB and LDREXH, encoding T1
abbrev pub ldrexb_t1 : Row
ldrexb_t1 =
    row (codes "1110100 01101 nnnn tttt oooo 010 H oooo")
    (λ f. load_exclusive_row (record { size = byte_or_halfword f.H; target = f.t; base = f.n; offset = 0 }))

-- TBB and TBH, encoding T1
abbrev pub tbb_t1 : Row
tbb_t1 = row (codes "1110100 01101 nnnn oooo zzzz 000 H mmmm") (λ f. table_branch_row (byte_or_halfword f.H) f.n f.m)

-- LDRD (literal), encoding T1; P = 0 with W = 0 are the rows above, or UNDEFINED
abbrev pub ldrd_literal_t1 : Row
ldrd_literal_t1 =
    row_but (codes "1110100 P U 1 W 1 1111 tttt uuuu iiiiiiii")
    (codes "xxxxxxx 0 x x 0 x xxxx xxxx xxxx xxxxxxxx" ∷ [])
    (λ f. load_dual_literal_row (f.W == 1) (record {
      first = f.t;
      second = f.u;
      offset = signed_offset f.U (f.i * 4);
    }))

-- LDRD (immediate), encoding T1; P = 0 with W = 0 are the rows above, or UNDEFINED; with n = 1111 it is LDRD (literal)
abbrev pub ldrd_immediate_t1 : Row
ldrd_immediate_t1 =
    row_but (codes "1110100 P U 1 W 1 nnnn tttt uuuu iiiiiiii")
    (codes "xxxxxxx 0 x x 0 x xxxx xxxx xxxx xxxxxxxx" ∷ codes "xxxxxxx x x x x x 1111 xxxx xxxx xxxxxxxx" ∷ [])
    (λ f. load_dual_row (record { first = f.t; second = f.u; address = dual_address f }))

-- STRD (immediate), encoding T1; P = 0 with W = 0 are the rows above, or UNDEFINED
abbrev pub strd_immediate_t1 : Row
strd_immediate_t1 =
    row_but (codes "1110100 P U 1 W 0 nnnn tttt uuuu iiiiiiii")
    (codes "xxxxxxx 0 x x 0 x xxxx xxxx xxxx xxxxxxxx" ∷ [])
    (λ f. store_dual_row (record { first = f.t; second = f.u; address = dual_address f }))

abbrev pub dual_rows : List Row
dual_rows =
    strex_t1 ∷ ldrex_t1 ∷ strexb_t1 ∷ ldrexb_t1 ∷ tbb_t1 ∷ ldrd_literal_t1 ∷ ldrd_immediate_t1 ∷ strd_immediate_t1 ∷
    []
