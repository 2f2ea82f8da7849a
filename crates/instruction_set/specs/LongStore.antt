-- The rows of 32 bits in "Store single data item" (ARM DDI 0403, "32-bit Thumb instruction encoding"). The size 11 and
-- the base 1111 are UNDEFINED.
use Rattle.std.specs.Prelude.{ℕ, Bool, true, false, not, ◌&&◌, ◌||◌, ◌==◌, if◌then◌else◌, List, [], ◌∷◌, codes}
use Rattle.instruction_set.specs.declared.instruction.ItPosition.TheVariants as place
use Rattle.instruction_set.specs.declared.instruction.Decoded.{Decoded}
use Rattle.instruction_set.specs.declared.instruction.Instruction.TheVariants.{LoadStore}
use Rattle.instruction_set.specs.declared.load_store.LoadStore.TheVariants as load_store
use Rattle.instruction_set.specs.declared.load_store.ImmediateAddress.{ImmediateAddress}
use Rattle.instruction_set.specs.declared.load_store.StoreRegister.{StoreRegister}
use Rattle.instruction_set.specs.declared.size.Size.{Size}
use Rattle.instruction_set.specs.declared.size.Size.TheVariants.{Byte, Halfword, Word}
use Rattle.instruction_set.specs.declared.unpredictable.UnpredictableCase.TheVariants as cause
use Rattle.instruction_set.specs.RowOperands.{writes_back, at_offset, signed_offset, indexing_of}
use Rattle.instruction_set.specs.Rows.{Row, long, unless, is_bad, row_but}
use Rattle.instruction_set.specs.Sizes.{is_word}

-- the size of the two bits 00, 01 and 10
abbrev pub size_of : ℕ → Size
size_of ss = if ss == 0 then Byte else if ss == 1 then Halfword else Word

-- whether a store refuses its target: PC always, and SP unless a word is stored
abbrev pub is_refused_store : Size → ℕ → Bool
is_refused_store size t = t == 15 || t == 13 && not (is_word size)

-- a store at a register and an offset: a base that is written isn't the target
unfoldable pub store_at_row : Size → ℕ → ImmediateAddress → Decoded
store_at_row size t address =
    unless (is_refused_store size t || writes_back address.indexing && address.base == t) place.Anywhere cause.Registers
    (long (LoadStore (load_store.StoreImmediate
    (record { size = size; target = t; address = address; unprivileged = false }))))

-- STRT and its forms, which refuse SP and PC
unfoldable pub store_unprivileged_row : Size → ℕ → ImmediateAddress → Decoded
store_unprivileged_row size t address =
    unless (is_bad t) place.Anywhere cause.Registers
    (long (LoadStore (load_store.StoreImmediate
    (record { size = size; target = t; address = address; unprivileged = true }))))

-- a store at the sum of two registers
unfoldable pub store_indexed_row : StoreRegister → Decoded
store_indexed_row o =
    unless (is_bad o.address.index || is_refused_store o.size o.target) place.Anywhere cause.Registers
    (long (LoadStore (load_store.StoreRegister o)))

-- ---- the rows

-- STR (immediate), encoding T3; STRB and STRH, encoding T2
abbrev pub str_immediate_t3 : Row
str_immediate_t3 =
    row_but (codes "11111000 1 ss 0 nnnn tttt iiiiiiiiiiii")
    (codes "xxxxxxxx x xx x 1111 xxxx xxxxxxxxxxxx" ∷ codes "xxxxxxxx x 11 x xxxx xxxx xxxxxxxxxxxx" ∷ [])
    (λ f. store_at_row (size_of f.s) f.t (at_offset f.n f.i))

-- STR, STRB and STRH (register), encoding T2
abbrev pub str_register_t2 : Row
str_register_t2 =
    row_but (codes "11111000 0 ss 0 nnnn tttt 0 00000 ii mmmm")
    (codes "xxxxxxxx x xx x 1111 xxxx x xxxxx xx xxxx" ∷ codes "xxxxxxxx x 11 x xxxx xxxx x xxxxx xx xxxx" ∷ [])
    (λ f. store_indexed_row (record {
      size = size_of f.s;
      target = f.t;
      address = record { base = f.n; index = f.m; shift = f.i };
    }))

-- STRT, STRBT and STRHT, encoding T1
abbrev pub strt_t1 : Row
strt_t1 =
    row_but (codes "11111000 0 ss 0 nnnn tttt 1 1 1 0 iiiiiiii")
    (codes "xxxxxxxx x xx x 1111 xxxx x x x x xxxxxxxx" ∷ codes "xxxxxxxx x 11 x xxxx xxxx x x x x xxxxxxxx" ∷ [])
    (λ f. store_unprivileged_row (size_of f.s) f.t (at_offset f.n f.i))

-- STR (immediate), encoding T4; STRB and STRH, encoding T3; P, U, W = 110 are the unprivileged forms, and P = 0 with
-- W = 0 is UNDEFINED
abbrev pub str_immediate_t4 : Row
str_immediate_t4 =
    row_but (codes "11111000 0 ss 0 nnnn tttt 1 P U W iiiiiiii")
    (codes "xxxxxxxx x xx x 1111 xxxx x x x x xxxxxxxx" ∷
    codes "xxxxxxxx x 11 x xxxx xxxx x x x x xxxxxxxx" ∷
    codes "xxxxxxxx x xx x xxxx xxxx x 1 1 0 xxxxxxxx" ∷
    codes "xxxxxxxx x xx x xxxx xxxx x 0 x 0 xxxxxxxx" ∷ [])
    (λ f. store_at_row (size_of f.s) f.t (record {
      base = f.n;
      offset = signed_offset f.U f.i;
      indexing = indexing_of f.P f.W;
    }))

abbrev pub store_rows : List Row
store_rows =
    str_immediate_t3 ∷ str_register_t2 ∷ strt_t1 ∷ str_immediate_t4 ∷ []
