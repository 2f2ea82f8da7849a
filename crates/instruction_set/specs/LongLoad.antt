-- The rows of 32 bits in "Load byte, memory hints", "Load halfword, memory hints" and "Load word" (ARM DDI 0403,
-- "32-bit Thumb instruction encoding").
use Rattle.std.specs.Prelude.{ℕ, Bool, true, false, not, ◌&&◌, ◌||◌, ◌==◌, if◌then◌else◌, List, [], ◌∷◌, codes}
use Rattle.instruction_set.specs.declared.instruction.ItPosition.{ItPosition}
use Rattle.instruction_set.specs.declared.instruction.ItPosition.TheVariants as place
use Rattle.instruction_set.specs.declared.instruction.Decoded.{Decoded}
use Rattle.instruction_set.specs.declared.system.Hint.TheVariants as hint
use Rattle.instruction_set.specs.declared.instruction.Instruction.TheVariants.{LoadStore, System}
use Rattle.instruction_set.specs.declared.instruction.InstructionLength.TheVariants.{Long}
use Rattle.instruction_set.specs.declared.load_store.LoadStore.TheVariants as load_store
use Rattle.instruction_set.specs.declared.system.System.TheVariants.{Hint}
use Rattle.instruction_set.specs.declared.load_store.ImmediateAddress.{ImmediateAddress}
use Rattle.instruction_set.specs.declared.load_store.LoadForm.{LoadForm}
use Rattle.instruction_set.specs.declared.load_store.LoadRegister.{LoadRegister}
use Rattle.instruction_set.specs.declared.size.Size.{Size}
use Rattle.instruction_set.specs.declared.size.Size.TheVariants.{Word}
use Rattle.instruction_set.specs.declared.unpredictable.UnpredictableCase.TheVariants as cause
use Rattle.instruction_set.specs.RowOperands.{writes_back, byte_or_halfword, at_offset, signed_offset, indexing_of}
use Rattle.instruction_set.specs.Rows.{Row, long, placed, last_only_if, unless, is_bad, row, row_but}
use Rattle.instruction_set.specs.Sizes.{is_word}

-- how a byte or a halfword is loaded
abbrev pub narrow_form : ℕ → ℕ → LoadForm
narrow_form signed half = record { size = byte_or_halfword half; signed = signed == 1 }

-- how a word is loaded
abbrev pub word_form : LoadForm
word_form = record { size = Word; signed = false }

-- where a load may be in an IT block: a word that is loaded to PC branches
abbrev pub place_of_load : Size → ℕ → ItPosition
place_of_load size t = last_only_if (is_word size && t == 15)

-- whether a load refuses its target: a byte or a halfword goes neither to SP nor to PC
abbrev pub is_refused_load : Size → ℕ → Bool
is_refused_load size t = not (is_word size) && is_bad t

-- a load at the PC and an offset
unfoldable pub load_literal_row : LoadForm → ℕ → ℕ → Decoded
load_literal_row form t offset =
    unless (is_refused_load form.size t) (place_of_load form.size t) cause.Registers
    (placed Long (place_of_load form.size t)
    (LoadStore (load_store.LoadLiteral (record { form = form; target = t; offset = offset }))))

-- a load at a register and an offset: a base that is written isn't the target
unfoldable pub load_at_row : LoadForm → ℕ → ImmediateAddress → Decoded
load_at_row form t address =
    unless (is_refused_load form.size t || writes_back address.indexing && address.base == t)
    (place_of_load form.size t) cause.Registers
    (placed Long (place_of_load form.size t)
    (LoadStore (load_store.LoadImmediate
    (record { form = form; target = t; address = address; unprivileged = false }))))

-- LDRT and its forms, which refuse SP and PC
unfoldable pub load_unprivileged_row : LoadForm → ℕ → ImmediateAddress → Decoded
load_unprivileged_row form t address =
    unless (is_bad t) place.Anywhere cause.Registers
    (long (LoadStore (load_store.LoadImmediate
    (record { form = form; target = t; address = address; unprivileged = true }))))

-- a load at the sum of two registers
unfoldable pub load_indexed_row : LoadRegister → Decoded
load_indexed_row o =
    unless (is_bad o.address.index || is_refused_load o.form.size o.target) (place_of_load o.form.size o.target)
    cause.Registers
    (placed Long (place_of_load o.form.size o.target) (LoadStore (load_store.LoadRegister o)))

-- PLD and PLI, where a byte would be loaded to PC; where a halfword would be, the hint is unallocated
unfoldable pub memory_hint_row : ℕ → Decoded
memory_hint_row half = long (System (Hint (if half == 1 then hint.Unallocated else hint.Preload)))

-- the same at the sum of two registers
unfoldable pub memory_hint_indexed_row : ℕ → ℕ → Decoded
memory_hint_indexed_row half m = unless (is_bad m) place.Anywhere cause.Registers (memory_hint_row half)

-- ---- the rows: of a byte or a halfword, then of a word

-- PLD (literal), encoding T1, PLI (literal), encoding T3, and the hint of a halfword
abbrev pub pld_literal_t1 : Row
pld_literal_t1 = row (codes "1111100 x x 0s 1 1111 1111 xxxxxxxxxxxx") (λ f. memory_hint_row f.s)

-- LDRB, LDRSB, LDRH and LDRSH (literal), encoding T1; with t = 1111 they are hints
abbrev pub ldrb_literal_t1 : Row
ldrb_literal_t1 =
    row_but (codes "1111100 X U 0s 1 1111 tttt iiiiiiiiiiii")
    (codes "xxxxxxx x x xx x xxxx 1111 xxxxxxxxxxxx" ∷ [])
    (λ f. load_literal_row (narrow_form f.X f.s) f.t (signed_offset f.U f.i))

-- PLD and PLI (immediate), encoding T1, and the hint of a halfword; with n = 1111 they are literal
abbrev pub pld_immediate_t1 : Row
pld_immediate_t1 =
    row_but (codes "1111100 x 1 0s 1 xxxx 1111 xxxxxxxxxxxx")
    (codes "xxxxxxx x x xx x 1111 xxxx xxxxxxxxxxxx" ∷ [])
    (λ f. memory_hint_row f.s)

-- LDRB and LDRH (immediate), encoding T2; LDRSB and LDRSH, encoding T1; with n = 1111 they are literal, with t = 1111
-- hints
abbrev pub ldrb_immediate_t2 : Row
ldrb_immediate_t2 =
    row_but (codes "1111100 X 1 0s 1 nnnn tttt iiiiiiiiiiii")
    (codes "xxxxxxx x x xx x 1111 xxxx xxxxxxxxxxxx" ∷ codes "xxxxxxx x x xx x xxxx 1111 xxxxxxxxxxxx" ∷ [])
    (λ f. load_at_row (narrow_form f.X f.s) f.t (at_offset f.n f.i))

-- PLD and PLI (register), encoding T1, and the hint of a halfword; with n = 1111 they are literal
abbrev pub pld_register_t1 : Row
pld_register_t1 =
    row_but (codes "1111100 x 0 0s 1 xxxx 1111 0 00000 xx mmmm")
    (codes "xxxxxxx x x xx x 1111 xxxx x xxxxx xx xxxx" ∷ [])
    (λ f. memory_hint_indexed_row f.s f.m)

-- LDRB, LDRSB, LDRH and LDRSH (register), encoding T2; with n = 1111 they are literal, with t = 1111 hints
abbrev pub ldrb_register_t2 : Row
ldrb_register_t2 =
    row_but (codes "1111100 X 0 0s 1 nnnn tttt 0 00000 ii mmmm")
    (codes "xxxxxxx x x xx x 1111 xxxx x xxxxx xx xxxx" ∷ codes "xxxxxxx x x xx x xxxx 1111 x xxxxx xx xxxx" ∷ [])
    (λ f. load_indexed_row (record {
      form = narrow_form f.X f.s;
      target = f.t;
      address = record { base = f.n; index = f.m; shift = f.i };
    }))

-- PLD and PLI (immediate), encoding T2, and the hint of a halfword; with n = 1111 they are literal
abbrev pub pld_immediate_t2 : Row
pld_immediate_t2 =
    row_but (codes "1111100 x 0 0s 1 xxxx 1111 1 1 0 0 xxxxxxxx")
    (codes "xxxxxxx x x xx x 1111 xxxx x x x x xxxxxxxx" ∷ [])
    (λ f. memory_hint_row f.s)

-- LDRBT, LDRSBT, LDRHT and LDRSHT, encoding T1; with n = 1111 they are literal
abbrev pub ldrbt_t1 : Row
ldrbt_t1 =
    row_but (codes "1111100 X 0 0s 1 nnnn tttt 1 1 1 0 iiiiiiii")
    (codes "xxxxxxx x x xx x 1111 xxxx x x x x xxxxxxxx" ∷ [])
    (λ f. load_unprivileged_row (narrow_form f.X f.s) f.t (at_offset f.n f.i))

-- LDRB and LDRH (immediate), encoding T3; LDRSB and LDRSH, encoding T2; with n = 1111 they are literal; with t = 1111
-- and P, U, W = 100 they are hints; P, U, W = 110 are the unprivileged forms; and P = 0 with W = 0 is UNDEFINED
abbrev pub ldrb_immediate_t3 : Row
ldrb_immediate_t3 =
    row_but (codes "1111100 X 0 0s 1 nnnn tttt 1 P U W iiiiiiii")
    (codes "xxxxxxx x x xx x 1111 xxxx x x x x xxxxxxxx" ∷
    codes "xxxxxxx x x xx x xxxx 1111 x 1 0 0 xxxxxxxx" ∷
    codes "xxxxxxx x x xx x xxxx xxxx x 1 1 0 xxxxxxxx" ∷
    codes "xxxxxxx x x xx x xxxx xxxx x 0 x 0 xxxxxxxx" ∷ [])
    (λ f. load_at_row (narrow_form f.X f.s) f.t (record {
      base = f.n;
      offset = signed_offset f.U f.i;
      indexing = indexing_of f.P f.W;
    }))

abbrev pub narrow_load_rows : List Row
narrow_load_rows =
    pld_literal_t1 ∷ ldrb_literal_t1 ∷ pld_immediate_t1 ∷ ldrb_immediate_t2 ∷ pld_register_t1 ∷ ldrb_register_t2 ∷
    pld_immediate_t2 ∷ ldrbt_t1 ∷ ldrb_immediate_t3 ∷ []

abbrev pub ldr_literal_t2 : Row
ldr_literal_t2 =
    row (codes "11111000 U 10 1 1111 tttt iiiiiiiiiiii")
    (λ f. load_literal_row word_form f.t (signed_offset f.U f.i))

-- LDR (immediate), encoding T3; with n = 1111 it is literal
abbrev pub ldr_immediate_t3 : Row
ldr_immediate_t3 =
    row_but (codes "11111000 1 10 1 nnnn tttt iiiiiiiiiiii")
    (codes "xxxxxxxx x xx x 1111 xxxx xxxxxxxxxxxx" ∷ [])
    (λ f. load_at_row word_form f.t (at_offset f.n f.i))

-- LDR (register), encoding T2; with n = 1111 it is literal
abbrev pub ldr_register_t2 : Row
ldr_register_t2 =
    row_but (codes "11111000 0 10 1 nnnn tttt 0 00000 ii mmmm")
    (codes "xxxxxxxx x xx x 1111 xxxx x xxxxx xx xxxx" ∷ [])
    (λ f. load_indexed_row (record {
      form = word_form;
      target = f.t;
      address = record { base = f.n; index = f.m; shift = f.i };
    }))

-- LDRT, encoding T1; with n = 1111 it is literal
abbrev pub ldrt_t1 : Row
ldrt_t1 =
    row_but (codes "11111000 0 10 1 nnnn tttt 1 1 1 0 iiiiiiii")
    (codes "xxxxxxxx x xx x 1111 xxxx x x x x xxxxxxxx" ∷ [])
    (λ f. load_unprivileged_row word_form f.t (at_offset f.n f.i))

-- LDR (immediate), encoding T4; with n = 1111 it is literal; P, U, W = 110 is LDRT, and P = 0 with W = 0 is UNDEFINED
abbrev pub ldr_immediate_t4 : Row
ldr_immediate_t4 =
    row_but (codes "11111000 0 10 1 nnnn tttt 1 P U W iiiiiiii")
    (codes "xxxxxxxx x xx x 1111 xxxx x x x x xxxxxxxx" ∷
    codes "xxxxxxxx x xx x xxxx xxxx x 1 1 0 xxxxxxxx" ∷
    codes "xxxxxxxx x xx x xxxx xxxx x 0 x 0 xxxxxxxx" ∷ [])
    (λ f. load_at_row word_form f.t (record {
      base = f.n;
      offset = signed_offset f.U f.i;
      indexing = indexing_of f.P f.W;
    }))

abbrev pub word_load_rows : List Row
word_load_rows =
    ldr_literal_t2 ∷ ldr_immediate_t3 ∷ ldr_register_t2 ∷ ldrt_t1 ∷ ldr_immediate_t4 ∷ []
