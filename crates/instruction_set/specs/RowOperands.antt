-- Operands and choices that rows of several tables have in common.
use Rattle.std.specs.Prelude.{ℕ, Bool, ◌==◌, if◌then◌else◌, None, true, false, Option, Some}
use Rattle.instruction_set.specs.declared.system.Hint.{Hint}
use Rattle.instruction_set.specs.declared.system.Hint.TheVariants as hint
use Rattle.instruction_set.specs.declared.data_processing.FlagSetting.{FlagSetting}
use Rattle.instruction_set.specs.declared.data_processing.FlagSetting.TheVariants as flags
use Rattle.instruction_set.specs.declared.data_processing.Immediate.{Immediate}
use Rattle.instruction_set.specs.declared.load_store.ImmediateAddress.{ImmediateAddress}
use Rattle.instruction_set.specs.declared.load_store.Indexing.{Indexing}
use Rattle.instruction_set.specs.declared.load_store.Indexing.TheVariants.{Offset, PreIndexed, PostIndexed}
use Rattle.instruction_set.specs.declared.data_processing.ShiftedRegister.{ShiftedRegister}
use Rattle.instruction_set.specs.declared.system.SpecialRegister.{SpecialRegister}
use Rattle.instruction_set.specs.declared.system.SpecialRegister.TheVariants.{Apsr, Iapsr, Eapsr, Xpsr, Ipsr, Epsr}
use Rattle.instruction_set.specs.declared.system.SpecialRegister.TheVariants.{Iepsr, Msp, Psp, Primask, Basepri}
use Rattle.instruction_set.specs.declared.system.SpecialRegister.TheVariants.{BasepriMax, Faultmask, Control}
use Rattle.instruction_set.specs.declared.shift.ShiftType.TheVariants.{Lsl}
use Rattle.instruction_set.specs.declared.size.Size.{Size}
use Rattle.instruction_set.specs.declared.size.Size.TheVariants.{Byte, Halfword}
use Rattle.instruction_set.specs.Arithmetic.{decode_imm_shift}
use Rattle.instruction_set.specs.Words.{negated}

-- ---- data processing

-- a register that isn't shifted
abbrev pub unshifted : ℕ → ShiftedRegister
unshifted m = record { register = m; shift = record { shift_type = Lsl; amount = 0 } }

-- a register shifted by a number
unfoldable pub shifted_by_number : ℕ → ℕ → ℕ → ShiftedRegister
shifted_by_number m type imm5 = record { register = m; shift = decode_imm_shift type imm5 }

-- an immediate whose expansion has no carry: a logical operation or a move leaves C as it is
abbrev pub plain_immediate : ℕ → Immediate
plain_immediate value = record { value = value; carry = None }

-- S
abbrev pub flags_if : Bool → FlagSetting
flags_if sets = if sets then flags.Always else flags.Never

-- ---- addresses

-- a base and an offset, where the base stays
abbrev pub at_offset : ℕ → ℕ → ImmediateAddress
at_offset n offset = record { base = n; offset = offset; indexing = Offset }

-- an offset that is added where U is 1, and otherwise subtracted
unfoldable pub signed_offset : ℕ → ℕ → ℕ
signed_offset u offset = if u == 1 then offset else negated offset

-- P = 1: the offset is added before the access, and the base is written back where W = 1. P = 0: it is added after, and
-- the base is always written back
abbrev pub indexing_of : ℕ → ℕ → Indexing
indexing_of p w = if p == 1 then (if w == 1 then PreIndexed else Offset) else PostIndexed

-- whether the base register is written
abbrev pub writes_back : Indexing → Bool
writes_back Offset = false
writes_back PreIndexed = true
writes_back PostIndexed = true

-- byte, or halfword where the bit is 1
abbrev pub byte_or_halfword : ℕ → Size
byte_or_halfword bit = if bit == 1 then Halfword else Byte

-- ---- hints

-- the hints by their number
unfoldable pub hint_of : ℕ → Hint
hint_of number =
    if number == 0 then hint.NoOperation
    else if number == 1 then hint.Yield
    else if number == 2 then hint.WaitForEvent
    else if number == 3 then hint.WaitForInterrupt
    else if number == 4 then hint.SendEvent
    else hint.Unallocated

-- ---- special registers

-- the special register of a number: SYSm
abbrev pub special_of : ℕ → Option SpecialRegister
special_of number =
    if number == 0 then Some Apsr
    else if number == 1 then Some Iapsr
    else if number == 2 then Some Eapsr
    else if number == 3 then Some Xpsr
    else if number == 5 then Some Ipsr
    else if number == 6 then Some Epsr
    else if number == 7 then Some Iepsr
    else if number == 8 then Some Msp
    else if number == 9 then Some Psp
    else if number == 16 then Some Primask
    else if number == 17 then Some Basepri
    else if number == 18 then Some BasepriMax
    else if number == 19 then Some Faultmask
    else if number == 20 then Some Control
    else None
