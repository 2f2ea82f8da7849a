-- Sums, shifts, immediates and conditions, in whole numbers (ARM DDI 0403: "AddWithCarry()", "Shift and rotate
-- operations", "Operation of modified immediate constants, Thumb instructions", "Conditional execution" and "ITSTATE").
use Rattle.std.specs.Prelude.{ℕ, ◌+◌, ◌-◌, ◌*◌, ◌/◌, ◌%◌, ◌^◌, nat_lt, Bool, true, not, ◌&&◌, ◌==◌, if◌then◌else◌, ℤ}
use Rattle.std.specs.Prelude.{pos, ◌+ℤ◌, ◌-ℤ◌, Option, Some, None}
use Rattle.std.specs.Ordering.{int_eq}
use Rattle.instruction_set.specs.declared.registers.Flags.{Flags}
use Rattle.instruction_set.specs.declared.shift.Shift.{Shift}
use Rattle.instruction_set.specs.declared.shift.ShiftType.{ShiftType}
use Rattle.instruction_set.specs.declared.shift.ShiftType.TheVariants.{Lsl, Lsr, Asr, Ror, Rrx}
use Rattle.instruction_set.specs.Words.{is_bit}

-- a word read as signed: SInt(x)
abbrev pub signed : ℕ → ℤ
signed x = if nat_lt x (2 ^ 31) then pos x else pos x -ℤ pos (2 ^ 32)

-- a carry as a number: 1 where it is set
abbrev pub carry_value : Bool → ℕ
carry_value c = if c then 1 else 0

-- the unsigned sum of two words and a carry
abbrev pub unsigned_sum : ℕ → ℕ → Bool → ℕ
unsigned_sum x y c = x + y + carry_value c

-- their signed sum
abbrev pub signed_sum : ℕ → ℕ → Bool → ℤ
signed_sum x y c = signed x +ℤ signed y +ℤ pos (carry_value c)

-- the low 32 bits of the sum
abbrev pub sum_result : ℕ → ℕ → Bool → ℕ
sum_result x y c = unsigned_sum x y c % 2 ^ 32

-- AddWithCarry(x, y, c): the result, carry_out where the unsigned sum isn't the result, and overflow where the signed
-- sum isn't the result read as signed
abbrev pub add_with_carry : ℕ → ℕ → Bool → ℕ × Bool × Bool
add_with_carry x y c = (
  sum_result x y c,
  not (unsigned_sum x y c == sum_result x y c),
  not (int_eq (signed_sum x y c) (signed (sum_result x y c))),
)

-- LSL_C(x, n) for n from 1: the word, and the last bit out
abbrev pub lsl_c : ℕ → ℕ → ℕ × Bool
lsl_c x n = (x * 2 ^ n % 2 ^ 32, is_bit (x * 2 ^ n) 32)

-- LSR_C(x, n) for n from 1
abbrev pub lsr_c : ℕ → ℕ → ℕ × Bool
lsr_c x n = (x / 2 ^ n, is_bit x (n - 1))

-- the word with n more bits above it, each the sign: SignExtend(x, 32 + n)
abbrev pub sign_extended_by : ℕ → ℕ → ℕ
sign_extended_by n x = if is_bit x 31 then x + (2 ^ n - 1) * 2 ^ 32 else x

-- ASR_C(x, n) for n from 1
abbrev pub asr_c : ℕ → ℕ → ℕ × Bool
asr_c x n = (sign_extended_by n x / 2 ^ n, is_bit (sign_extended_by n x) (n - 1))

-- the word rotated right by n below 32: LSR(x, n) OR LSL(x, 32 - n), which have no bit in common
abbrev pub rotated : ℕ → ℕ → ℕ
rotated x n = x / 2 ^ n + x * 2 ^ (32 - n) % 2 ^ 32

-- ROR_C(x, n) for n from 1: the word rotated by n MOD 32, and its bit 31
abbrev pub ror_c : ℕ → ℕ → ℕ × Bool
ror_c x n = (rotated x (n % 32), is_bit (rotated x (n % 32)) 31)

-- RRX_C(x, c): the carry comes in at bit 31, and bit 0 goes out
abbrev pub rrx_c : ℕ → Bool → ℕ × Bool
rrx_c x c = (carry_value c * 2 ^ 31 + x / 2, is_bit x 0)

-- Shift_C(x, type, n, c) for n from 1; RRX is by one place
abbrev pub shift_by : ShiftType → ℕ → ℕ → Bool → ℕ × Bool
shift_by Lsl x n c = lsl_c x n
shift_by Lsr x n c = lsr_c x n
shift_by Asr x n c = asr_c x n
shift_by Ror x n c = ror_c x n
shift_by Rrx x n c = rrx_c x c

-- Shift_C(x, type, n, c): by 0 the word and the carry stay
unfoldable pub shift_c : ℕ → ShiftType → ℕ → Bool → ℕ × Bool
shift_c x type n c = if n == 0 then (x, c) else shift_by type x n c

-- DecodeImmShift(type, imm5): LSR and ASR by 0 mean by 32, and ROR by 0 is RRX
abbrev pub decode_imm_shift : ℕ → ℕ → Shift
decode_imm_shift type imm5 =
    if type == 0 then record { shift_type = Lsl; amount = imm5 }
    else if type == 1 then record { shift_type = Lsr; amount = if imm5 == 0 then 32 else imm5 }
    else if type == 2 then record { shift_type = Asr; amount = if imm5 == 0 then 32 else imm5 }
    else if imm5 == 0 then record { shift_type = Rrx; amount = 1 }
    else record { shift_type = Ror; amount = imm5 }

-- a byte at the places of one of the four patterns: 000000XY, 00XY00XY, XY00XY00, XYXYXYXY
abbrev pub replicated : ℕ → ℕ → ℕ
replicated pattern byte =
    if pattern == 0 then byte
    else if pattern == 1 then byte * 2 ^ 16 + byte
    else if pattern == 2 then byte * 2 ^ 24 + byte * 2 ^ 8
    else byte * 2 ^ 24 + byte * 2 ^ 16 + byte * 2 ^ 8 + byte

-- the byte in its pattern, with the carry unchanged; `None` (UNPREDICTABLE) for a replicated byte of 0
abbrev pub expand_pattern : ℕ → ℕ → Bool → Option (ℕ × Bool)
expand_pattern pattern byte c =
    if byte == 0 && not (pattern == 0) then None else Some (replicated pattern byte, c)

-- ThumbExpandImm_C(imm12, c): a byte in a pattern, or 1 and the low seven bits rotated right by the top five
unfoldable pub expand_imm : ℕ → Bool → Option (ℕ × Bool)
expand_imm imm12 c =
    if nat_lt imm12 (2 ^ 10)
    then expand_pattern (imm12 / 2 ^ 8) (imm12 % 2 ^ 8) c
    else Some (ror_c (2 ^ 7 + imm12 % 2 ^ 7) (imm12 / 2 ^ 7))

-- whether two flags are equal
abbrev pub same : Bool → Bool → Bool
same a b = if a then b else not b

-- the condition of cond<3:1>: EQ, CS, MI, VS, HI, GE, GT and AL
abbrev pub base_condition : ℕ → Flags → Bool
base_condition base f =
    if base == 0 then f.zero
    else if base == 1 then f.carry
    else if base == 2 then f.negative
    else if base == 3 then f.overflow
    else if base == 4 then f.carry && not f.zero
    else if base == 5 then same f.negative f.overflow
    else if base == 6 then same f.negative f.overflow && not f.zero
    else true

-- ConditionHolds(cond): where cond<0> is 1 the condition is inverted, except 1111, which always holds
abbrev pub condition_holds : ℕ → Flags → Bool
condition_holds condition f =
    if is_bit condition 0 && not (condition == 15)
    then not (base_condition (condition / 2) f)
    else base_condition (condition / 2) f

-- InITBlock()
abbrev pub in_it_block : ℕ → Bool
in_it_block it_state = not (it_state % 2 ^ 4 == 0)

-- LastInITBlock()
abbrev pub last_in_it_block : ℕ → Bool
last_in_it_block it_state = it_state % 2 ^ 4 == 8

-- CurrentCond() of an instruction that has none of its own: that of the IT block, or AL outside one. IT<3:0> = 0
-- where IT<7:4> isn't 0 is UNPREDICTABLE in CurrentCond(); here it is AL (profile)
abbrev pub current_condition : ℕ → ℕ
current_condition it_state = if in_it_block it_state then it_state / 2 ^ 4 else 14

-- ConditionPassed() of such an instruction
abbrev pub condition_passed : ℕ → Flags → Bool
condition_passed it_state f = condition_holds (current_condition it_state) f

-- ITAdvance(): the low five bits move left by one, but after the last instruction of the block all eight become 0;
-- outside a block nothing moves (profile)
abbrev pub it_advance : ℕ → ℕ
it_advance it_state =
    if not (in_it_block it_state) then it_state
    else if it_state % 2 ^ 3 == 0 then 0
    else it_state / 2 ^ 5 * 2 ^ 5 + it_state * 2 % 2 ^ 5
