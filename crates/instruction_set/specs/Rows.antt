-- What a row of the instruction set is, and what a number means by a list of rows (ARM DDI 0403, "The Thumb
-- instruction set encoding").
use Rattle.std.specs.Prelude.{ℕ, Bool, true, false, not, ◌&&◌, ◌||◌, ◌==◌, if◌then◌else◌, List, Option, Some, None}
use Rattle.std.specs.Prelude.{[], find, map}
use Rattle.std.specs.List.{list_any}
use Rattle.instruction_set.specs.declared.instruction.ItPosition.{ItPosition}
use Rattle.instruction_set.specs.declared.instruction.ItPosition.TheVariants.{Anywhere, LastOnly}
use Rattle.instruction_set.specs.declared.instruction.Decoded.{Decoded}
use Rattle.instruction_set.specs.declared.instruction.Decoded.TheVariants.{Instr, Unpredictable}
use Rattle.instruction_set.specs.declared.instruction.Instruction.{Instruction}
use Rattle.instruction_set.specs.declared.instruction.InstructionLength.{InstructionLength}
use Rattle.instruction_set.specs.declared.instruction.InstructionLength.TheVariants.{Short, Long}
use Rattle.instruction_set.specs.declared.unpredictable.UnpredictableCase.{UnpredictableCase}
use Rattle.instruction_set.specs.declared.unpredictable.UnpredictableCase.TheVariants.{Encoding}
use Rattle.instruction_set.specs.Patterns.{unspaced, fits, is_as_printed, field}

-- ---- a row

-- the fields of a number by the letters of a row; a letter that the row doesn't have is 0
pub record Letters : Type 0 where
  pub a : ℕ
  pub b : ℕ
  pub c : ℕ
  pub d : ℕ
  pub e : ℕ
  pub h : ℕ
  pub i : ℕ
  pub j : ℕ
  pub k : ℕ
  pub l : ℕ
  pub m : ℕ
  pub n : ℕ
  pub p : ℕ
  pub r : ℕ
  pub s : ℕ
  pub t : ℕ
  pub u : ℕ
  pub w : ℕ
  pub A : ℕ
  pub F : ℕ
  pub H : ℕ
  pub I : ℕ
  pub J : ℕ
  pub K : ℕ
  pub M : ℕ
  pub P : ℕ
  pub S : ℕ
  pub U : ℕ
  pub W : ℕ
  pub X : ℕ

-- a row's text, the exceptions to it, as texts with the same places, and the decoding of its fields
pub record Row : Type 0 where
  pub places : List ℕ
  pub except : List (List ℕ)
  pub gives : Letters → Decoded

-- the row of a text and a decoding, with no exceptions. The tables have the rows in the manual's order, each with the
-- manual's name of its encoding; a row that a law names is defined above its table: `and_register_t2` is AND (register),
-- encoding T2
abbrev pub row : List ℕ → (Letters → Decoded) → Row
row text gives = record { places = unspaced text; except = []; gives = gives }

-- the row of a text and a decoding, but for the numbers that one of these texts fits
abbrev pub row_but : List ℕ → List (List ℕ) → (Letters → Decoded) → Row
row_but text exceptions gives = record { places = unspaced text; except = map unspaced exceptions; gives = gives }

-- the fields by their letters' characters
abbrev pub letters : (ℕ → ℕ) → Letters
letters value = record {
  a = value 97;
  b = value 98;
  c = value 99;
  d = value 100;
  e = value 101;
  h = value 104;
  i = value 105;
  j = value 106;
  k = value 107;
  l = value 108;
  m = value 109;
  n = value 110;
  p = value 112;
  r = value 114;
  s = value 115;
  t = value 116;
  u = value 117;
  w = value 119;
  A = value 65;
  F = value 70;
  H = value 72;
  I = value 73;
  J = value 74;
  K = value 75;
  M = value 77;
  P = value 80;
  S = value 83;
  U = value 85;
  W = value 87;
  X = value 88;
}

-- whether a row applies to a number: its text fits, and none of the exceptions does
abbrev pub applies : Row → ℕ → Bool
applies row number = fits row.places number && not (list_any (λ text. fits text number) row.except)

-- the row's meaning, or UNPREDICTABLE encoding where a bit printed (0) or (1) has the other value
abbrev pub as_printed : Bool → Decoded → Decoded
as_printed true decoded = decoded
as_printed false decoded = Unpredictable Anywhere Encoding

-- the decoding of the number by a row that applies
abbrev pub by_row : Row → ℕ → Decoded
by_row row number = as_printed (is_as_printed row.places number) (row.gives (letters (field row.places number)))

-- the decoding by the row that applies, if one does
abbrev pub by_found : Decoded → ℕ → Option Row → Decoded
by_found otherwise number None = otherwise
by_found otherwise number (Some row) = by_row row number

-- what a number means by the row of a list that applies; row_laws proves that at most one row applies
unfoldable pub meaning : List Row → Decoded → ℕ → Decoded
meaning rows otherwise number = by_found otherwise number (find (λ row. applies row number) rows)

-- ---- the decoding of fields

-- an instruction of one halfword
abbrev pub short : Instruction → Decoded
short instruction = Instr (record { instruction = instruction; length = Short; place = Anywhere })

-- an instruction of two halfwords
abbrev pub long : Instruction → Decoded
long instruction = Instr (record { instruction = instruction; length = Long; place = Anywhere })

-- an instruction with the length of its encoding, and where in an IT block it may be
abbrev pub placed : InstructionLength → ItPosition → Instruction → Decoded
placed length place instruction = Instr (record { instruction = instruction; length = length; place = place })

-- an instruction that writes the PC may only be the last of an IT block
abbrev pub last_only_if : Bool → ItPosition
last_only_if writes_pc = if writes_pc then LastOnly else Anywhere

-- what a row says unless it is UNPREDICTABLE for that cause
abbrev pub unless : Bool → ItPosition → UnpredictableCase → Decoded → Decoded
unless true place cause decoded = Unpredictable place cause
unless false place cause decoded = decoded

-- whether a register is SP or PC: BadReg()
abbrev pub is_bad : ℕ → Bool
is_bad register = register == 13 || register == 15
