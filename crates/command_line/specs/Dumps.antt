-- What `--dump` asks for: ADDR:LENGTH=FILE (profile).
use Rattle.std.specs.Prelude.{◌≡◌, ◌≤◌, ◌^◌, ◌-◌, ◌==◌, ℕ, nat_lt, if◌then◌else◌, List, length, map, Option, Some, None}
use Rattle.std.specs.Borrow.{Bor}
use Rattle.std.specs.List.{after_first, before_first, position_or_len}
use Rattle.command_line.specs.declared.dumps.Dump.{Dump}
use Rattle.debugger_commands.specs.Words.{number, number_within}

-- the texts before and after a character
pub record SplitText : Type 0 where
  pub before : List ℕ
  pub after : List ℕ

-- two borrowed texts
abbrev pub parts_of : Bor (List ℕ) × Bor (List ℕ) → SplitText
parts_of parts = record { before = parts.0.now; after = parts.1.now }

-- a text around the first of these characters, if it has one
abbrev pub parts_at : ℕ → List ℕ → Option SplitText
parts_at c text =
    if nat_lt (position_or_len (λ b. b == c) text) (length text)
    then Some (record { before = before_first (λ b. b == c) text; after = after_first (λ b. b == c) text })
    else None

-- characters
abbrev pub colon : ℕ
colon = 58

abbrev pub equals : ℕ
equals = 61

-- the bytes that are asked for, by their first address and their count, and the path of the file for them
pub record DumpValue : Type 0 where
  pub address : ℕ
  pub length : ℕ
  pub path : List ℕ

abbrev pub of_numbers : Option ℕ → Option ℕ → List ℕ → Option DumpValue
of_numbers None n path = None
of_numbers (Some a) None path = None
of_numbers (Some a) (Some n) path = Some (record { address = a; length = n; path = path })

-- two numbers with a colon between them: the length isn't 0
abbrev pub of_range : Option SplitText → List ℕ → Option DumpValue
of_range None path = None
of_range (Some range) path = of_numbers (number range.before) (number_within 1 (2 ^ 32 - 1) range.after) path

abbrev pub of_parts : Option SplitText → Option DumpValue
of_parts None = None
of_parts (Some parts) = of_range (parts_at colon parts.before) parts.after

-- the dump that a text asks for: what is before its first `=` is the range, and all after it is the path
abbrev pub dump_named : List ℕ → Option DumpValue
dump_named text = of_parts (parts_at equals text)

-- what a dump is
abbrev pub value_of : Dump → DumpValue
value_of dump = record { address = dump.address; length = dump.length; path = dump.path.now }

-- the most dumps of a run
abbrev pub max_dumps : ℕ
max_dumps = 16

-- each text asks for the dump at its place
abbrev pub AreDumps : List (List ℕ) → List Dump → Type 0
AreDumps texts dumps =
    (length texts ≤ max_dumps) × (map dump_named texts ≡ map (λ d. Some (value_of d)) dumps)
