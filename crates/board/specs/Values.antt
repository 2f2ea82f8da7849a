-- The values of a document by the kinds that keys take (profile), over the `toml` crate's meaning of a document (TOML
-- 1.1). A check is made only where those before it passed, so the first refusal is the result.
use Rattle.std.specs.Prelude.{ℕ, suc, ℤ, pos, negsuc, Bool, true, false, ◌&&◌, ◌^◌, not, nat_lt, if◌then◌else◌, List}
use Rattle.std.specs.Prelude.{◌∷◌}
use Rattle.std.specs.Prelude.{bytes_eq, Option, Some, None, Result, Ok, Err}
use Rattle.std.specs.List.{list_any}
use Rattle.toml.specs.Data.{Data, Items, no_items, item, Members, no_members, member, as_integer, as_str, as_bool}
use Rattle.toml.specs.Data.{as_array, as_table}
use Rattle.platform.specs.declared.error.BoardError.{BoardError}
use Rattle.platform.specs.declared.error.BoardError.TheVariants.{MissingKey, WrongKind, OutOfRange, UnknownKey}

-- one check, and then another with its result
infixl 10 ◌>>=◌
abbrev pub ◌>>=◌ : {A B : Type 0} → Result A BoardError → (A → Result B BoardError) → Result B BoardError
(Ok given) >>= next = next given
(Err error) >>= next = Err error

-- a value of the kind that its key takes
abbrev pub of_kind : {A : Type 0} → Option A → Result A BoardError
of_kind None = Err WrongKind
of_kind (Some value) = Ok value

-- an integer that isn't negative: a whole number (`is_whole_blocks` in `Boards` is about whole blocks)
abbrev pub whole : Option ℤ → Result ℕ BoardError
whole None = Err WrongKind
whole (Some (pos n)) = Ok n
whole (Some (negsuc n)) = Err OutOfRange

-- the value at a key is a whole number
abbrev pub number : Option Data → Result ℕ BoardError
number None = Err MissingKey
number (Some value) = whole (as_integer value)

-- likewise for a key that may be missing
abbrev pub number_or : ℕ → Option Data → Result ℕ BoardError
number_or default None = Ok default
number_or default (Some value) = whole (as_integer value)

-- the value at a key is a word
abbrev pub word : Option Data → Result (List ℕ) BoardError
word None = Err MissingKey
word (Some value) = of_kind (as_str value)

-- a number in its range
abbrev pub where_ok : (ℕ → Bool) → Result ℕ BoardError → Result ℕ BoardError
where_ok ok (Ok n) = if ok n then Ok n else Err OutOfRange
where_ok ok (Err error) = Err error

-- each key is one of those that are known
abbrev pub has_only : List (List ℕ) → Members → Bool
has_only known no_members = true
has_only known (member key value others) = list_any (bytes_eq key) known && has_only known others

abbrev pub only : List (List ℕ) → Members → Result Members BoardError
only known fields = if has_only known fields then Ok fields else Err UnknownKey

-- how many items a list has
abbrev pub count : Items → ℕ
count no_items = 0
count (item value others) = suc (count others)

-- the value is a table
abbrev pub is_table : Option Members → Bool
is_table None = false
is_table (Some fields) = true

-- each item is a table
abbrev pub are_tables : Items → Bool
are_tables no_items = true
are_tables (item value others) = is_table (as_table value) && are_tables others

-- a list of tables, not more than `most`
abbrev pub tables : ℕ → Option Items → Result Items BoardError
tables most None = Err WrongKind
tables most (Some items) =
    if not (are_tables items) then Err WrongKind
    else if nat_lt most (count items) then Err OutOfRange
    else Ok items

-- the tables at a key, which may be missing: then there are none
abbrev pub tables_at : ℕ → Option Data → Result Items BoardError
tables_at most None = Ok no_items
tables_at most (Some value) = tables most (as_array value)
