-- Where the bytes end that a symbol covers. What a symbol names is said without this: it is where the search for that
-- may end.
use Rattle.std.specs.Prelude.{ℕ, ◌+◌, ◌-◌, ◌/◌, ◌%◌, ◌^◌, min, Bool, not, ◌&&◌, ◌||◌, nat_le, nat_lt, ◌==◌}
use Rattle.std.specs.Prelude.{if◌then◌else◌, List, [], ◌∷◌}
use Rattle.std.specs.List.{list_all}
use Rattle.survey.specs.CodeCounts.{CodeCounts}
use Rattle.symbols.specs.declared.symbol.Symbol.{Symbol}
use Rattle.symbols.specs.Lookup.{has_above}
use Rattle.symbol_steps.specs.Symbols.{is_same}

-- the first beginning of a symbol above an address, 2^32 where there is none
abbrev pub next_above : ℕ → List Symbol → ℕ
next_above a [] = 2 ^ 32
next_above a (s ∷ symbols) =
    if nat_lt a s.address then min s.address (next_above a symbols) else next_above a symbols

-- the address after the last byte that a symbol covers: one without a size covers the bytes up to the next symbol, or
-- its own address alone if none begins above it
unfoldable pub end_of : List Symbol → Symbol → ℕ
end_of symbols s =
    if s.size == 0 then (if has_above s.address symbols then next_above s.address symbols else s.address + 1)
    else min (s.address + s.size) (2 ^ 32)

-- a symbol begins outside the bytes that another covers, or is that symbol
abbrev pub is_apart : Symbol → ℕ → Symbol → Bool
is_apart s end t = not (nat_le s.address t.address && nat_lt t.address end) || is_same s t

-- no other symbol begins among the bytes that a symbol covers
abbrev pub is_alone : List Symbol → Symbol → ℕ → Bool
is_alone symbols s end = list_all (is_apart s end) symbols

-- how many halfwords of a memory begin below an address
abbrev pub halfwords_below : ℕ → ℕ → ℕ
halfwords_below base a = (a - base) / 2 + (a - base) % 2

-- the first halfword of a memory that begins at an address or above it, and the number of those below another address
abbrev pub first_of : CodeCounts → ℕ → ℕ
first_of c a = min (halfwords_below c.base a) c.halfwords

abbrev pub length_of : CodeCounts → ℕ → ℕ → ℕ
length_of c a end = first_of c end - first_of c a
