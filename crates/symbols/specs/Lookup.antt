-- The symbol that names an address.
use Rattle.std.specs.Prelude.{ℕ, ◌+◌, Bool, true, false, ◌&&◌, ◌||◌, nat_le, nat_lt, ◌==◌, if◌then◌else◌, List, [], ◌∷◌}
use Rattle.std.specs.Prelude.{max, Option, Some, None}
use Rattle.symbols.specs.declared.symbol.Symbol.{Symbol}

-- the latest beginning of a symbol at or below an address, 0 where there is none
abbrev pub latest_below : ℕ → List Symbol → ℕ
latest_below a [] = 0
latest_below a (symbol ∷ symbols) =
    if nat_le symbol.address a then max symbol.address (latest_below a symbols) else latest_below a symbols

-- whether a symbol begins above an address
abbrev pub has_above : ℕ → List Symbol → Bool
has_above a [] = false
has_above a (symbol ∷ symbols) = nat_lt a symbol.address || has_above a symbols

-- whether a symbol covers an address, where the latest beginning at or below it is `latest`, and some symbol begins
-- above it if `above` is true: one of size 0 covers its own address, and those up to the next beginning
abbrev pub covers : ℕ → Bool → ℕ → Symbol → Bool
covers latest above a symbol =
    if nat_lt a symbol.address then false
    else if symbol.size == 0 then (symbol.address == a) || (above && (symbol.address == latest))
    else nat_lt a (symbol.address + symbol.size)

-- of two symbols that cover an address, the nearer: the one that begins later, or the first of the list
abbrev pub nearer : Option Symbol → Symbol → Option Symbol
nearer None symbol = Some symbol
nearer (Some best) symbol = if nat_lt best.address symbol.address then Some symbol else Some best

-- the nearest of the symbols that cover an address, those of a list and one found before
abbrev pub nearest_of : ℕ → Bool → ℕ → Option Symbol → List Symbol → Option Symbol
nearest_of latest above a best [] = best
nearest_of latest above a best (symbol ∷ symbols) =
    nearest_of latest above a (if covers latest above a symbol then nearer best symbol else best) symbols

-- the symbol that names an address, if one covers it
unfoldable pub symbol_of : List Symbol → ℕ → Option Symbol
symbol_of symbols a = nearest_of (latest_below a symbols) (has_above a symbols) a None symbols
