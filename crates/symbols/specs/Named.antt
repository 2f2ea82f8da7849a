-- The name of an address, and how far the address is into its symbol.
use Rattle.std.specs.Prelude.{◌≡◌, ℕ, ◌-◌, List, Option, Some, None}
use Rattle.std.specs.Str.{IsUtf8}
use Rattle.symbols.specs.declared.symbol.Symbol.{Symbol}
use Rattle.symbols.specs.Lookup.{symbol_of}
use Rattle.symbols.specs.Tables.{name_in}

-- a name and an offset are those of an address that a symbol covers, where there is one
abbrev pub NamesAddress : List ℕ → ℕ → Option Symbol → List ℕ → ℕ → Type 0
NamesAddress strings a None name offset = ⊥
NamesAddress strings a (Some symbol) name offset =
    (name ≡ name_in strings symbol.name) × (offset ≡ a - symbol.address)

-- an address has no name: no symbol covers it, or the name of the one that does is no UTF-8
abbrev pub IsNameless : List ℕ → Option Symbol → Type 0
IsNameless strings None = Unit {0}
IsNameless strings (Some symbol) = ¬ (IsUtf8 (name_in strings symbol.name))

-- a name and an offset are those of an address, by a string table and a list of symbols
abbrev pub NamesAt : List ℕ → List Symbol → ℕ → List ℕ → ℕ → Type 0
NamesAt strings symbols a name offset = NamesAddress strings a (symbol_of symbols a) name offset

-- an address has no name, by a string table and a list of symbols
abbrev pub IsNamelessAt : List ℕ → List Symbol → ℕ → Type 0
IsNamelessAt strings symbols a = IsNameless strings (symbol_of symbols a)
