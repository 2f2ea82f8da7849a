-- The name that a world's line has.
use Rattle.std.specs.Prelude.{ℕ, Bool, ◌&&◌, nat_le, if◌then◌else◌, List, [], Option, Some, None}
use Rattle.std.specs.List.{list_all}
use Rattle.symbols.specs.declared.symbol.Symbol.{Symbol}
use Rattle.symbols.specs.Lookup.{symbol_of}
use Rattle.symbols.specs.Tables.{name_in}

-- a byte is a visible character of ASCII, from `!` to `~`
abbrev pub is_visible : ℕ → Bool
is_visible byte = nat_le 0x21 byte && nat_le byte 0x7E

-- a name, or none where one of its bytes isn't visible: a space or the end of a line would be taken for one of the text
abbrev pub visible_name : List ℕ → List ℕ
visible_name name = if list_all is_visible name then name else []

abbrev pub name_of : List ℕ → Option Symbol → List ℕ
name_of strings None = []
name_of strings (Some symbol) = visible_name (name_in strings symbol.name)

-- the name of the symbol that names an address, by a string table and a list of symbols
unfoldable pub shown_name : List ℕ → List Symbol → ℕ → List ℕ
shown_name strings symbols a = name_of strings (symbol_of symbols a)
