-- How many instructions were carried out at the addresses that a symbol names.
use Rattle.std.specs.Prelude.{ℕ, Bool, false, ◌&&◌, ◌==◌, if◌then◌else◌, List, Option, Some, None}
use Rattle.survey.specs.CodeCounts.{CodeCounts}
use Rattle.survey.specs.declared.survey.Survey.{Survey}
use Rattle.symbols.specs.declared.symbol.Symbol.{Symbol}
use Rattle.symbols.specs.Lookup.{symbol_of}
use Rattle.symbol_steps.specs.declared.totals.Totals.{Totals}
use Rattle.symbol_steps.specs.Totals.{address_of, joined, number_at, sums_first}

-- two symbols have the same address and name
abbrev pub is_twin : Symbol → Symbol → Bool
is_twin s t = (t.address == s.address) && (t.name == s.name)

-- two symbols have the same address, name and size
abbrev pub is_same : Symbol → Symbol → Bool
is_same s t = is_twin s t && (t.size == s.size)

abbrev pub is_found : Symbol → Option Symbol → Bool
is_found s None = false
is_found s (Some t) = is_same s t

-- whether a symbol of a list is the one that names an address: of those that cover it, the one that begins last
abbrev pub names : List Symbol → Symbol → ℕ → Bool
names symbols s a = is_found s (symbol_of symbols a)

-- how many instructions of code of a privilege there were at a halfword of a memory, if a symbol names its address
abbrev pub named_number : List Symbol → Symbol → CodeCounts → Bool → ℕ → ℕ
named_number symbols s c privileged k =
    if names symbols s (address_of c k) then number_at c privileged k else 0

-- how many there were at the halfwords of a memory that a symbol names
unfoldable pub named_totals : List Symbol → Symbol → CodeCounts → Totals
named_totals symbols s c = sums_first (named_number symbols s c) c.halfwords

-- how many there were at the halfwords of flash and of RAM that a symbol names
abbrev pub symbol_totals : Survey → List Symbol → Symbol → Totals
symbol_totals v symbols s = joined (named_totals symbols s v.flash_code) (named_totals symbols s v.ram_code)
