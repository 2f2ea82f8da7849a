-- The rows of a ranking.
use Rattle.std.specs.Prelude.{◌≡◌, ℕ, ◌+◌, ◌≤◌, ◌<◌, ◌^◌, ◌-◌, Bool, true, false, nat_lt, if◌then◌else◌}
use Rattle.std.specs.Prelude.{List, [], ◌∷◌, Some}
use Rattle.std.specs.List.{find, list_any}
use Rattle.survey.specs.declared.survey.Survey.{Survey}
use Rattle.symbols.specs.declared.symbol.Symbol.{Symbol}
use Rattle.symbol_steps.specs.declared.ranking.SymbolSteps.{SymbolSteps}
use Rattle.symbol_steps.specs.declared.totals.Totals.{Totals}
use Rattle.symbol_steps.specs.Symbols.{is_twin, symbol_totals}
use Rattle.symbol_steps.specs.Totals.{capped, totals_by, totals_sum}

-- a row is right: its symbol is the first of the list with its address and name, and it has the totals of that symbol,
-- which aren't 0
abbrev pub IsRowOf : Survey → List Symbol → SymbolSteps → Type 0
IsRowOf v symbols row =
    (find (is_twin row.symbol) symbols ≡ Some row.symbol) × (row.totals ≡ symbol_totals v symbols row.symbol)
    × (0 < totals_sum row.totals)

-- each row has at most as many instructions as the one before, and the first at most n
abbrev pub AreAtMost : ℕ → List SymbolSteps → Type 0
AreAtMost n [] = Unit {0}
AreAtMost n (row ∷ rows) = (totals_sum row.totals ≤ n) × AreAtMost (totals_sum row.totals) rows

-- the rows go from the most instructions on
abbrev pub AreDescending : List SymbolSteps → Type 0
AreDescending rows = AreAtMost (2 ^ 64 - 1) rows

-- a row has a symbol of the same address and name as a symbol
abbrev pub has_row_of : Symbol → List SymbolSteps → Bool
has_row_of s rows = list_any (λ row. is_twin s row.symbol) rows

-- no two rows have a symbol of the same address and name
abbrev pub AreDistinct : List SymbolSteps → Type 0
AreDistinct [] = Unit {0}
AreDistinct (row ∷ rows) = (has_row_of row.symbol rows ≡ false) × AreDistinct rows

-- rows with one more, each row that has fewer instructions a place further
abbrev pub with_row : SymbolSteps → List SymbolSteps → List SymbolSteps
with_row new [] = new ∷ []
with_row new (row ∷ rows) =
    if nat_lt (totals_sum row.totals) (totals_sum new.totals) then new ∷ with_row row rows
    else row ∷ with_row new rows

-- the number of a privilege
abbrev pub number_of : Bool → Totals → ℕ
number_of false t = t.unprivileged
number_of true t = t.privileged

-- the sum of the numbers of a privilege in rows
abbrev pub rows_sum : Bool → List SymbolSteps → ℕ
rows_sum privileged [] = 0
rows_sum privileged (row ∷ rows) = number_of privileged row.totals + rows_sum privileged rows

-- the instructions of all rows
abbrev pub rows_totals : List SymbolSteps → Totals
rows_totals rows = totals_by (λ privileged. capped (rows_sum privileged rows))
