-- What a search found lies in the file.
use Rattle.std.specs.Prelude.{ℕ, ◌+◌, ◌*◌, ◌≤◌, List, length}
use Rattle.symbols.specs.declared.places.Search.{Search}
use Rattle.symbols.specs.declared.places.Search.TheVariants.{Absent, Damaged, Found}

-- the tables that were found lie in the file, and there aren't too many symbols
abbrev pub AreInside : List ℕ → Search → Type 0
AreInside file Absent = Unit {0}
AreInside file Damaged = Unit {0}
AreInside file (Found p) =
    (p.table + 16 * p.count ≤ length file) × (p.strings ≤ p.strings_end) × (p.strings_end ≤ length file)
    × (p.count ≤ 65536)
