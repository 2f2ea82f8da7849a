-- What holds of the rows, whatever the halfwords.
use Rattle.std.specs.Prelude.{◌≡◌, ℕ, Bool, true, false, ◌&&◌, ◌||◌, List, length, All, AllPairs, bytes_eq}
use Rattle.std.specs.List.{list_any}
use Rattle.instruction_set.specs.Patterns.{fits}
use Rattle.instruction_set.specs.Rows.{Row, applies}
use Rattle.row_laws.specs.Overlaps.{Overlap}

-- each row has that many places, one for each bit
abbrev pub HavePlaces : ℕ → List Row → Type 0
HavePlaces places rows = All (λ row. length row.places ≡ places) rows

-- no number has two rows, so rows may be in any order
abbrev pub AreDisjoint : List Row → Type 0
AreDisjoint rows = AllPairs (λ one other. (x : ℕ) → applies one x ≡ true → applies other x ≡ true → ⊥) rows

-- whether the list says that the second row wins over the first
abbrev pub has_overlap : List Overlap → Row → Row → Bool
has_overlap overlaps row other =
    list_any (λ o. bytes_eq row.places o.row.places && list_any (λ w. bytes_eq other.places w.places) o.others) overlaps

-- where two texts fit one number, the list has the two rows
abbrev pub OverlapOnly : List Overlap → List Row → Type 0
OverlapOnly overlaps rows =
    AllPairs
    (λ one other. (x : ℕ) → fits one.places x ≡ true → fits other.places x ≡ true
    → (has_overlap overlaps one other || has_overlap overlaps other one) ≡ true)
    rows

-- some number fits both texts, and where the winner's fits, the other row doesn't apply
abbrev pub WinsOver : Row → Row → Type 0
WinsOver winner row =
    ((x : ℕ) × (fits winner.places x ≡ true) × (fits row.places x ≡ true))
    × ((x : ℕ) → fits winner.places x ≡ true → applies row x ≡ false)

-- each winner of the list wins over its row
abbrev pub DoOverlap : List Overlap → Type 0
DoOverlap overlaps = All (λ o. All (λ winner. WinsOver winner o.row) o.others) overlaps
