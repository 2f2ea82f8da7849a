-- The rows of a ranking: one more row, and the first symbol of an address and name.
use Rattle.std.proofs.Common.{◌≡◌, inl, inr, ℕ, zero, suc, ◌+◌, ◌-◌, ◌^◌, ◌<◌, ◌≤◌, Bool, true, false}
use Rattle.std.proofs.Common.{nat_lt, List, [], ◌∷◌, ◌++◌, length, get_or, set, take, drop, Some}
use Rattle.std.proofs.Common.{refl, sym, ◌∙◌, arith, append_assoc, subst, ◌==◌}
use Rattle.std.specs.List.{All, find, list_any}
use Rattle.std.proofs.lemmas.Bool.{cases_Bool, ltb-true, ltb-false, or_parts, lt-ltb, le-ltb, and_from, eq-eqb}
use Rattle.std.proofs.lemmas.List.{take_more, take_more_set, drop-set-lt, drop_more, get_or-take, length-take, take_at}
use Rattle.std.proofs.lemmas.List.{get_or_default}
use Rattle.std.proofs.Math.Seq.{take-set-lt}
use Rattle.std.proofs.lemmas.List.Elements.{All-nil, All-cons, All-head, All-tail, All-take}
use Rattle.symbol_steps.specs.declared.ranking.SymbolSteps.{SymbolSteps}
use Rattle.symbol_steps.specs.Rows.{AreAtMost, AreDescending, with_row}
use Rattle.symbol_steps.specs.Symbols.{is_twin}
use Rattle.symbol_steps.specs.Totals.{totals_sum}
use Rattle.symbols.specs.declared.symbol.Symbol.{Symbol}

-- what holds of each row and of a new one holds of each row then
pub all_with_row : (P : SymbolSteps → Type 0) (new : SymbolSteps) (rows : List SymbolSteps) → P new → All P rows
    → All P (with_row new rows)
all_with_row P new [] is all = All-cons P new [] is (All-nil P)
all_with_row P new (row ∷ rows) is all =
    let here : P row = All-head P row rows all in
    let rest : All P rows = All-tail P row rows all in
    elim (cases_Bool (nat_lt (totals_sum row.totals) (totals_sum new.totals))) [
      | inl e ↦ rw e (All-cons P new (with_row row rows) is (all_with_row P row rows here rest))
      | inr e ↦ rw e (All-cons P row (with_row new rows) here (all_with_row P new rows is rest))
    ]

-- a lower bound is one too
at_most_more : (m n : ℕ) (rows : List SymbolSteps) → m ≤ n → AreAtMost m rows → AreAtMost n rows
at_most_more m n [] le most = tt
at_most_more m n (row ∷ rows) le most =
    let here : totals_sum row.totals ≤ m = most.0 in (omega (arith, here, le), most.1)

-- a new row keeps the order
at_most_with_row : (n : ℕ) (new : SymbolSteps) (rows : List SymbolSteps) → totals_sum new.totals ≤ n → AreAtMost n rows
    → AreAtMost n (with_row new rows)
at_most_with_row n new [] few most = (few, tt)
at_most_with_row n new (row ∷ rows) few most =
    elim (cases_Bool (nat_lt (totals_sum row.totals) (totals_sum new.totals))) [
      | inl e ↦
          let less : totals_sum row.totals < totals_sum new.totals =
          ltb-true (totals_sum row.totals) (totals_sum new.totals) e in
          let le : totals_sum row.totals ≤ totals_sum new.totals = omega (arith, less) in
          rw e (
            few,
            at_most_with_row (totals_sum new.totals) row rows le
                (at_most_more (totals_sum row.totals) (totals_sum new.totals) rows le most.1),
          )
      | inr e ↦
          let le : totals_sum new.totals ≤ totals_sum row.totals =
          ltb-false (totals_sum row.totals) (totals_sum new.totals) e in
          rw e (most.0, at_most_with_row (totals_sum row.totals) new rows le most.1)
    ]

at_most_take : (n k : ℕ) (rows : List SymbolSteps) → AreAtMost n rows → AreAtMost n (take k rows)
at_most_take n zero rows most = tt
at_most_take n (suc k) [] most = tt
at_most_take n (suc k) (row ∷ rows) most = (most.0, at_most_take (totals_sum row.totals) k rows most.1)

-- a ranking's rows after one more
pub all_inserted : (P : SymbolSteps → Type 0) (new : SymbolSteps) (rows after : List SymbolSteps)
    → after ≡ take 20 (with_row new rows) → P new → All P rows → All P after
all_inserted P new rows after is right all =
    subst (All P) (sym is) (All-take P 20 (with_row new rows) (all_with_row P new rows right all))

pub descending_inserted : (new : SymbolSteps) (rows after : List SymbolSteps)
    → after ≡ take 20 (with_row new rows) → AreDescending rows → AreDescending after
descending_inserted new rows after is most =
    let few : totals_sum new.totals ≤ 2 ^ 64 - 1 = omega arith in
    subst AreDescending (sym is)
    (at_most_take (2 ^ 64 - 1) 20 (with_row new rows) (at_most_with_row (2 ^ 64 - 1) new rows few most))

pub few_inserted : (new : SymbolSteps) (rows after : List SymbolSteps) → after ≡ take 20 (with_row new rows)
    → length after ≤ 20
few_inserted new rows after is = rw is (simp length-take (omega arith))

-- a step of the loop that inserts a row: the row at a place has fewer instructions, and goes further
pub sink_fewer : (rows after : List SymbolSteps) (used place a b : ℕ) (moved next d : SymbolSteps) → place < used
    → used ≤ length rows → after ≡ set rows place moved → next ≡ get_or rows place d
    → a ≡ totals_sum (get_or rows place d).totals → b ≡ totals_sum moved.totals → a < b
    → take (place + 1) after ++ with_row next (drop (place + 1) (take used after))
    ≡ take place rows ++ with_row moved (drop place (take used rows))
sink_fewer rows after used place a b moved next d below within is at here there fewer =
    let room : place < length rows = omega (arith, below, within) in
    let cut : place < length (take used rows) = simp length-take (omega (arith, below, within)) in
    let item = get_or-take used rows place d below in
    let rest = drop_more (take used rows) place d cut in
    let less : totals_sum (get_or rows place d).totals < totals_sum moved.totals = omega (arith, here, there, fewer) in
    rw (
      is,
      at,
      take_more_set rows place moved room,
      take-set-lt used rows place moved below,
      drop-set-lt (place + 1) (take used rows) place moved (omega arith),
      rest,
      item,
    )
    (rw (lt-ltb (totals_sum (get_or rows place d).totals) (totals_sum moved.totals) less)
    (append_assoc (take place rows) (moved ∷ [])
    (with_row (get_or rows place d) (drop (place + 1) (take used rows)))))

-- the row at a place has no fewer, and stays
pub sink_more : (rows after : List SymbolSteps) (used place a b : ℕ) (moved next d : SymbolSteps) → place < used
    → used ≤ length rows → after ≡ rows → next ≡ moved
    → a ≡ totals_sum (get_or rows place d).totals → b ≡ totals_sum moved.totals → b ≤ a
    → take (place + 1) after ++ with_row next (drop (place + 1) (take used after))
    ≡ take place rows ++ with_row moved (drop place (take used rows))
sink_more rows after used place a b moved next d below within is at here there more =
    let room : place < length rows = omega (arith, below, within) in
    let cut : place < length (take used rows) = simp length-take (omega (arith, below, within)) in
    let item = get_or-take used rows place d below in
    let rest = drop_more (take used rows) place d cut in
    let le : totals_sum moved.totals ≤ totals_sum (get_or rows place d).totals = omega (arith, here, there, more) in
    rw (is, at, take_more rows place d room, rest, item)
    (rw (le-ltb (totals_sum (get_or rows place d).totals) (totals_sum moved.totals) le)
    (append_assoc (take place rows) (get_or rows place d ∷ []) (with_row moved (drop (place + 1) (take used rows)))))

-- the last row goes where all places are used
pub insert_full : (used : ℕ) (now rows after : List SymbolSteps) (row last : SymbolSteps) → used ≡ 20
    → length after ≡ 20 → take used rows ≡ now → take used after ++ last ∷ [] ≡ with_row row (take used rows)
    → take used after ≡ take 20 (with_row row now)
insert_full used now rows after row last full long view is =
    let many : length (take used after) ≡ 20 = simp length-take (omega (arith, full, long)) in
    rw (← view, ← is) (sym (take_at (take used after) (last ∷ []) 20 many))

-- the element at a place is the first that passes a test, if none before it does
pub first_found : {X : Type 0} (p : X → Bool) (xs : List X) (i : ℕ) (x : X) → i < length xs → get_or xs i x ≡ x
    → list_any p (take i xs) ≡ false → p x ≡ true → find p xs ≡ Some x
first_found p [] i x below at none is = absurd (omega (arith, below))
first_found p (y ∷ xs) zero x below at none is = rw (at, is) refl
first_found p (y ∷ xs) (suc i) x below at none is =
    let parts = or_parts (p y) (list_any p (take i xs)) none in
    rw parts.0 (first_found p xs i x (omega (arith, below)) at parts.1 is)

pub twin_own : (s : Symbol) → is_twin s s ≡ true
twin_own s = and_from (s.address == s.address) (s.name == s.name) (eq-eqb s.address s.address refl)
    (eq-eqb s.name s.name refl)

-- the symbol at a place of a list is the first with its address and name, if none before it has them
pub row_first : (items list : List Symbol) (place : ℕ) (d : Symbol) (has : Bool) → list ≡ items → place < length items
    → has ≡ list_any (is_twin (get_or list place d)) (take place list) → has ≡ false
    → find (is_twin (get_or list place d)) items ≡ Some (get_or list place d)
row_first items list place d has is below any none =
    let s : Symbol = get_or list place d in
    let room : place < length list = rw is below in
    let here : get_or list place s ≡ s = get_or_default list place s d room in
    subst (λ (xs : List Symbol). find (is_twin s) xs ≡ Some s) is
    (first_found (is_twin s) list place s room here (sym any ∙ none) (twin_own s))
