-- No two rows of a ranking have a symbol of the same address and name.
use Rattle.std.proofs.Common.{◌≡◌, inl, inr, ℕ, zero, suc, ◌+◌, ◌<◌, true, false, ◌&&◌, ◌==◌, nat_lt}
use Rattle.std.proofs.Common.{List, [], ◌∷◌, length, get_or, take, refl, sym, ap, ◌∙◌, arith, subst}
use Rattle.std.specs.List.{All, list_any}
use Rattle.std.proofs.lemmas.Bool.{cases_Bool, or_parts, or_from, and_parts, and_from, eqb-true, eq-eqb, false≢true}
use Rattle.std.proofs.lemmas.Bool.{false_from_ne_true}
use Rattle.std.proofs.lemmas.List.{get_or-take, length-take}
use Rattle.std.proofs.lemmas.List.Elements.{All-head, All-tail, All-weaker}
use Rattle.std.proofs.lemmas.List.Folds.{list_any_at, list_any_kept}
use Rattle.symbols.specs.declared.symbol.Symbol.{Symbol}
use Rattle.symbol_steps.specs.declared.ranking.SymbolSteps.{SymbolSteps}
use Rattle.symbol_steps.specs.Rows.{AreDistinct, has_row_of, with_row}
use Rattle.symbol_steps.specs.Symbols.{is_twin}
use Rattle.symbol_steps.specs.Totals.{totals_sum}
use Rattle.symbol_steps.proofs.Ranked.{all_inserted, twin_own}

twin_back : (s t : Symbol) → is_twin s t ≡ true → is_twin t s ≡ true
twin_back s t is =
    let parts = and_parts (t.address == s.address) (t.name == s.name) is in
    and_from (s.address == t.address) (s.name == t.name)
    (eq-eqb s.address t.address (sym (eqb-true t.address s.address parts.0)))
    (eq-eqb s.name t.name (sym (eqb-true t.name s.name parts.1)))

apart_back : (s t : Symbol) → is_twin s t ≡ false → is_twin t s ≡ false
apart_back s t apart = false_from_ne_true (is_twin t s) (λ is. false≢true (sym apart ∙ twin_back t s is))

-- two symbols of the same address and name have the same twins
same_twins : (s t : Symbol) (list : List Symbol) → is_twin s t ≡ true
    → list_any (is_twin t) list ≡ list_any (is_twin s) list
same_twins s t list is =
    let parts = and_parts (t.address == s.address) (t.name == s.name) is in
    ap (λ (a : ℕ). list_any (λ (u : Symbol). (u.address == a) && (u.name == t.name)) list)
    (eqb-true t.address s.address parts.0)
    ∙ ap (λ (n : ℕ). list_any (λ (u : Symbol). (u.address == s.address) && (u.name == n)) list)
    (eqb-true t.name s.name parts.1)

-- a symbol without a twin in a list is apart from rows whose symbols have one
apart_from_rows : (s : Symbol) (list : List Symbol) (rows : List SymbolSteps) → list_any (is_twin s) list ≡ false
    → All (λ (row : SymbolSteps). list_any (is_twin row.symbol) list ≡ true) rows → has_row_of s rows ≡ false
apart_from_rows s list [] none all = refl
apart_from_rows s list (row ∷ rows) none all =
    let P : SymbolSteps → Type 0 = λ (row : SymbolSteps). list_any (is_twin row.symbol) list ≡ true in
    let here : list_any (is_twin row.symbol) list ≡ true = All-head P row rows all in
    or_from (is_twin s row.symbol) (has_row_of s rows)
    (false_from_ne_true (is_twin s row.symbol)
    (λ is. false≢true (sym none ∙ (sym (same_twins s row.symbol list is) ∙ here))))
    (apart_from_rows s list rows none (All-tail P row rows all))

-- one more row
apart_from_new : (s : Symbol) (new : SymbolSteps) (rows : List SymbolSteps) → is_twin s new.symbol ≡ false
    → has_row_of s rows ≡ false → has_row_of s (with_row new rows) ≡ false
apart_from_new s new [] apart none = or_from (is_twin s new.symbol) false apart refl
apart_from_new s new (row ∷ rows) apart none =
    let parts = or_parts (is_twin s row.symbol) (has_row_of s rows) none in
    elim (cases_Bool (nat_lt (totals_sum row.totals) (totals_sum new.totals))) [
      | inl e ↦
          rw e (or_from (is_twin s new.symbol) (has_row_of s (with_row row rows)) apart
          (apart_from_new s row rows parts.0 parts.1))
      | inr e ↦
          rw e (or_from (is_twin s row.symbol) (has_row_of s (with_row new rows)) parts.0
          (apart_from_new s new rows apart parts.1))
    ]

apart_with_row : (new : SymbolSteps) (rows : List SymbolSteps) → has_row_of new.symbol rows ≡ false → AreDistinct rows
    → AreDistinct (with_row new rows)
apart_with_row new [] none apart = (refl, tt)
apart_with_row new (row ∷ rows) none apart =
    let parts = or_parts (is_twin new.symbol row.symbol) (has_row_of new.symbol rows) none in
    elim (cases_Bool (nat_lt (totals_sum row.totals) (totals_sum new.totals))) [
      | inl e ↦
          rw e (apart_from_new new.symbol row rows parts.0 parts.1, apart_with_row row rows apart.0 apart.1)
      | inr e ↦
          rw e (
            apart_from_new row.symbol new rows (apart_back new.symbol row.symbol parts.0) apart.0,
            apart_with_row new rows parts.1 apart.1,
          )
    ]

none_of_first : (s : Symbol) (n : ℕ) (rows : List SymbolSteps) → has_row_of s rows ≡ false
    → has_row_of s (take n rows) ≡ false
none_of_first s zero rows none = refl
none_of_first s (suc n) [] none = refl
none_of_first s (suc n) (row ∷ rows) none =
    let parts = or_parts (is_twin s row.symbol) (has_row_of s rows) none in
    or_from (is_twin s row.symbol) (has_row_of s (take n rows)) parts.0 (none_of_first s n rows parts.1)

apart_of_first : (n : ℕ) (rows : List SymbolSteps) → AreDistinct rows → AreDistinct (take n rows)
apart_of_first zero rows apart = tt
apart_of_first (suc n) [] apart = tt
apart_of_first (suc n) (row ∷ rows) apart =
    (none_of_first row.symbol n rows apart.0, apart_of_first n rows apart.1)

-- the symbol of each row has a twin among the first of a list
abbrev pub AreAmong : List Symbol → List SymbolSteps → Type 0
AreAmong list rows = All (λ (row : SymbolSteps). list_any (is_twin row.symbol) list ≡ true) rows

pub apart_inserted : (list : List Symbol) (new : SymbolSteps) (rows after : List SymbolSteps)
    → after ≡ take 20 (with_row new rows) → list_any (is_twin new.symbol) list ≡ false → AreAmong list rows
    → AreDistinct rows → AreDistinct after
apart_inserted list new rows after is none among apart =
    subst AreDistinct (sym is) (apart_of_first 20 (with_row new rows)
    (apart_with_row new rows (apart_from_rows new.symbol list rows none among) apart))

pub among_more : (list : List Symbol) (n : ℕ) (rows : List SymbolSteps) → AreAmong (take n list) rows
    → AreAmong (take (n + 1) list) rows
among_more list n rows among =
    All-weaker (λ (row : SymbolSteps). list_any (is_twin row.symbol) (take n list) ≡ true)
    (λ (row : SymbolSteps). list_any (is_twin row.symbol) (take (n + 1) list) ≡ true)
    (λ row is. list_any_kept (is_twin row.symbol) list n is) rows among

pub among_inserted : (list : List Symbol) (n : ℕ) (new : SymbolSteps) (rows after : List SymbolSteps)
    → after ≡ take 20 (with_row new rows) → n < length list → get_or list n new.symbol ≡ new.symbol
    → AreAmong (take n list) rows → AreAmong (take (n + 1) list) after
among_inserted list n new rows after is below at among =
    let room : n < length (take (n + 1) list) = simp length-take (omega (arith, below)) in
    let item : get_or (take (n + 1) list) n new.symbol ≡ new.symbol =
    get_or-take (n + 1) list n new.symbol (omega arith) ∙ at in
    all_inserted (λ (row : SymbolSteps). list_any (is_twin row.symbol) (take (n + 1) list) ≡ true) new rows after is
    (list_any_at (is_twin new.symbol) (take (n + 1) list) n new.symbol room
    (ap (is_twin new.symbol) item ∙ twin_own new.symbol))
    (among_more list n rows among)
