-- Sums of numbers, and how they are capped.
use Rattle.std.proofs.Common.{◌≡◌, ℕ, zero, suc, ◌+◌, ◌-◌, ◌<◌, ◌≤◌, Bool, true, false, List, ◌∷◌}
use Rattle.std.proofs.Common.{refl, sym, ap, ◌∙◌, add-one, add-zero, arith}
use Rattle.std.proofs.Math.Nat.{add-suc}
use Rattle.symbol_steps.specs.declared.ranking.SymbolSteps.{SymbolSteps}
use Rattle.symbol_steps.specs.declared.totals.Totals.{Totals}
use Rattle.symbol_steps.specs.Rows.{rows_sum, rows_totals}
use Rattle.symbol_steps.specs.Totals.{capped, joined, sum_first, sums_first, totals_by}

-- adding to a capped sum
pub capped_more : (x y : ℕ) → capped (capped x + y) ≡ capped (x + y)
capped_more x y = omega arith

pub sum_one_more : (f : ℕ → ℕ) (n : ℕ) → sum_first f (n + 1) ≡ sum_first f n + f n
sum_one_more f n = rw add-one refl

-- two totals are one if their numbers are
pub totals_same : {a b c d : ℕ} → a ≡ b → c ≡ d
    → (let t : Totals = record { unprivileged = a; privileged = c } in t)
    ≡ (let t : Totals = record { unprivileged = b; privileged = d } in t)
totals_same e f = cc

-- one number more
pub sums_one_more : (f : Bool → ℕ → ℕ) (n : ℕ)
    → joined (sums_first f n) (totals_by (λ p. f p n)) ≡ sums_first f (n + 1)
sums_one_more f n =
    let u : capped (capped (sum_first (f false) n) + f false n) ≡ capped (sum_first (f false) (n + 1)) =
    rw (sum_one_more (f false) n) (capped_more (sum_first (f false) n) (f false n)) in
    let p : capped (capped (sum_first (f true) n) + f true n) ≡ capped (sum_first (f true) (n + 1)) =
    rw (sum_one_more (f true) n) (capped_more (sum_first (f true) n) (f true n)) in
    totals_same u p

-- a sum in two parts
pub sum_parts : (f : ℕ → ℕ) (m n : ℕ) → sum_first f (m + n) ≡ sum_first f m + sum_first (λ k. f (m + k)) n
sum_parts f m zero = ap (sum_first f) (add-zero m) ∙ sym (add-zero (sum_first f m))
sum_parts f m (suc n) =
    rw (add-suc m n, sum_parts f m n) (let x : ℕ = sum_first f m in let y : ℕ = sum_first (λ k. f (m + k)) n in
    let z : ℕ = f (m + n) in omega arith)

-- a sum of zeros
pub sum_zero : (f : ℕ → ℕ) (n : ℕ) → ((k : ℕ) → k < n → f k ≡ 0) → sum_first f n ≡ 0
sum_zero f zero none = refl
sum_zero f (suc n) none =
    let before : sum_first f n ≡ 0 = sum_zero f n (λ k below. none k (omega (arith, below))) in
    let last : f n ≡ 0 = none n (omega arith) in
    omega arith

-- a sum of numbers that are 0 outside a range is that of the range
pub sum_range : (f : ℕ → ℕ) (first n all : ℕ) → first + n ≤ all
    → ((k : ℕ) → k < first → f k ≡ 0) → ((k : ℕ) → first + n ≤ k → k < all → f k ≡ 0)
    → sum_first f all ≡ sum_first (λ k. f (first + k)) n
sum_range f first n all within below above =
    let before : sum_first f first ≡ 0 = sum_zero f first below in
    let rest : ℕ = all - (first + n) in
    let after : sum_first (λ k. f (first + n + k)) rest ≡ 0 =
    sum_zero (λ k. f (first + n + k)) rest
    (λ k less. above (first + n + k) (omega arith) (omega (arith, less))) in
    let whole : first + n + rest ≡ all = omega arith in
    let split : sum_first f (first + n + rest) ≡ sum_first f (first + n) + sum_first (λ k. f (first + n + k)) rest =
    sum_parts f (first + n) rest in
    let parts : sum_first f (first + n) ≡ sum_first f first + sum_first (λ k. f (first + k)) n = sum_parts f first n in
    ap (sum_first f) (sym whole) ∙ (omega arith)

-- the sum of rows, one row more
pub rows_more : (sum : Totals) (row : SymbolSteps) (rows : List SymbolSteps)
    → joined (joined sum row.totals) (rows_totals rows) ≡ joined sum (rows_totals (row ∷ rows))
rows_more sum row rows =
    let u : capped (capped (sum.unprivileged + row.totals.unprivileged) + capped (rows_sum false rows))
    ≡ capped (sum.unprivileged + capped (row.totals.unprivileged + rows_sum false rows)) = omega arith in
    let p : capped (capped (sum.privileged + row.totals.privileged) + capped (rows_sum true rows))
    ≡ capped (sum.privileged + capped (row.totals.privileged + rows_sum true rows)) = omega arith in
    totals_same u p

-- a step of a loop that adds numbers
pub sums_step : (f : Bool → ℕ → ℕ) (n : ℕ) (sum more new : Totals) → sum ≡ sums_first f n
    → more ≡ totals_by (λ p. f p n) → new ≡ joined sum more → new ≡ sums_first f (n + 1)
sums_step f n sum more new before is added = rw (added, before, is) (sums_one_more f n)
