-- The sum of what a symbol names in a memory is that of the halfwords that it covers.
use Rattle.std.proofs.Common.{◌≡◌, inl, inr, ℕ, ◌+◌, ◌-◌, ◌*◌, ◌^◌, ◌<◌, ◌≤◌, min, Bool, true, false}
use Rattle.std.proofs.Common.{List, refl, sym, ap, ◌∙◌, arith}
use Rattle.std.specs.List.{Contains}
use Rattle.std.proofs.lemmas.Bool.{cases_Bool, cases_lt, lt-leb}
use Rattle.survey.specs.CodeCounts.{CodeCounts}
use Rattle.symbols.specs.declared.symbol.Symbol.{Symbol}
use Rattle.symbol_steps.specs.declared.totals.Totals.{Totals}
use Rattle.symbol_steps.specs.declared.cover.HalfwordRange.{HalfwordRange}
use Rattle.symbol_steps.specs.Ends.{end_of, first_of, halfwords_below, is_alone, length_of}
use Rattle.symbol_steps.specs.Symbols.{named_number, named_totals, names}
use Rattle.symbol_steps.specs.Totals.{address_of, capped, number_at, sums_first}
use Rattle.symbol_steps.proofs.Alone.{names_own, named_within}
use Rattle.symbol_steps.proofs.Sums.{sum_range, totals_same}

-- the address of a halfword that isn't beyond the last address
pub address_near : (c : CodeCounts) (k : ℕ) → c.base + 2 * k < 2 ^ 32 → address_of c k ≡ c.base + 2 * k
address_near c k near = omega (arith, near)

-- a halfword beyond the last address has no counter
number_beyond : (c : CodeCounts) (p : Bool) (k : ℕ) → c.base < 2 ^ 32 → k ≤ 0x8_0000 → 2 ^ 32 ≤ c.base + 2 * k
    → number_at c p k ≡ 0
number_beyond c p k small few beyond =
    let less : address_of c k < c.base = omega (arith, small, few, beyond) in
    rw (lt-leb c.base (address_of c k) less) refl

-- a symbol names no address of a halfword that it doesn't cover
named_zero : (list : List Symbol) (s : Symbol) (c : CodeCounts) (p : Bool) (k : ℕ) → c.base < 2 ^ 32 → k ≤ 0x8_0000
    → (s.address ≤ c.base + 2 * k → c.base + 2 * k < end_of list s → ⊥) → named_number list s c p k ≡ 0
named_zero list s c p k small few outside =
    elim (cases_Bool (names list s (address_of c k))) [
      | inr e ↦ rw e refl
      | inl e ↦ elim (cases_lt (c.base + 2 * k) (2 ^ 32)) [
        | inr beyond ↦ rw e (number_beyond c p k small few beyond)
        | inl near ↦
            let at : address_of c k ≡ c.base + 2 * k = address_near c k near in
            let a : address_of c k < 2 ^ 32 = omega arith in
            let within = named_within list s (address_of c k) a e in
            let low : s.address ≤ address_of c k = within.0 in
            let high : address_of c k < end_of list s = within.1 in
            absurd (outside (omega (arith, at, low)) (omega (arith, at, high)))
      ]
    ]

-- the halfwords below the first one that a symbol covers, and those above the last one
before_first : (base low k n : ℕ) → k < min (halfwords_below base low) n → base + 2 * k < low
before_first base low k n below = omega (arith, below)

after_last : (base low high k n : ℕ)
    → min (halfwords_below base low) n + (min (halfwords_below base high) n - min (halfwords_below base low) n) ≤ k
    → k < n → high ≤ base + 2 * k
after_last base low high k n above less = omega (arith, above, less)

-- a halfword of the range is one that the symbol covers
pub in_range : (base low high k n : ℕ)
    → k < min (halfwords_below base high) n - min (halfwords_below base low) n
    → (low ≤ base + 2 * (min (halfwords_below base low) n + k))
    × (base + 2 * (min (halfwords_below base low) n + k) < high)
in_range base low high k n below = (omega (arith, below), omega (arith, below))

range_within : (c : CodeCounts) (low high : ℕ) → first_of c low + length_of c low high ≤ c.halfwords
range_within c low high = omega arith

-- the sum of what a symbol names in a memory
pub named_in_range : (list : List Symbol) (s : Symbol) (c : CodeCounts) → c.base < 2 ^ 32 → c.halfwords ≤ 0x8_0000
    → named_totals list s c
    ≡ sums_first (λ p k. named_number list s c p (first_of c s.address + k)) (length_of c s.address (end_of list s))
unfolding named_totals
named_in_range list s c small few =
    let end : ℕ = end_of list s in
    let same = λ (p : Bool). (sum_range (named_number list s c p) (first_of c s.address) (length_of c s.address end)
    c.halfwords (range_within c s.address end)
    (λ k below. named_zero list s c p k small (omega (arith, below, few))
    (λ low high. let less : c.base + 2 * k < s.address = before_first c.base s.address k c.halfwords below in
    omega (arith, low, less)))
    (λ k above less. named_zero list s c p k small (omega (arith, less, few))
    (λ low high. let more : end ≤ c.base + 2 * k = after_last c.base s.address end k c.halfwords above less in
    omega (arith, high, more)))) in
    totals_same (ap capped (same false)) (ap capped (same true))

-- each address of the range is one that a symbol names, if it is alone
pub named_in : (list : List Symbol) (s : Symbol) (c : CodeCounts) (k : ℕ) → Contains list s
    → end_of list s ≤ 2 ^ 32 → is_alone list s (end_of list s) ≡ true
    → k < length_of c s.address (end_of list s) → names list s (address_of c (first_of c s.address + k)) ≡ true
named_in list s c k listed within alone below =
    let inside = in_range c.base s.address (end_of list s) k c.halfwords below in
    let low : s.address ≤ c.base + 2 * (first_of c s.address + k) = inside.0 in
    let high : c.base + 2 * (first_of c s.address + k) < end_of list s = inside.1 in
    let at : address_of c (first_of c s.address + k) ≡ c.base + 2 * (first_of c s.address + k) =
    address_near c (first_of c s.address + k) (omega (arith, high, within)) in
    rw at (names_own list s (c.base + 2 * (first_of c s.address + k)) listed alone low high)

-- the same by the range and its end
pub named_known : (list : List Symbol) (s : Symbol) (c : CodeCounts) (range : HalfwordRange) (k end : ℕ)
    → range ≡ record { first = first_of c s.address; length = length_of c s.address end }
    → end ≡ end_of list s → Contains list s → end ≤ 2 ^ 32 → is_alone list s end ≡ true → k < range.length
    → names list s (address_of c (range.first + k)) ≡ true
named_known list s c range k end is ends listed within alone below =
    let length : range.length ≡ length_of c s.address (end_of list s) =
    ap (λ (r : HalfwordRange). r.length) is ∙ ap (length_of c s.address) ends in
    let first : range.first ≡ first_of c s.address = ap (λ (r : HalfwordRange). r.first) is in
    rw first (named_in list s c k listed (rw ends at within) (rw ends at alone) (omega (arith, below, length)))

-- what a loop over the range adds up to
pub named_sum : (list : List Symbol) (s : Symbol) (c : CodeCounts) (range : HalfwordRange) (n end : ℕ) (sum : Totals)
    → range ≡ record { first = first_of c s.address; length = length_of c s.address end }
    → end ≡ end_of list s → c.base < 2 ^ 32 → c.halfwords ≤ 0x8_0000 → n ≡ range.length
    → sum ≡ sums_first (λ p k. named_number list s c p (range.first + k)) n → sum ≡ named_totals list s c
named_sum list s c range n end sum is ends small few whole adds =
    let length : range.length ≡ length_of c s.address (end_of list s) =
    ap (λ (r : HalfwordRange). r.length) is ∙ ap (length_of c s.address) ends in
    let first : range.first ≡ first_of c s.address = ap (λ (r : HalfwordRange). r.first) is in
    adds ∙ ap (λ (i : ℕ). sums_first (λ p k. named_number list s c p (i + k)) n) first
    ∙ ap (sums_first (λ p k. named_number list s c p (first_of c s.address + k))) (whole ∙ length)
    ∙ sym (named_in_range list s c small few)
