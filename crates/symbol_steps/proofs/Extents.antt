-- A symbol of a list covers the addresses from its own up to its end, and no others.
use Rattle.std.proofs.Common.{◌≡◌, inl, inr, ℕ, zero, suc, ◌+◌, ◌^◌, ◌<◌, ◌≤◌, min, Bool, true, false}
use Rattle.std.proofs.Common.{cond, ◌&&◌, ◌||◌, ◌==◌, nat_lt, nat_le, List, [], ◌∷◌, length, get_or, refl, sym, ap}
use Rattle.std.proofs.Common.{◌∙◌, arith}
use Rattle.std.proofs.lemmas.Bool.{cases_Bool, ltb-true, ltb-false, leb-true, leb-false, eqb-true, eq-eqb}
use Rattle.std.proofs.lemmas.Bool.{lt-ltb, le-ltb, le-leb, lt-leb, or_cases, or_parts, or_left, or_right}
use Rattle.std.proofs.lemmas.Bool.{and_from, and_parts, cases_lt, false≢true}
use Rattle.symbols.specs.declared.symbol.Symbol.{Symbol}
use Rattle.symbols.specs.Lookup.{covers, has_above, latest_below}
use Rattle.symbol_steps.specs.Ends.{end_of, next_above}

pub latest_low : (a : ℕ) (list : List Symbol) → latest_below a list ≤ a
latest_low a [] = omega arith
latest_low a (t ∷ list) =
    let rest : latest_below a list ≤ a = latest_low a list in
    elim (cases_Bool (nat_le t.address a)) [
      | inl e ↦ let here : t.address ≤ a = leb-true t.address a e in rw e (omega (arith, here, rest))
      | inr e ↦ rw e rest
    ]

-- the latest beginning at or below an address isn't before that of a symbol of the list there
pub latest_reaches : (a : ℕ) (list : List Symbol) (s : Symbol) (k : ℕ) → k < length list → get_or list k s ≡ s
    → s.address ≤ a → s.address ≤ latest_below a list
latest_reaches a [] s k below at low = absurd (omega (arith, below))
latest_reaches a (t ∷ list) s zero below at low =
    let e : t.address ≡ s.address = ap (λ (x : Symbol). x.address) at in
    let le : t.address ≤ a = omega (arith, e, low) in
    rw (le-leb t.address a le) (omega (arith, e))
latest_reaches a (t ∷ list) s (suc k) below at low =
    let before : s.address ≤ latest_below a list = latest_reaches a list s k (omega (arith, below)) at low in
    elim (cases_Bool (nat_le t.address a)) [
      | inl e ↦ rw e (omega arith)
      | inr e ↦ rw e before
    ]

-- none begins above an address, and so none above a later one
pub none_above : (a b : ℕ) (list : List Symbol) → a ≤ b → has_above a list ≡ false → has_above b list ≡ false
none_above a b [] le none = refl
none_above a b (t ∷ list) le none =
    let parts = or_parts (nat_lt a t.address) (has_above a list) none in
    let here : t.address ≤ a = ltb-false a t.address parts.0 in
    rw (le-ltb b t.address (omega (arith, here, le))) (none_above a b list le parts.1)

-- below the next beginning there is one above
pub above_before : (a b : ℕ) (list : List Symbol) → b < next_above a list → has_above a list ≡ true
    → has_above b list ≡ true
above_before a b [] before some = some
above_before a b (t ∷ list) before some =
    elim (cases_Bool (nat_lt a t.address)) [
      | inl e ↦
          let less : b < min t.address (next_above a list) = rw e at before in
          or_left (nat_lt b t.address) (has_above b list) (lt-ltb b t.address (omega (arith, less)))
      | inr e ↦
          let less : b < next_above a list = rw e at before in
          let rest : has_above a list ≡ true = rw e at some in
          or_right (nat_lt b t.address) (has_above b list) (above_before a b list less rest)
    ]

-- no beginning lies between an address and the next one
pub latest_before : (a b : ℕ) (list : List Symbol) → b < next_above a list → latest_below b list ≤ a
latest_before a b [] before = omega arith
latest_before a b (t ∷ list) before =
    elim (cases_Bool (nat_lt a t.address)) [
      | inl e ↦
          let less : b < min t.address (next_above a list) = rw e at before in
          let rest : latest_below b list ≤ a = latest_before a b list (omega (arith, less)) in
          rw (lt-leb t.address b (omega (arith, less))) rest
      | inr e ↦
          let less : b < next_above a list = rw e at before in
          let here : t.address ≤ a = ltb-false a t.address e in
          let rest : latest_below b list ≤ a = latest_before a b list less in
          elim (cases_Bool (nat_le t.address b)) [
            | inl f ↦ rw f (omega (arith, here, rest))
            | inr f ↦ rw f rest
          ]
    ]

pub next_most : (a : ℕ) (list : List Symbol) → next_above a list ≤ 2 ^ 32
next_most a [] = omega arith
next_most a (t ∷ list) =
    let rest : next_above a list ≤ 2 ^ 32 = next_most a list in
    elim (cases_Bool (nat_lt a t.address)) [
      | inl e ↦ rw e (omega (arith, rest))
      | inr e ↦ rw e rest
    ]

-- at the next beginning and above it, the latest beginning is a later one
pub latest_after : (a b : ℕ) (list : List Symbol) → next_above a list ≤ b → b < 2 ^ 32 → a < latest_below b list
latest_after a b [] after few = absurd (omega (arith, after, few))
latest_after a b (t ∷ list) after few =
    elim (cases_Bool (nat_lt a t.address)) [
      | inl e ↦
          let least : min t.address (next_above a list) ≤ b = rw e at after in
          let here : a < t.address = ltb-true a t.address e in
          elim (cases_Bool (nat_le t.address b)) [
            | inl f ↦ rw f (omega (arith, here))
            | inr f ↦
                let far : b < t.address = leb-false t.address b f in
                rw f (latest_after a b list (omega (arith, least, far)) few)
          ]
      | inr e ↦
          let least : next_above a list ≤ b = rw e at after in
          let rest : a < latest_below b list = latest_after a b list least few in
          elim (cases_Bool (nat_le t.address b)) [
            | inl f ↦ rw f (omega (arith, rest))
            | inr f ↦ rw f rest
          ]
    ]

-- a symbol without a size covers its own address, and others where it is the latest and one begins above
abbrev covers_sizeless : ℕ → Bool → ℕ → ℕ → Bool
covers_sizeless latest above a at = (at == a) || (above && (at == latest))

sizeless_inside : (list : List Symbol) (s : Symbol) (a k : ℕ) → k < length list → get_or list k s ≡ s
    → s.address ≤ a → a < cond (has_above s.address list) (next_above s.address list) (s.address + 1)
    → covers_sizeless (latest_below a list) (has_above a list) a s.address ≡ true
sizeless_inside list s a k below at low high =
    elim (cases_Bool (has_above s.address list)) [
      | inl e ↦
          let less : a < next_above s.address list = rw e at high in
          let reach : s.address ≤ latest_below a list = latest_reaches a list s k below at low in
          let most : latest_below a list ≤ s.address = latest_before s.address a list less in
          let above : has_above a list ≡ true = above_before s.address a list less e in
          let is : (s.address == latest_below a list) ≡ true = eq-eqb _ _ (omega (arith, reach, most)) in
          or_right (s.address == a) (has_above a list && (s.address == latest_below a list))
          (and_from (has_above a list) (s.address == latest_below a list) above is)
      | inr e ↦
          let less : a < s.address + 1 = rw e at high in
          or_left (s.address == a) _ (eq-eqb s.address a (omega (arith, less, low)))
    ]

sizeless_outside : (list : List Symbol) (s : Symbol) (a : ℕ) → a < 2 ^ 32 → s.address ≤ a
    → covers_sizeless (latest_below a list) (has_above a list) a s.address ≡ true
    → a < cond (has_above s.address list) (next_above s.address list) (s.address + 1)
sizeless_outside list s a few low is =
    elim (cases_Bool (has_above s.address list)) [
      | inl e ↦ rw e (elim (cases_lt a (next_above s.address list)) [
        | inl less ↦ less
        | inr after ↦
            let later : s.address < latest_below a list = latest_after s.address a list after few in
            absurd (elim (or_cases (s.address == a) (has_above a list && (s.address == latest_below a list)) is) [
              | inl here ↦
                  let same : s.address ≡ a = eqb-true s.address a here in
                  let low : latest_below a list ≤ a = latest_low a list in
                  omega (arith, same, later, low)
              | inr far ↦
                  let same : s.address ≡ latest_below a list =
                  eqb-true s.address (latest_below a list) (and_parts (has_above a list) _ far).1 in
                  omega (arith, same, later)
            ])
      ])
      | inr e ↦
          let none : has_above a list ≡ false = none_above s.address a list low e in
          rw e (elim (or_cases (s.address == a) (has_above a list && (s.address == latest_below a list)) is) [
            | inl here ↦ let same : s.address ≡ a = eqb-true s.address a here in omega (arith, same)
            | inr far ↦ absurd (false≢true (sym none ∙ (and_parts (has_above a list) _ far).0))
          ])
    ]

-- whether a symbol covers an address, by its size
pub covers_own : (list : List Symbol) (s : Symbol) (a k : ℕ) → k < length list → get_or list k s ≡ s → s.address ≤ a
    → a < end_of list s → covers (latest_below a list) (has_above a list) a s ≡ true
unfolding end_of
covers_own list s a k below at low high =
    rw (le-ltb a s.address low) (elim (cases_Bool (s.size == 0)) [
      | inl e ↦
          let less : a < cond (has_above s.address list) (next_above s.address list) (s.address + 1) = rw e at high in
          rw e (sizeless_inside list s a k below at low less)
      | inr e ↦
          let less : a < min (s.address + s.size) (2 ^ 32) = rw e at high in
          rw e (lt-ltb a (s.address + s.size) (omega (arith, less)))
    ])

pub covers_low : (list : List Symbol) (s : Symbol) (a : ℕ)
    → covers (latest_below a list) (has_above a list) a s ≡ true → s.address ≤ a
covers_low list s a is =
    elim (cases_Bool (nat_lt a s.address)) [
      | inl e ↦ absurd (false≢true (rw e at is))
      | inr e ↦ ltb-false a s.address e
    ]

pub covers_high : (list : List Symbol) (s : Symbol) (a : ℕ) → a < 2 ^ 32
    → covers (latest_below a list) (has_above a list) a s ≡ true → a < end_of list s
unfolding end_of
covers_high list s a few is =
    let low : s.address ≤ a = covers_low list s a is in
    let here = rw (le-ltb a s.address low) at is in
    elim (cases_Bool (s.size == 0)) [
      | inl e ↦ rw e (sizeless_outside list s a few low (rw e at here))
      | inr e ↦
          let less : a < s.address + s.size = ltb-true a (s.address + s.size) (rw e at here) in
          rw e (omega (arith, less, few))
    ]
