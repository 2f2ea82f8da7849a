-- What a field of a row's text is: the bits of its runs, joined.
use Rattle.std.proofs.Common.{◌≡◌, ℕ, ◌+◌, ◌*◌, ◌/◌, ◌%◌, ◌^◌, ◌<◌, Bool, true, false, ◌==◌, if◌then◌else◌, List, []}
use Rattle.std.proofs.Common.{◌∷◌, length, refl, ◌∙◌, arith}
use Rattle.std.proofs.Math.Nat.{mod-lt}
use Rattle.std.proofs.lemmas.Bool.{eqb-true}
use Rattle.std.proofs.lemmas.Nat.{shr-shr, mod-pow-add, pow-add, pow_pos}
use Rattle.encodings.specs.Runs.{Run, with_place, runs_of, width_of, joined_runs, value_at, width}
use Rattle.encodings.proofs.Places.{joined_below}
use Rattle.instruction_set.specs.Patterns.{joined_field, field}
use Rattle.instruction_set.specs.Words.{bit_at, bits}

-- the bits of the runs, joined
abbrev pub joined_bits : List Run → ℕ → ℕ
joined_bits [] x = 0
joined_bits (run ∷ runs) x = x / 2 ^ run.low % 2 ^ run.width * 2 ^ width_of runs + joined_bits runs x

-- ---- one more place

-- a run that grows: the bit above it joins it
grown : (x low width rest before more : ℕ)
    → (before * 2 + bit_at x (low + width)) * 2 ^ (width + rest) + (x / 2 ^ low % 2 ^ width * 2 ^ rest + more)
    ≡ before * 2 ^ (1 + width + rest) + (x / 2 ^ low % 2 ^ (1 + width) * 2 ^ rest + more)
grown x low width rest before more =
    let split : x / 2 ^ low % 2 ^ (1 + width) ≡ x / 2 ^ low / 2 ^ width % 2 * 2 ^ width + x / 2 ^ low % 2 ^ width =
    mod-pow-add (x / 2 ^ low) 1 width in
    let bit : x / 2 ^ low / 2 ^ width ≡ x / 2 ^ (low + width) = shr-shr x low width in
    let parts : 2 ^ (width + rest) ≡ 2 ^ width * 2 ^ rest = pow-add 2 width rest in
    let more_parts : 2 ^ (1 + width + rest) ≡ 2 ^ (1 + width) * 2 ^ rest = pow-add 2 (1 + width) rest in
    let twice : 2 ^ (1 + width) ≡ 2 * 2 ^ width = pow-add 2 1 width in
    rw (split, bit, parts, more_parts, twice) (omega arith)

-- a run that begins
begun : (x at rest before more : ℕ)
    → (before * 2 + bit_at x at) * 2 ^ rest + more ≡ before * 2 ^ (1 + rest) + (x / 2 ^ at % 2 ^ 1 * 2 ^ rest + more)
begun x at rest before more =
    let twice : 2 ^ (1 + rest) ≡ 2 * 2 ^ rest = pow-add 2 1 rest in
    rw twice (omega arith)

placed_above : (b : Bool) (x at before : ℕ) (run : Run) (runs : List Run)
    → (b ≡ true → at ≡ run.low + run.width)
    → let grown_or_begun : List Run =
    if b
    then record run { width = 1 + run.width } ∷ runs
    else record { low = at; width = 1 } ∷ (run ∷ runs) in
    (before * 2 + bit_at x at) * 2 ^ width_of (run ∷ runs) + joined_bits (run ∷ runs) x
    ≡ before * 2 ^ width_of grown_or_begun + joined_bits grown_or_begun x
placed_above true x at before run runs h =
    rw (h refl) (grown x run.low run.width (width_of runs) before (joined_bits runs x))
placed_above false x at before run runs h = begun x at (width_of (run ∷ runs)) before (joined_bits (run ∷ runs) x)

placed : (b : Bool) (x at before : ℕ) (runs : List Run)
    → (if b then before * 2 + bit_at x at else before) * 2 ^ width_of runs + joined_bits runs x
    ≡ before * 2 ^ width_of (with_place b at runs) + joined_bits (with_place b at runs) x
placed false x at before runs = refl
placed true x at before [] = begun x at 0 before 0
placed true x at before (run ∷ runs) =
    placed_above (at == run.low + run.width) x at before run runs (eqb-true at (run.low + run.width))

-- a field is the bits of its letter's runs, after those before
joined_are : (letter : ℕ) (places : List ℕ) (x before : ℕ)
    → joined_field letter places x before
    ≡ before * 2 ^ width_of (runs_of letter places) + joined_bits (runs_of letter places) x
unfolding joined_field
joined_are letter [] x before = omega arith
joined_are letter (place ∷ places) x before =
    joined_are letter places x (if place == letter then before * 2 + bit_at x (length places) else before)
    ∙ placed (place == letter) x (length places) before (runs_of letter places)

-- ---- the same, as code writes it

value_is : (runs : List Run) (x : ℕ) → joined_bits runs x ≡ joined_runs runs x
unfolding bits
value_is [] x = refl
value_is (run ∷ []) x = omega arith
value_is (run ∷ (next ∷ runs)) x = rw (value_is (next ∷ runs) x) refl

pub field_is : (places : List ℕ) (x letter : ℕ) → field places x letter ≡ value_at places x letter
field_is places x letter = omega (arith, joined_are letter places x 0, value_is (runs_of letter places) x)

-- a field has a bit for each place of its letter
bits_below : (runs : List Run) (x : ℕ) → joined_bits runs x < 2 ^ width_of runs
bits_below [] x = omega arith
bits_below (run ∷ runs) x =
    joined_below _ _ run.width (width_of runs) (mod-lt _ (pow_pos run.width)) (bits_below runs x)

pub field_below : (places : List ℕ) (x letter : ℕ) → field places x letter < 2 ^ width places letter
field_below places x letter = omega (arith, joined_are letter places x 0, bits_below (runs_of letter places) x)
