-- The values that were read, joined from the last one on.
use Rattle.std.proofs.Common.{Bool, true, false, ◌≡◌, ℕ, suc, ◌+◌, ◌*◌, ◌%◌, ◌^◌, ◌<◌, List, [], ◌∷◌, length, drop}
use Rattle.std.proofs.Common.{get_or, refl, arith}
use Rattle.std.proofs.Math.Seq.{drop-cons, drop-length}
use Rattle.std.specs.Prelude.{nat_lt, if◌then◌else◌}
use Rattle.instruction_set.specs.Fields.{extended}
use Rattle.reference.specs.LoadStore.{joined}

-- none of them makes 0
pub none_joined : (values : List ℕ) → 0 ≡ joined (drop (length values) values)
unfolding joined
none_joined values = rw (drop-length values) refl

sum_joined : (value rest : ℕ) → (value + 256 * rest) % 2 ^ 32 ≡ (rest * 256 % 2 ^ 32 + value) % 2 ^ 32
sum_joined value rest = omega arith

front_joined : (value : ℕ) (values : List ℕ) → joined (value ∷ values) ≡ (value + 256 * joined values) % 2 ^ 32
unfolding joined
front_joined value values = refl

-- the one at a place comes before those that are joined
pub next_joined : (values : List ℕ) (place number d : ℕ) → place < length values
    → number ≡ joined (drop (suc place) values)
    → (number * 256 % 2 ^ 32 + get_or values place d) % 2 ^ 32 ≡ joined (drop place values)
next_joined values place number d below e =
    rw (drop-cons values place d below, front_joined, e, sum_joined) refl

-- one value makes itself
pub one_joined : (values : List ℕ) → length values ≡ 1 → get_or values 0 0 < 2 ^ 32 → get_or values 0 0 ≡ joined values
unfolding joined
one_joined [] one small = absurd (omega arith)
one_joined (value ∷ []) one small = omega arith
one_joined (value ∷ (other ∷ values)) one small = absurd (omega arith)

both_same : (b : Bool) (number : ℕ) → (if b then number else number + 0) ≡ number
both_same true number = refl
both_same false number = omega arith

-- a word is extended by no bit
pub whole_word : (is_signed : Bool) (number : ℕ) → number < 2 ^ 32 → extended is_signed 32 number ≡ number
whole_word true number small =
    let whole : number % 2 ^ 32 ≡ number = omega arith in
    rw whole (both_same (nat_lt number (2 ^ 31)) number)
whole_word false number small = omega arith
