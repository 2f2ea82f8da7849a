-- A byte that isn't in memory.
use Rattle.std.proofs.Common.{◌≡◌, ◌<◌, ◌⊎◌, inl, inr, ℕ, zero, suc, Bool, true, false, ◌&&◌, None, arith, refl, subst}
use Rattle.std.proofs.Math.Nat.{eq-or-lt_of_le}
use Rattle.instruction_set.specs.Words.{word_sum}
use Rattle.platform.specs.Memory.{Memory, byte_at}
use Rattle.command.specs.Dumping.{are_in_memory}

and_false : (b : Bool) → b && false ≡ false
and_false true = refl
and_false false = refl

one_more : (m : Memory) (a n count : ℕ) → byte_at m (word_sum a n) ≡ None → (n ≡ count) ⊎ (n < count)
    → (n < count → are_in_memory m a count ≡ false) → are_in_memory m a (suc count) ≡ false
unfolding are_in_memory
one_more m a n count none (inl same) before =
    rw (subst (λ (k : ℕ). byte_at m (word_sum a k) ≡ None) same none) (and_false (are_in_memory m a count))
one_more m a n count none (inr less) before = rw (before less) refl

-- where the byte at a place isn't in memory, the first `count` bytes, of which it is one, aren't all there
pub byte_is_missing : (m : Memory) (a n count : ℕ) → n < count → byte_at m (word_sum a n) ≡ None
    → are_in_memory m a count ≡ false
byte_is_missing m a n zero within none = absurd (omega arith)
byte_is_missing m a n (suc count) within none =
    let least : n < suc count = within in
    one_more m a n count none (eq-or-lt_of_le (omega arith)) (λ less. byte_is_missing m a n count less none)
