-- Sets of exceptions, written as words.
use Rattle.std.specs.Prelude.{ℕ, ◌/◌, ◌%◌, ◌<◌, ◌≡◌, ◌||◌, ◌==◌, List, length, slice_index, slice_set}
use Rattle.std.proofs.Common.{arith}
use Rattle.std.proofs.lemmas.Grind.{common_steps}
use Rattle.platform.proofs.Bits.{with_bit, bit_set, bit_kept}
use Rattle.platform.specs.Priorities.{is_in_words}

pub put_in : (words : List ℕ) (x n : ℕ) → x < 256 → n < 256 → length words ≡ 8 →
    is_in_words (slice_set words (x / 32) (with_bit (slice_index words (x / 32)) (x % 32))) n
    ≡ ((n == x) || is_in_words words n)
put_in words x n lx ln l = grind (arith, common_steps, bit_set, bit_kept)
