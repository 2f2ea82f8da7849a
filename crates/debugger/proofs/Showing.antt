-- The bytes of `mem`, one after another.
use Rattle.std.proofs.Common.{◌≡◌, ℕ, suc, ◌+◌, List, ◌++◌, Option, append_assoc, ◌∙◌, ap, arith}
use Rattle.debugger_commands.specs.Texts.{byte_text, bytes_text}
use Rattle.instruction_set.specs.Words.{word_sum}
use Rattle.reference.specs.Peek.{peek_memory_or_device}
use Rattle.reference.specs.State.{Bus}

-- one byte more
pub byte_more : (page now new : List ℕ) (m : Bus) (a n place : ℕ) (byte : Option ℕ) → now ≡ page ++ bytes_text m a n
    → place ≡ word_sum a n → byte ≡ peek_memory_or_device m place → new ≡ now ++ byte_text byte → new ≡ page
    ++ bytes_text m a (n + 1)
unfolding bytes_text
byte_more page now new m a n place byte so_far there shown more =
    let next : suc n ≡ n + 1 = omega arith in
    more ∙ (ap (λ (b : Option ℕ). now ++ byte_text b) (shown ∙ ap (λ p. peek_memory_or_device m p) there)
    ∙ (ap (λ (xs : List ℕ). xs ++ byte_text (peek_memory_or_device m (word_sum a n))) so_far
    ∙ (append_assoc page (bytes_text m a n) (byte_text (peek_memory_or_device m (word_sum a n)))
    ∙ ap (λ x. page ++ bytes_text m a x) next)))
