-- Texts that are put one after another.
use Rattle.std.proofs.Common.{◌≡◌, ℕ, List, ◌++◌, append_assoc}

pub in_two : (line mid all a b : List ℕ) → mid ≡ line ++ a → all ≡ mid ++ b → all ≡ line ++ (a ++ b)
in_two line mid all a b x y = rw (y, x) (append_assoc line a b)
