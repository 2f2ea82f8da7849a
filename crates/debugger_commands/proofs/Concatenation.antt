-- Texts that are put one after another.
use Rattle.std.proofs.Common.{◌≡◌, ℕ, List, ◌++◌, append_assoc, refl}

pub in_three : (page mid last all b c d : List ℕ) → mid ≡ page ++ b → last ≡ mid ++ c → all ≡ last ++ d
    → all ≡ page ++ ((b ++ c) ++ d)
in_three page mid last all b c d x y z = rw (z, y, x) (simp append_assoc refl)
