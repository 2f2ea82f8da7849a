-- Texts that are put one after another.
use Rattle.std.proofs.Common.{◌≡◌, ℕ, List, ◌++◌, ◌∷◌, [], append_assoc, refl}

pub whole_packet : (page first mid last all text digits : List ℕ) (a b : ℕ)
    → first ≡ page ++ a ∷ [] → mid ≡ first ++ text → last ≡ mid ++ b ∷ [] → all ≡ last ++ digits
    → all ≡ page ++ (((a ∷ text) ++ b ∷ []) ++ digits)
whole_packet page first mid last all text digits a b w x y z = rw (z, y, x, w) (simp append_assoc refl)
