-- Texts that are put one after another.
use Rattle.std.proofs.Common.{◌≡◌, ℕ, Bool, List, ◌++◌, append_assoc, refl}
use Rattle.debugger.specs.StateText.{numbers_below, set_line}
use Rattle.platform.specs.declared.exception.TheConstants.{EXCEPTIONS}
use Rattle.platform.specs.Text.{line_feed}

pub in_six : (a b c d e f x y z u v w : List ℕ) → u ≡ a → v ≡ u ++ b → w ≡ v ++ c → x ≡ w ++ d → y ≡ x ++ e → z ≡ y ++ f
    → z ≡ a ++ (b ++ (c ++ (d ++ (e ++ f))))
in_six a b c d e f x y z u v w p q r s t k = rw (k, t, s, r, q, p) (simp append_assoc refl)

-- all numbers of a set are put
pub line_ended : (set : List Bool) (n : ℕ) (old name page all : List ℕ) → n ≡ EXCEPTIONS
    → page ≡ (old ++ name) ++ numbers_below set n → all ≡ page ++ line_feed → all ≡ old ++ set_line name set
line_ended set n old name page all e x y = rw (y, x, e) (simp append_assoc refl)
