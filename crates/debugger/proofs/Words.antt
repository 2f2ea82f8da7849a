-- The words of a stop, as a part of its line.
use Rattle.std.proofs.Common.{◌≡◌, ◌≤◌, ℕ, suc, List, ◌++◌, length, drop, refl, arith}
use Rattle.platform.specs.declared.stop.Stop.{Stop}
use Rattle.platform.specs.Text.{line_feed, stop_line, stop_text}

five_more : (n : ℕ) → 5 ≤ suc (suc (suc (suc (suc n))))
five_more n = omega arith

-- the line of a stop has more than the five bytes of its first word and a space
pub is_longer : (s : Stop) (line : List ℕ) → line ≡ stop_line s → 5 ≤ length line
unfolding stop_line
is_longer s line e = rw e (five_more (length (stop_text s ++ line_feed)))

-- the words come after these, and then a line feed
pub words_after : (s : Stop) (line : List ℕ) → line ≡ stop_line s → drop 5 line ≡ stop_text s ++ line_feed
unfolding stop_line
words_after s line e = rw e refl
