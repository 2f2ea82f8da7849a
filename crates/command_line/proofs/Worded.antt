-- The words in the line of a stop.
use Rattle.std.proofs.Common.{◌≡◌, ℕ, ◌-◌, ◌<◌, List, [], ◌∷◌, ◌++◌, arith, ap, codes, drop, length, refl, take}
use Rattle.std.proofs.lemmas.List.{length-append}
use Rattle.platform.specs.Text.{line_feed}

front : (words : List ℕ) → take (length words) (words ++ line_feed) ≡ words
front [] = refl
front (w ∷ rest) = ap (λ (l : List ℕ). w ∷ l) (front rest)

-- a line without its line feed
pub all_but_last : (words : List ℕ) → take (length (words ++ line_feed) - 1) (words ++ line_feed) ≡ words
all_but_last words =
    let short : length (words ++ line_feed) - 1 ≡ length words =
    rw (length-append words line_feed) (omega arith) in
    rw short (front words)

pub worded : (line words : List ℕ) → line ≡ (codes "stop " ++ words) ++ line_feed
    → take (length (drop 5 line) - 1) (drop 5 line) ≡ words
worded line words e = rw e (all_but_last words)

pub long_enough : (line words : List ℕ) → line ≡ (codes "stop " ++ words) ++ line_feed → 5 < length line
long_enough line words e = rw (e, length-append (codes "stop " ++ words) line_feed) (omega arith)
