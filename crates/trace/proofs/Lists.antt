-- A copy of which only the first bytes count.
use Rattle.std.proofs.Common.{◌≡◌, ℕ, ◌+◌, ◌≤◌, List, ◌++◌, length, take, ap, ◌∙◌}
use Rattle.std.proofs.Math.Seq.{take-append-add}
use Rattle.std.proofs.lemmas.List.{take-append-le, length-take-le}
use borrow.Rule.Slice.PartMut.{put_mid, post_of}

-- of `ys`, written over `xs` from `a` on, the first `n` are kept
pub put_some : (a k : ℕ) (xs ys : List ℕ) (n : ℕ) → a ≤ length xs → n ≤ length ys →
    take (a + n) (put_mid a k xs ys) ≡ take a xs ++ take n ys
put_some a k xs ys n h m =
    let e : length (take a xs) ≡ a = length-take-le a xs h in
    let f : take (a + n) (put_mid a k xs ys) ≡ take (length (take a xs) + n) (put_mid a k xs ys) = rw e in
    f ∙ take-append-add (take a xs) (ys ++ post_of a k xs) n
    ∙ ap (λ (w : List ℕ). take a xs ++ w) (take-append-le n ys (post_of a k xs) m)
