-- Bytes that are read ahead, before those that the reader below has left.
use Rattle.std.proofs.Common.{◌≡◌, ℕ, ◌-◌, ◌<◌, ◌≤◌, List, [], ◌++◌, length, take, drop, Option, Ok, refl, sym, ◌∙◌}
use Rattle.std.proofs.Common.{ap, arith, length-drop, Some, None}
use Rattle.std.proofs.KnownBytes.{Keeps-refl, prepend_known-nil, prepend_known-read}
use Rattle.std.proofs.lemmas.List.{drop_all, length-take, length-take-le}
use Rattle.std.specs.Io.KnownBytes.{Consumes, IsAtEnd, Keeps, prepend_known}
use Rattle.output.specs.Input.{Reading, Received}

-- before bytes are returned: a buffer that is empty only at the end of the input
pub record Ready (start below : Option (List ℕ)) (held : List ℕ) (before now : ℕ) : Type 0 where
  pub kept : Keeps start (prepend_known held below)
  pub quiet : now ≡ before
  pub end : held ≡ [] → IsAtEnd below

none_held : (at end : ℕ) (bytes : List ℕ) → at ≡ end → drop at (take end bytes) ≡ []
none_held at end bytes same =
    drop_all at (take end bytes) (let short = length-take end bytes in omega arith)

some_held : (at end : ℕ) (bytes : List ℕ) → (at ≡ end → ⊥) → at ≤ end → end ≤ length bytes
    → drop at (take end bytes) ≡ [] → ⊥
some_held at end bytes other order within none =
    let count : length (drop at (take end bytes)) ≡ length (take end bytes) - at = length-drop at (take end bytes) in
    let all : length (take end bytes) ≡ end = length-take-le end bytes within in
    let empty : length (drop at (take end bytes)) ≡ 0 = ap length none in
    other (omega arith)

moved_up : (old new : Option (List ℕ)) (held : List ℕ) → Consumes old new held → Keeps old (prepend_known held new)
moved_up None new held gave = tt
moved_up (Some xs) None held gave = absurd gave
moved_up (Some xs) (Some ys) held gave = sym gave

-- the buffer was empty, and the reader below was called
pub filled : (old new : Option (List ℕ)) (bytes held : List ℕ) (at end before now : ℕ) → at ≡ end
    → Consumes old new held → now ≡ before → (held ≡ [] → IsAtEnd new)
    → Ready (prepend_known (drop at (take end bytes)) old) new held before now
filled old new bytes held at end before now same gave quiet ends =
    rw (none_held at end bytes same, prepend_known-nil old)
    (record { kept = moved_up old new held gave; quiet = quiet; end = ends })

-- the buffer has bytes
pub has_some : (below : Option (List ℕ)) (bytes : List ℕ) (at end misses : ℕ) → (at ≡ end → ⊥) → at ≤ end
    → end ≤ length bytes
    → Ready (prepend_known (drop at (take end bytes)) below) below (drop at (take end bytes)) misses misses
has_some below bytes at end misses other order within = record {
  kept = Keeps-refl (prepend_known (drop at (take end bytes)) below);
  quiet = refl;
  end = λ none. absurd (some_held at end bytes other order within none);
}

nothing_left : (held rest room : List ℕ) (n : ℕ) → held ≡ take n room ++ rest → n ≡ 0 → rest ≡ [] → held ≡ []
nothing_left held rest room n whole none empty = whole ∙ rw (none, empty) refl

-- bytes of the buffer were returned
pub given_ahead : (start below : Reading) (held rest room : List ℕ) (n : ℕ)
    → Ready start.left below.left held start.misses below.misses → n ≤ length room → held ≡ take n room ++ rest
    → (n ≡ 0 → 0 < length room → rest ≡ [])
    → Received {E = ℕ} start (record below { left = prepend_known rest below.left }) room (Ok n)
given_ahead start below held rest room n ready within whole none =
    let read =
    prepend_known-read start.left below.left held rest (take n room) ((n ≡ 0) × (0 < length room)) ready.kept whole
    (λ p. (none p.0 p.1, ready.end (nothing_left held rest room n whole p.0 (none p.0 p.1)))) in
    (within, read.0, ready.quiet, λ zero some. read.1 (zero, some))
