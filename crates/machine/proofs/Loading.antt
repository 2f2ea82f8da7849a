-- Segments that are loaded one after another.
use Rattle.std.proofs.Common.{◌≡◌, ℕ, ◌+◌, ◌<◌, false, List, ◌∷◌, length, drop, map, get_or, refl, sym, ◌∙◌, add-one}
use Rattle.std.proofs.Math.Seq.{drop-cons}
use Rattle.std.proofs.lemmas.Bool.{and_left}
use Rattle.elf.specs.declared.image.Segment.{Segment as Lent}
use Rattle.elf.specs.Segment.{segment_of}
use Rattle.platform.specs.Images.{are_placed, image_loaded, is_placed}
use Rattle.platform.specs.Memory.{Memory, overwritten}

-- the segment at a place, and the later ones
front : (segments : List Lent) (i : ℕ) (d : Lent) → i < length segments
    → map segment_of (drop i segments) ≡ segment_of (get_or segments i d) ∷ map segment_of (drop (i + 1) segments)
front segments i d below = rw (add-one, drop-cons segments i d) refl

-- one that isn't placed decides for all
pub not_placed : (m : Memory) (segments : List Lent) (i : ℕ) (d : Lent) → i < length segments
    → is_placed m (segment_of (get_or segments i d)) ≡ false → are_placed m (map segment_of (drop i segments)) ≡ false
not_placed m segments i d below out = rw (front segments i d below) (and_left _ _ out)

next_loaded : (m : Memory) (segments : List Lent) (i : ℕ) (d : Lent) → i < length segments
    → image_loaded m (map segment_of (drop i segments))
    ≡ image_loaded (overwritten m (get_or segments i d).address (get_or segments i d).bytes.now)
    (map segment_of (drop (i + 1) segments))
next_loaded m segments i d below = rw (front segments i d below) refl

-- what is still to be loaded when one is
pub others_rest : (m : Memory) (first : Memory) (segments : List Lent) (i : ℕ) (d : Lent) → i < length segments
    → image_loaded m (map segment_of (drop i segments)) ≡ first
    → image_loaded (overwritten m (get_or segments i d).address (get_or segments i d).bytes.now)
    (map segment_of (drop (i + 1) segments)) ≡ first
others_rest m first segments i d below rest = sym (next_loaded m segments i d below) ∙ rest
