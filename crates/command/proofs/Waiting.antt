-- What is read ahead, and what waits on a page.
use Rattle.std.proofs.Common.{◌≡◌, [], List, ℕ, None, Option, Some, ap, append-nil, drop, refl, subst, take}
use Rattle.std.specs.Io.KnownBytes.{append_known, prepend_known}
use Rattle.command.specs.Program.{DoesOverStreams, DoesArgs, Streams}
use Rattle.output.specs.Input.{Reading}
use Rattle.output.specs.Output.{Writing, with_page}

append_known-nil : (known : Option (List ℕ)) → append_known known [] ≡ known
append_known-nil None = refl
append_known-nil (Some bytes) = ap Some (append-nil bytes)

-- a new buffer has nothing ahead
pub nothing_ahead : (at end : ℕ) (bytes : List ℕ) (known left : Option (List ℕ)) → at ≡ 0 → end ≡ 0 → known ≡ left
    → prepend_known (drop at (take end bytes)) known ≡ prepend_known [] left
nothing_ahead at end bytes known left a e same = rw (a, e, same) refl

-- on a new page nothing waits
pub nothing_waits : (at errors failed : ℕ) (page : List ℕ) (known written : Option (List ℕ)) → at ≡ 0 → errors ≡ failed
    → page ≡ [] → known ≡ written
    → with_page (drop at page) (record { written = known; errors = errors; waits = [] })
    ≡ record { written = written; errors = failed; waits = [] }
nothing_waits at errors failed page known written a e p same =
    rw (a, e, p, same)
    (ap (λ (k : Option (List ℕ)). let w : Writing = record { written = k; errors = failed; waits = [] } in w)
    (append_known-nil written))

pub does_over_streams : (words : List (List ℕ)) (old new : Streams) (status : ℕ) (first last : Reading)
    (put sent : Writing) (ahead lost : List ℕ)
    → first.left ≡ prepend_known [] old.input.left → first.misses ≡ old.input.misses
    → last.left ≡ prepend_known ahead new.input.left → last.misses ≡ new.input.misses
    → put ≡ old.out → sent ≡ with_page lost new.out
    → DoesArgs words (record { input = first; out = put; files = old.files })
    (record { input = last; out = sent; files = new.files }) status
    → DoesOverStreams words old new status
does_over_streams words old new status first last put sent ahead lost begins none ends missed begun went does = record {
  first = first;
  begins = record { left = begins; misses = none };
  last = last;
  ahead = ahead;
  ends = record { left = ends; misses = missed };
  lost = lost;
  does =
      subst (λ (w : Writing). DoesArgs words (record { input = first; out = w; files = old.files })
      (record { input = last; out = with_page lost new.out; files = new.files }) status) begun
      (subst (λ (w : Writing). DoesArgs words (record { input = first; out = put; files = old.files })
      (record { input = last; out = w; files = new.files }) status) went does);
}
