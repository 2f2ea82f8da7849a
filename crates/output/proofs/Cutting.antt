-- A reader that is cut: what it has left, after a call that it passes on.
use Rattle.std.proofs.Common.{◌≡◌, ℕ, ◌+◌, List, ◌++◌, length, take, Option, Some, None, Result, Ok, Err, refl}
use Rattle.std.proofs.Common.{sym, ◌∙◌, ap, arith}
use Rattle.std.proofs.Math.Seq.{take-append-add, take-nil}
use Rattle.std.proofs.lemmas.List.{length-take-le}
use Rattle.std.specs.Io.KnownBytes.{Consumes, IsAtEnd, Keeps}
use Rattle.output.specs.declared.cut.AtCut.{AtCut}
use Rattle.output.specs.declared.cut.AtCut.TheVariants.{Fails, TakesNone}
use Rattle.output.specs.Cuts.{CountsCall, cut_off, left_of}
use Rattle.output.specs.Input.{Reading, Received}

taken_from : (xs ys front : List ℕ) (old new : ℕ) → xs ≡ front ++ ys → old ≡ new + length front
    → take old xs ≡ front ++ take new ys
taken_from xs ys front old new whole count =
    let same : old ≡ length front + new = omega arith in
    rw (whole, same) (take-append-add front ys new)

still_consumes : (cut : AtCut) (known known' : Option (List ℕ)) (front : List ℕ) (old new : ℕ)
    → Consumes known known' front → old ≡ new + length front
    → Consumes (left_of cut old known) (left_of cut new known') front
still_consumes Fails known known' front old new gave count = gave
still_consumes TakesNone None known' front old new gave count = tt
still_consumes TakesNone (Some xs) None front old new gave count = absurd gave
still_consumes TakesNone (Some xs) (Some ys) front old new gave count = taken_from xs ys front old new gave count

still_keeps : (cut : AtCut) (known known' : Option (List ℕ)) (old new : ℕ) → Keeps known known' → new ≡ old
    → Keeps (left_of cut old known) (left_of cut new known')
still_keeps Fails known known' old new keeps same = keeps
still_keeps TakesNone None known' old new keeps same = tt
still_keeps TakesNone (Some xs) None old new keeps same = absurd keeps
still_keeps TakesNone (Some xs) (Some ys) old new keeps same = rw (keeps, same) refl

still_ends : (cut : AtCut) (known : Option (List ℕ)) (new : ℕ) → IsAtEnd known → IsAtEnd (left_of cut new known)
still_ends Fails known new end = end
still_ends TakesNone None new end = tt
still_ends TakesNone (Some xs) new end = rw end (take-nil new)

-- a call that was passed on
pub passed_on : {E : Type 0} (cut cut' : AtCut) (inner inner' : Reading) (room : List ℕ)
    (old new failed failed' : ℕ) (result : Result ℕ E) → Received inner inner' room result
    → CountsCall old new result → cut' ≡ cut → failed' ≡ failed
    → Received (cut_off cut old failed inner) (cut_off cut' new failed' inner') room result
passed_on cut cut' inner inner' room old new failed failed' (Ok given) received passes same count =
    rw (same, count)
    (let size : length (take given room) ≡ given = length-take-le given room received.0 in (
      received.0,
      still_consumes cut inner.left inner'.left (take given room) old new received.1
          (passes ∙ ap (λ n. new + n) (sym size)),
      ap (λ n. n + failed) received.2,
      λ none some. still_ends cut inner'.left new (received.3 none some),
    ))
passed_on cut cut' inner inner' room old new failed failed' (Err error) received passes same count =
    rw (same, count) (still_keeps cut inner.left inner'.left old new received.0 passes, omega (arith, received.1))
