-- How many exceptions are pending, and that none is the best where none is.
use Rattle.std.proofs.Common.{◌≡◌, ℕ, zero, suc, ◌+◌, ◌<◌, ◌≤◌, Bool, true, false, if◌then◌else◌, List}
use Rattle.std.proofs.Common.{[], ◌∷◌, length, slice_set, slice_index_or, replicate, None, refl, arith}
use Rattle.std.proofs.lemmas.List.Sums.{sum_by-set, sum_by-cons, count_by-le-length}
use Rattle.platform.specs.declared.exception.TheConstants.{EXCEPTIONS}
use Rattle.platform.specs.Priorities.{Nvic, is_in, with_ready, best_below, best}
use Rattle.nvic.specs.Waiting.{count_in}

abbrev weight : Bool → ℕ
weight b = if b then 1 else 0

-- one becomes pending, or isn't pending any more
pub waiting_set : (s : List Bool) (x : ℕ) (on : Bool) → x < length s
    → count_in (slice_set s x on) + weight (slice_index_or s x false) ≡ count_in s + weight on
waiting_set s x on h = sum_by-set weight s x on false h

pub waiting_room : (s : List Bool) → count_in s ≤ length s
waiting_room s = count_by-le-length (λ b. b) s

-- where none is, no number is in the set
none_waiting : (s : List Bool) (x : ℕ) → count_in s ≡ 0 → is_in s x ≡ false
none_waiting [] x e = refl
none_waiting (true ∷ s) x e = let more : count_in (true ∷ s) ≡ 1 + count_in s = sum_by-cons weight true s in
    absurd (omega (arith, more, e))
none_waiting (false ∷ s) zero e = refl
none_waiting (false ∷ s) (suc x) e =
    let same : count_in (false ∷ s) ≡ 0 + count_in s = sum_by-cons weight false s in
    none_waiting s x (omega (arith, same, e))

none_ready : (n : Nvic) (k : ℕ) → count_in n.pending ≡ 0 → best_below n k ≡ None
unfolding best_below with_ready
none_ready n zero e = refl
none_ready n (suc k) e = rw (none_waiting n.pending k e) (none_ready n k e)

pub none_best : (n : Nvic) → count_in n.pending ≡ 0 → best n ≡ None
unfolding best
none_best n e = none_ready n EXCEPTIONS e

pub none_at_first : count_in (replicate EXCEPTIONS false) ≡ 0
none_at_first = refl
