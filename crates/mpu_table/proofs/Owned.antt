-- The intervals between sorted boundaries.
use Rattle.std.proofs.Common.{◌≡◌, ℕ, ◌+◌, ◌-◌, ◌^◌, ◌<◌, ◌≤◌, ◌⊎◌, List, [], ◌∷◌, ◌++◌, length, get_or}
use Rattle.std.proofs.Common.{drop, Option, arith, refl, sym, ap, ◌∙◌, inl, inr}
use Rattle.std.proofs.Math.Seq.{take-append_seam}
use Rattle.std.specs.Prelude.{IfSome}
use Rattle.std.specs.List.{All, refill}
use Rattle.std.specs.List.Sorted.{IsNonDecreasing, IsPermutation}
use Rattle.std.proofs.lemmas.Bool.{cases_lt}
use Rattle.std.proofs.lemmas.Grind.{get_or_default_zero}
use Rattle.std.proofs.lemmas.List.Elements.{All-nil, All-push}
use Rattle.std.proofs.lemmas.List.Sorted.{All-permutation, IsPermutation-sym}
use Rattle.mpu_table.proofs.Cuts.{owner_alike}
use Rattle.mpu_table.specs.Intervals.{IsClear, HasRegionBelow16, NamesOwner, PartsRegions, Tiles}
use Rattle.mpu_table.specs.declared.interval.Interval.{Interval}
use Rattle.platform.specs.Regions.{Mpu, owner}

-- one more interval after the others
tiles_push : (xs : List Interval) (x : Interval) (a b c : ℕ) → Tiles xs a b → x.first ≡ b → x.first ≤ x.last
    → x.last + 1 ≡ c
    → Tiles (xs ++ x ∷ []) a c
tiles_push [] x a b c tiles begins order ends = (begins ∙ sym tiles, order, ends)
tiles_push (y ∷ xs) x a b c tiles begins order ends =
    (tiles.0, tiles.1, tiles_push xs x (y.last + 1) b c tiles.2 begins order ends)

-- a sort keeps what the boundaries part
pub parts_sorted : (points sorted : List ℕ) (m : Mpu) → IsPermutation points sorted → PartsRegions points m
    → PartsRegions sorted m
parts_sorted points sorted m moved parts k h a b order small clear =
    parts k h a b order small (All-permutation (λ x. (x ≤ a) ⊎ (b < x)) sorted points
    (IsPermutation-sym points sorted moved) clear)

-- what a slice of a whole list leaves in it
pub refilled : (xs ws : List ℕ) → length ws ≡ length xs → refill (length xs) xs ws ≡ ws
refilled xs ws e = rw (← e) (take-append_seam ws (drop (length ws) xs))

-- an address is below all points from the i-th on
abbrev IsBelow : List ℕ → ℕ → ℕ → Type 0
IsBelow points i a = (j : ℕ) → i ≤ j → j < length points → a < get_or points j 0

-- the addresses from the first one on that are below them have one owner
abbrev HaveOwner : Mpu → List ℕ → ℕ → ℕ → Option ℕ → Type 0
HaveOwner m points i first region = (a : ℕ) → first ≤ a → a < 2 ^ 32 → IsBelow points i a → owner m a ≡ region

owned_first : (m : Mpu) (points : List ℕ) → PartsRegions points m → HaveOwner m points 0 0 (owner m 0)
owned_first m points parts a from small below =
    sym (owner_alike points m 0 a parts from small (λ k d h. inr (clear k d h)))
  where
    clear : (k d : ℕ) → k < length points → a < get_or points k d
    clear k d h = let e = get_or_default_zero points k d h in let f = below k (omega arith) h in omega (arith, e, f)

-- from a point on, up to the next
owned_from : (m : Mpu) (points : List ℕ) (i a : ℕ) → PartsRegions points m → IsNonDecreasing points → i < length points
    → get_or points i 0 ≤ a → a < 2 ^ 32 → IsBelow points (i + 1) a → owner m a ≡ owner m (get_or points i 0)
owned_from m points i a parts order room from small below =
    sym (owner_alike points m (get_or points i 0) a parts from small clear)
  where
    clear : IsClear points (get_or points i 0) a
    clear k d h = lead (cases_lt i k)
      where
        lead : ((i < k) ⊎ (k ≤ i)) → (get_or points k d ≤ get_or points i 0) ⊎ (a < get_or points k d)
        lead (inl after) =
            let e = get_or_default_zero points k d h in let f = below k (omega arith) h in inr (omega (arith, e, f))
        lead (inr upto) =
            let e = get_or_default_zero points k d h in let f = order k i 0 upto room in inl (omega (arith, e, f))

-- before a point
owned_before : (m : Mpu) (points : List ℕ) (i first a : ℕ) (region : Option ℕ) → HaveOwner m points i first region
    → IsNonDecreasing points → i < length points → first ≤ a → a < get_or points i 0 → a < 2 ^ 32 → owner m a ≡ region
owned_before m points i first a region owned order room from before small =
    owned a from small (λ j h k. let up = order i j 0 h k in omega (arith, up, before))

owned_same : (m : Mpu) (points : List ℕ) (i first : ℕ) (region : Option ℕ) → PartsRegions points m
    → IsNonDecreasing points
    → i < length points → HaveOwner m points i first region → owner m (get_or points i 0) ≡ region
    → HaveOwner m points (i + 1) first region
owned_same m points i first region parts order room owned same a from small below =
    lead (cases_lt a (get_or points i 0))
  where
    lead : ((a < get_or points i 0) ⊎ (get_or points i 0 ≤ a)) → owner m a ≡ region
    lead (inl before) = owned_before m points i first a region owned order room from before small
    lead (inr past) = owned_from m points i a parts order room past small below ∙ same

-- ---- as far as a pass has come

-- the intervals are right up to an address, and those from there on that are below the points from the i-th on have
-- that owner
pub record IsMade (m : Mpu) (points : List ℕ) (i first : ℕ) (region : Option ℕ) (xs : List Interval) : Type 0 where
  pub small : first < 2 ^ 32
  pub tiles : Tiles xs 0 first
  pub names : All (NamesOwner m) xs
  pub within : All HasRegionBelow16 xs
  pub number : IfSome region (λ number. number < 16)
  pub begins : owner m first ≡ region
  pub past : (j : ℕ) → i ≤ j → j < length points → first ≤ get_or points j 0
  pub owned : HaveOwner m points i first region

pub made_first : (m : Mpu) (points : List ℕ) (region : Option ℕ) → PartsRegions points m → region ≡ owner m 0
    → IfSome region (λ number. number < 16) → IsMade m points 0 0 region []
made_first m points region parts e within = record {
  small = omega arith;
  tiles = refl;
  names = All-nil (NamesOwner m);
  within = All-nil HasRegionBelow16;
  number = within;
  begins = sym e;
  past = λ j h k. omega arith;
  owned = rw e (owned_first m points parts);
}

pub made_same : (m : Mpu) (points : List ℕ) (i first : ℕ) (region next : Option ℕ) (xs : List Interval)
    → PartsRegions points m → IsNonDecreasing points → i < length points
    → IsMade m points i first region xs → next ≡ owner m (get_or points i 0) → next ≡ region
    → IsMade m points (i + 1) first region xs
made_same m points i first region next xs parts order room made e same = record {
  small = made.small;
  tiles = made.tiles;
  names = made.names;
  within = made.within;
  number = made.number;
  begins = made.begins;
  past = λ j h k. made.past j (omega arith) k;
  owned = owned_same m points i first region parts order room made.owned (sym e ∙ same);
}

-- one interval more, up to the address before the next one
abbrev pub ended : List Interval → ℕ → ℕ → Option ℕ → List Interval
ended xs first next region = xs ++ record { first = first; last = next - 1; region = region } ∷ []

pub made_next : (m : Mpu) (points : List ℕ) (i first : ℕ) (region next : Option ℕ) (xs : List Interval)
    → PartsRegions points m → IsNonDecreasing points → i < length points → get_or points i 0 < 2 ^ 32
    → IsMade m points i first region xs → next ≡ owner m (get_or points i 0) → (next ≡ region → ⊥)
    → IfSome next (λ number. number < 16)
    → IsMade m points (i + 1) (get_or points i 0) next (ended xs first (get_or points i 0) region)
made_next m points i first region next xs parts order room small made e other within = record {
  small = small;
  tiles = let h = above in tiles_push xs _ 0 first _ made.tiles refl (omega (arith, h)) (omega (arith, h));
  names = All-push (NamesOwner m) xs _ made.names names;
  within = All-push HasRegionBelow16 xs _ made.within made.number;
  number = within;
  begins = sym e;
  past = λ j h k. order i j 0 (omega arith) k;
  owned = rw e (λ a from small' below. owned_from m points i a parts order room from small' below);
}
  where
    above : first < get_or points i 0
    above = lead (cases_lt first (get_or points i 0))
      where
        lead : ((first < get_or points i 0) ⊎ (get_or points i 0 ≤ first)) → first < get_or points i 0
        lead (inl h) = h
        lead (inr h) =
            let p = made.past i (omega arith) room in
            let f : get_or points i 0 ≡ first = omega (arith, h, p) in
            absurd (other (e ∙ ap (owner m) f ∙ made.begins))

    names : NamesOwner m (record { first = first; last = get_or points i 0 - 1; region = region })
    names a from to =
        let h = above in
        owned_before m points i first a region made.owned order room from (omega (arith, h, to))
        (omega (arith, h, to, small))

-- the last interval ends at the last address
pub made_last : (m : Mpu) (points : List ℕ) (i first : ℕ) (region : Option ℕ) (xs : List Interval) → length points ≤ i
    → IsMade m points i first region xs
    → (let all = ended xs first (2 ^ 32) region in
    Tiles all 0 (2 ^ 32) × All (NamesOwner m) all × All HasRegionBelow16 all)
made_last m points i first region xs done made = (
  tiles_push xs _ 0 first _ made.tiles refl (let h = made.small in omega (arith, h)) (omega arith),
  All-push (NamesOwner m) xs _ made.names
      (λ a from to. made.owned a from (omega arith) (λ j h k. absurd (omega arith))),
  All-push HasRegionBelow16 xs _ made.within made.number,
)
