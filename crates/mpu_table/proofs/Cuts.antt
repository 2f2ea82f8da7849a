-- Where no boundary of a region lies between two addresses, both lie in the region or neither does.
use Rattle.std.proofs.Common.{pow_pos, mul-le-mul, below_more, ◌≡◌, ℕ, ◌+◌, ◌-◌, ◌*◌, ◌/◌, ◌^◌, ◌<◌, ◌≤◌, ◌⊎◌, Bool}
use Rattle.std.proofs.Common.{true, false, not, ◌&&◌, ◌==◌, nat_le, if◌then◌else◌, List, arith, refl, ap, ◌∙◌, inl, inr}
use Rattle.std.specs.List.{Contains}
use Rattle.std.proofs.Math.Nat.{div-mul-le_self}
use Rattle.std.proofs.lemmas.Bool.{leb-true, cases_lt}
use Rattle.std.proofs.lemmas.List.Elements.{All-contains, Contains-get_or}
use Rattle.std.proofs.lemmas.Nat.{div_below, le-div, pow-add}
use Rattle.mpu_table.specs.Boundaries.{block_of, begin_of, pieces_of, HasBoundaries}
use Rattle.mpu_table.specs.Intervals.{IsClear, HasAllOf, PartsRegion, PartsRegions}
use Rattle.mpu.proofs.Blocks.{outside_before, outside_beyond, matches_outside, matches_inside, alike_below}
use Rattle.mpu.proofs.Blocks.{alike_disabled}
use Rattle.mpu.specs.Spans.{grain}
use Rattle.platform.specs.declared.mpu.Region.{Region}
use Rattle.platform.specs.Regions.{Mpu, region, matches, is_region_enabled, size, switched_off, owner}

-- ---- numbers

-- two numbers in a block of n pieces of u between which no piece begins are in one piece
one_piece : (u first n a b : ℕ) → 0 < u → a ≤ b → first * u ≤ a → b < (first + n) * u
    → ((j : ℕ) → j ≤ n → ((first + j) * u ≤ a) ⊎ (b < (first + j) * u)) → a / u ≡ b / u
one_piece u first n a b some order from to clear = lead (cases_lt (a / u) (b / u))
  where
    low : first ≤ a / u
    low = le-div first a u some from

    high : b / u < first + n
    high = div_below b u (first + n) some to

    rises : a / u ≤ b / u
    rises = le-div (a / u) b u some (let h = div-mul-le_self a u in omega (arith, h))

    apart : ((b / u * u ≤ a) ⊎ (b < b / u * u)) → b / u ≤ a / u
    apart (inl under) = le-div (b / u) a u some under
    apart (inr over) = let h = div-mul-le_self b u in absurd (let wrong : ⊥ = omega (arith, h) in wrong)

    lead : ((a / u < b / u) ⊎ (b / u ≤ a / u)) → a / u ≡ b / u
    lead (inr back) = let r = rises in omega (arith, r)
    lead (inl less) =
        let l = low in
        let h = high in
        let e : first + (b / u - first) ≡ b / u = omega (arith, l, less) in
        let here = clear (b / u - first) (omega (arith, h, l, less)) in
        let back = apart (rw e at here) in
        omega (arith, back, less)

pub times_small : (j u : ℕ) → j ≤ 8 → u ≤ 2 ^ 32 → j * u ≤ 2 ^ 35
times_small j u h k = let e = mul-le-mul h k in omega (arith, e)

-- ---- one region

eight_times : (g : ℕ) → 8 * 2 ^ g ≡ 2 ^ (g + 3)
eight_times g = let e = pow-add 2 g 3 in omega (arith, e)

block_times : (q n u j : ℕ) → (q * n + j) * u ≡ q * (n * u) + j * u
block_times q n u j = grind arith

-- the pieces are the block
pieces_fill : (attributes : ℕ) → pieces_of attributes * 2 ^ grain attributes ≡ 2 ^ (size attributes + 1)
pieces_fill attributes = lead (nat_le 7 (size attributes)) (switched_off attributes == 0) refl
  where
    lead : (s t : Bool) → nat_le 7 (size attributes) ≡ s
        → (if s && not t then 8 else 1) * 2 ^ (if s && not t then size attributes - 2 else size attributes + 1)
        ≡ 2 ^ (size attributes + 1)
    lead true false e =
        let big : 7 ≤ size attributes = leb-true 7 (size attributes) e in
        let n : size attributes + 1 ≡ (size attributes - 2) + 3 = omega arith in
        rw n (eight_times (size attributes - 2))
    lead true true e = omega arith
    lead false t e = omega arith

pub parted : (points : List ℕ) (r : Region)
    → HasBoundaries points (begin_of r) (2 ^ grain r.attributes) (pieces_of r.attributes) → PartsRegion points r
parted points r has a b order small clear = lead (point 0 (omega arith)) (point (pieces_of r.attributes) (omega arith))
  where
    point : (j : ℕ) → j ≤ pieces_of r.attributes
        → (begin_of r + j * 2 ^ grain r.attributes ≤ a) ⊎ (b < begin_of r + j * 2 ^ grain r.attributes)
    point j h = within (cases_lt (begin_of r + j * 2 ^ grain r.attributes) (2 ^ 32))
      where
        within : ((begin_of r + j * 2 ^ grain r.attributes < 2 ^ 32) ⊎
            (2 ^ 32 ≤ begin_of r + j * 2 ^ grain r.attributes))
            → (begin_of r + j * 2 ^ grain r.attributes ≤ a) ⊎ (b < begin_of r + j * 2 ^ grain r.attributes)
        within (inl low) = All-contains (λ x. (x ≤ a) ⊎ (b < x)) points _ clear (has j h low)
        within (inr high) = inr (omega arith)

    fill : pieces_of r.attributes * 2 ^ grain r.attributes ≡ block_of r
    fill = pieces_fill r.attributes

    first : ℕ
    first = r.base / block_of r * pieces_of r.attributes

    from_first : (j : ℕ) → (first + j) * 2 ^ grain r.attributes ≡ begin_of r + j * 2 ^ grain r.attributes
    from_first j =
        block_times (r.base / block_of r) (pieces_of r.attributes) (2 ^ grain r.attributes) j
        ∙ ap (λ w. r.base / block_of r * w + j * 2 ^ grain r.attributes) fill

    inside : begin_of r ≤ a → b < begin_of r + block_of r → matches r a ≡ matches r b
    inside from to =
        let e = from_first 0 in
        let f = from_first (pieces_of r.attributes) in
        let g = fill in
        matches_inside r a b
        (one_piece (2 ^ grain r.attributes) first (pieces_of r.attributes) a b (pow_pos _) order
        (omega (arith, e, from)) (omega (arith, f, g, to)) (λ j h. rw (from_first j) (point j h)))

    lead : ((begin_of r + 0 * 2 ^ grain r.attributes ≤ a) ⊎ (b < begin_of r + 0 * 2 ^ grain r.attributes))
        → ((begin_of r + pieces_of r.attributes * 2 ^ grain r.attributes ≤ a)
        ⊎ (b < begin_of r + pieces_of r.attributes * 2 ^ grain r.attributes))
        → matches r a ≡ matches r b
    lead (inr before) _ =
        matches_outside r a b (outside_before r a _ _ refl refl (omega (arith, before, order)))
        (outside_before r b _ _ refl refl (omega (arith, before)))
    lead (inl from) (inl beyond) =
        let g = fill in
        matches_outside r a b (outside_beyond r a _ _ refl refl (omega (arith, beyond, g)))
        (outside_beyond r b _ _ refl refl (omega (arith, beyond, g, order)))
    lead (inl from) (inr to) = let g = fill in inside (omega (arith, from)) (omega (arith, to, g))

-- a region that is disabled has no address
pub disabled_parts : (points : List ℕ) (r : Region) → is_region_enabled r.attributes ≡ false → PartsRegion points r
disabled_parts points r e a b order small clear = alike_disabled r a b e

-- ---- all regions

pub owner_alike : (points : List ℕ) (m : Mpu) (a b : ℕ) → PartsRegions points m → a ≤ b → b < 2 ^ 32
    → IsClear points a b
    → owner m a ≡ owner m b
unfolding owner
owner_alike points m a b parts order small clear = alike_below m a b m.count (λ k h. parts k h a b order small clear)

-- ---- more points

-- no number of a list is between two where none of a longer list is
pub parts_kept : (points more : List ℕ) (r : Region) → HasAllOf points more → PartsRegion points r → PartsRegion more r
parts_kept points more r keeps parts a b order small clear =
    parts a b order small (λ k d h. All-contains (λ x. (x ≤ a) ⊎ (b < x)) more _ clear
    (keeps _ (Contains-get_or points k d h)))

pub parts_more : (points more : List ℕ) (m : Mpu) (n : ℕ) → ((k : ℕ) → k < n → PartsRegion points (region m k))
    → HasAllOf points more
    → PartsRegion more (region m n) → (k : ℕ) → k < n + 1 → PartsRegion more (region m k)
parts_more points more m n before keeps here =
    below_more (λ k. PartsRegion more (region m k)) n (λ k h. parts_kept points more (region m k) keeps (before k h))
    here

abbrev HasFirst : List ℕ → ℕ → ℕ → ℕ → Type 0
HasFirst points begin length n = (j : ℕ) → j < n → begin + j * length < 2 ^ 32 → Contains points (begin + j * length)

pub has_more : (points more : List ℕ) (begin length n : ℕ) → HasFirst points begin length n → HasAllOf points more
    → (begin + n * length < 2 ^ 32 → Contains more (begin + n * length)) → HasFirst more begin length (n + 1)
has_more points more begin length n before keeps here =
    below_more (λ j. begin + j * length < 2 ^ 32 → Contains more (begin + j * length)) n
    (λ j h low. keeps _ (before j h low)) here
