-- The search for an interval by halving.
use Rattle.std.proofs.Common.{◌≡◌, ℕ, zero, suc, ◌+◌, ◌-◌, ◌*◌, ◌^◌, ◌<◌, ◌≤◌, ◌⊎◌, List, [], ◌∷◌, length, arith, sym}
use Rattle.std.proofs.Common.{ap, ◌∙◌, inl, inr, mul-le-mul, le_refl}
use Rattle.std.proofs.lemmas.Bool.{cases_lt}
use Rattle.std.proofs.lemmas.Nat.{pow-add, pow_pos}
use Rattle.mpu_table.specs.Intervals.{Tiles, interval}
use Rattle.mpu_table.specs.declared.interval.Interval.{Interval}

-- ---- tiles

tiles_first : (xs : List Interval) (a b : ℕ) → Tiles xs a b → a < b → (0 < length xs) × ((interval xs 0).first ≡ a)
tiles_first [] a b tiles h = absurd (omega arith)
tiles_first (x ∷ xs) a b tiles h = (omega arith, tiles.0)

tiles_next : (xs : List Interval) (a b k : ℕ) → Tiles xs a b → suc k < length xs
    → (interval xs k).last + 1 ≡ (interval xs (suc k)).first
tiles_next [] a b k tiles h = absurd (omega arith)
tiles_next (x ∷ []) a b k tiles h = absurd (omega arith)
tiles_next (x ∷ y ∷ xs) a b zero tiles h = sym tiles.2.0
tiles_next (x ∷ y ∷ xs) a b (suc k) tiles h = tiles_next (y ∷ xs) (x.last + 1) b k tiles.2 (omega arith)

tiles_last : (xs : List Interval) (a b k : ℕ) → Tiles xs a b → suc k ≡ length xs → (interval xs k).last + 1 ≡ b
tiles_last [] a b k tiles h = absurd (omega arith)
tiles_last (x ∷ []) a b zero tiles h = tiles.2
tiles_last (x ∷ []) a b (suc k) tiles h = absurd (omega arith)
tiles_last (x ∷ y ∷ xs) a b zero tiles h = absurd (omega arith)
tiles_last (x ∷ y ∷ xs) a b (suc k) tiles h = tiles_last (y ∷ xs) (x.last + 1) b k tiles.2 (omega arith)

-- ---- looks

-- half of what is left, after one more look
half_left : (w v looks : ℕ) → 2 * v ≤ w → w * 2 ^ looks ≤ 191 → v * 2 ^ (looks + 1) ≤ 191
half_left w v looks h k =
    let e = pow-add 2 looks 1 in
    let f : (2 * v) * 2 ^ looks ≤ w * 2 ^ looks = mul-le-mul h (le_refl (2 ^ looks)) in
    rw e (let g : v * (2 ^ looks * 2) ≡ (2 * v) * 2 ^ looks = times v (2 ^ looks) in omega (arith, f, g, k))
  where
    times : (v p : ℕ) → v * (p * 2) ≡ (2 * v) * p
    times v p = grind arith

looks_left : (w looks : ℕ) → 1 ≤ w → w * 2 ^ looks ≤ 191 → looks < 8
looks_left w looks h k = lead (cases_lt looks 8)
  where
    lead : ((looks < 8) ⊎ (8 ≤ looks)) → looks < 8
    lead (inl few) = few
    lead (inr many) =
        let n : looks ≡ 8 + (looks - 8) = omega arith in
        let e : 2 ^ looks ≡ 256 * 2 ^ (looks - 8) = ap (λ k. 2 ^ k) n ∙ pow-add 2 8 (looks - 8) in
        let p = pow_pos (looks - 8) in
        let f : 1 * 2 ^ looks ≤ w * 2 ^ looks = mul-le-mul h (le_refl (2 ^ looks)) in
        absurd (let wrong : ⊥ = omega (arith, e, p, f, k) in wrong)

-- ---- as far as the halves have come

-- the address lies in one of the intervals from low up to high, and the looks fit what is left
pub record IsAmong (xs : List Interval) (a low high looks : ℕ) : Type 0 where
  pub some : low < high
  pub within : high ≤ length xs
  pub past : (interval xs low).first ≤ a
  pub ahead : a ≤ (interval xs (high - 1)).last
  pub width : (high - low - 1) * 2 ^ looks ≤ 191
  pub few : looks ≤ 8

pub among_all : (xs : List Interval) (a : ℕ) → Tiles xs 0 (2 ^ 32) → a < 2 ^ 32 → length xs ≤ 192
    → IsAmong xs a 0 (length xs) 0
among_all xs a tiles small few =
    let f = tiles_first xs 0 (2 ^ 32) tiles (omega arith) in
    let l = tiles_last xs 0 (2 ^ 32) (length xs - 1) tiles (let g = f.0 in omega (arith, g)) in
    record {
      some = f.0;
      within = omega arith;
      past = let g = f.1 in omega (arith, g);
      ahead = omega (arith, l);
      width = omega arith;
      few = omega arith;
    }

pub looks_few : (xs : List Interval) (a low high looks : ℕ) → IsAmong xs a low high looks → 1 < high - low → looks < 8
looks_few xs a low high looks among wide = looks_left (high - low - 1) looks (omega arith) among.width

pub among_upper : (xs : List Interval) (a low middle high looks : ℕ) → Tiles xs 0 (2 ^ 32) → IsAmong xs a low high looks
    → low < middle → middle < high → 2 * (high - middle) ≤ high - low + 1
    → (interval xs (middle - 1)).last < a → IsAmong xs a middle high (looks + 1)
among_upper xs a low middle high looks tiles among above below half ends = record {
  some = below;
  within = among.within;
  past =
      let e : suc (middle - 1) ≡ middle = omega arith in
      let h = among.within in
      let f = tiles_next xs 0 (2 ^ 32) (middle - 1) tiles (omega (arith, h)) in
      let g = rw e at f in
      omega (arith, g, ends);
  ahead = among.ahead;
  width = half_left (high - low - 1) (high - middle - 1) looks (omega arith) among.width;
  few = let h = looks_few xs a low high looks among (omega arith) in omega (arith, h);
}

pub among_lower : (xs : List Interval) (a low middle high looks : ℕ) → IsAmong xs a low high looks
    → low < middle → middle < high → 2 * (middle - low) ≤ high - low + 1
    → a ≤ (interval xs (middle - 1)).last → IsAmong xs a low middle (looks + 1)
among_lower xs a low middle high looks among above below half ends = record {
  some = above;
  within = let h = among.within in omega (arith, h);
  past = among.past;
  ahead = ends;
  width = half_left (high - low - 1) (middle - low - 1) looks (omega arith) among.width;
  few = let h = looks_few xs a low high looks among (omega arith) in omega (arith, h);
}
