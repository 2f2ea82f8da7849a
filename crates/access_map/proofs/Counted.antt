-- A step of a world leaves the place of the world's row, which is where the first row of its setting is or will be.
use Rattle.std.proofs.Common.{◌≡◌, ℕ, zero, suc, ◌+◌, ◌<◌, ◌≤◌, ◌⊎◌, Bool, true, false, if◌then◌else◌, List, []}
use Rattle.std.proofs.Common.{◌∷◌, ◌++◌, length, take, get_or, slice_set, nat_lt, arith, refl, sym, ap, ◌∙◌, inl, inr}
use Rattle.std.proofs.lemmas.Bool.{cases_lt}
use Rattle.std.specs.Bool.{Decides}
use Rattle.std.proofs.lemmas.Bool.Decides.{Decides-ltb}
use Rattle.std.proofs.lemmas.List.{get_or-take, length-take, take_more_set}
use Rattle.std.proofs.Math.Seq.{take-set-lt}
use Rattle.access_map.specs.declared.counting.WorldSteps.{WorldSteps}
use Rattle.access_map.specs.declared.world.World.{World}
use Rattle.access_map.specs.Counting.{Worlds, added, one_more, counted_from, counted_row, first_row, place_in, place_of}
use Rattle.access_map.specs.Settings.{is_same_setting}
use Rattle.access_map.proofs.SameSettings.{same_exactly}

same_as_itself : (w : World) → is_same_setting w w ≡ true
same_as_itself w =
    (same_exactly w w).0 (record { control = refl; count = refl; regions = λ k h. refl; negative = refl })

choice_le : (b : Bool) (n m : ℕ) → n ≤ m → (if b then 0 else n + 1) ≤ m + 1
choice_le true n m h = omega arith
choice_le false n m h = omega arith

place_le : (w : World) (xs : List WorldSteps) → place_in w xs ≤ length xs
place_le w [] = omega arith
place_le w (x ∷ xs) =
    let h = choice_le (is_same_setting w x.world) (place_in w xs) (length xs) (place_le w xs) in omega (arith, h)

-- another row of the same world
place_set : (w : World) (xs : List WorldSteps) (k : ℕ) (d row : WorldSteps) → row.world ≡ (get_or xs k d).world
    → place_in w (slice_set xs k row) ≡ place_in w xs
place_set w [] k d row e = refl
place_set w (x ∷ xs) zero d row e =
    ap (λ (v : World). if is_same_setting w v then 0 else place_in w xs + 1) e
place_set w (x ∷ xs) (suc k) d row e =
    ap (λ (n : ℕ). if is_same_setting w x.world then 0 else n + 1) (place_set w xs k d row e)

-- one more row, of a world that has none
place_push : (w : World) (xs : List WorldSteps) (row : WorldSteps) → is_same_setting w row.world ≡ true
    → place_in w xs ≡ length xs → place_in w (xs ++ row ∷ []) ≡ length xs
place_push w [] row same none = ap (λ (b : Bool). if b then 0 else 1) same
place_push w (x ∷ xs) row same none = lead (is_same_setting w x.world) none (place_push w xs row same)
  where
    lead : (b : Bool) → (if b then 0 else place_in w xs + 1) ≡ length (x ∷ xs)
        → (place_in w xs ≡ length xs → place_in w (xs ++ row ∷ []) ≡ length xs)
        → (if b then 0 else place_in w (xs ++ row ∷ []) + 1) ≡ length (x ∷ xs)
    lead true none more = none
    lead false none more =
        let h = more (let e : place_in w xs ≡ length xs = omega (arith, none) in e) in omega (arith, h)

-- the row at the place counts one step more
row_counts : (s : Worlds) (w : World) (pc place : ℕ) (d : WorldSteps) → place ≡ place_of w s → place < s.used
    → place_in w (take s.used (slice_set s.rows place (counted_row (get_or s.rows place d) pc))) ≡ place
row_counts s w pc place d is less =
    ap (λ (xs : List WorldSteps). place_in w xs)
    (take-set-lt s.used s.rows place (counted_row (get_or s.rows place d) pc) less)
    ∙ place_set w (take s.used s.rows) place d (counted_row (get_or s.rows place d) pc)
    (sym (ap (λ (r : WorldSteps). r.world) (get_or-take s.used s.rows place d less)))
    ∙ sym is

-- a new row is at the place
row_added : (s : Worlds) (w : World) (tick pc place : ℕ) → length s.rows ≡ 64 → place ≡ place_of w s
    → s.used ≤ place → s.used < 64
    → place_in w (take (s.used + 1) (slice_set s.rows s.used (first_row w tick pc))) ≡ place
row_added s w tick pc place rooms is more less =
    let few : length (take s.used s.rows) ≡ s.used = rw length-take (omega (arith, rooms)) in
    let most = place_le w (take s.used s.rows) in
    let none : place_in w (take s.used s.rows) ≡ length (take s.used s.rows) = omega (arith, is, few, most) in
    ap (λ (xs : List WorldSteps). place_in w xs)
    (take_more_set s.rows s.used (first_row w tick pc) (omega (arith, rooms)))
    ∙ place_push w (take s.used s.rows) (first_row w tick pc) (same_as_itself w) none
    ∙ sym none ∙ sym is

stays_added : (s : Worlds) (w : World) (tick pc place : ℕ) → length s.rows ≡ 64 → place ≡ place_of w s
    → s.used ≤ place → place_of w (added s w tick pc) ≡ place
stays_added s w tick pc place rooms is more = lead (nat_lt s.used 64) (Decides-ltb s.used 64)
  where
    lead : (b : Bool) → Decides b (s.used < 64)
        → place_of w (if b then record s { rows = slice_set s.rows s.used (first_row w tick pc); used = s.used + 1 }
        else record s { others = one_more s.others }) ≡ place
    lead true test = row_added s w tick pc place rooms is more (test.0 refl)
    lead false test = sym is

-- a step of a world is counted where the place of its row is known: the place is the same afterwards
pub place_stays : (s : Worlds) (w : World) (tick pc place : ℕ) → length s.rows ≡ 64 → place ≡ place_of w s
    → place_of w (counted_from s w tick pc place) ≡ place
place_stays s w tick pc place rooms is = lead (nat_lt place s.used) (Decides-ltb place s.used)
  where
    lead : (b : Bool) → Decides b (place < s.used)
        → place_of w (if b
        then record s {
          rows = slice_set s.rows place (counted_row (get_or s.rows place (first_row w tick pc)) pc);
        }
        else added s w tick pc) ≡ place
    lead true test = row_counts s w pc place (first_row w tick pc) is (test.0 refl)
    lead false test = stays_added s w tick pc place rooms is (beyond test (cases_lt place s.used))
      where
        beyond : Decides false (place < s.used) → ((place < s.used) ⊎ (s.used ≤ place)) → s.used ≤ place
        beyond test (inl less) = absurd (let e = test.1 less in let wrong : ⊥ = cc in wrong)
        beyond test (inr more) = more
