-- A place has one map: two lists of intervals that tile the same addresses, describe them, and are as long as possible
-- are the same list. Both begin at the same address with the same rights and rule. If one of the first intervals ended
-- before the other, the one after it would begin inside the other, and so be like the first.
use Rattle.std.proofs.Common.{◌≡◌, ℕ, suc, ◌+◌, ◌<◌, ◌≤◌, ◌⊎◌, List, [], ◌∷◌, arith, refl, sym, ap, ◌∙◌, inl, inr}
use Rattle.std.specs.List.{All}
use Rattle.std.proofs.lemmas.Bool.{cases_lt}
use Rattle.access_map.specs.declared.interval.Interval.{Interval}
use Rattle.access_map.specs.declared.world.Place.{Place}
use Rattle.access_map.specs.declared.world.Rights.{Rights}
use Rattle.access_map.specs.declared.world.World.{World}
use Rattle.access_map.specs.Maps.{AreLongest, BeginsUnlike, Describes, IsAlike, IsPlaceMap, Tiles}
use Rattle.access_map.specs.Worlds.{first_of, end_of}
use Rattle.platform.specs.Boards.{Numbers}
use Rattle.platform.specs.declared.access.Rule.{Rule}

tiles_order : (xs : List Interval) (a b : ℕ) → Tiles xs a b → a ≤ b
tiles_order [] a b tiles = omega arith
tiles_order (x ∷ xs) a b tiles = let h = tiles_order xs (x.last + 1) b tiles.2 in
    let f = tiles.0 in let o = tiles.1 in omega (arith, h, f, o)

-- the first interval of a list describes its addresses, and so do the others
first_right : (w : World) (place : Place) (x : Interval) (xs : List Interval) → All (Describes w place) (x ∷ xs)
    → Describes w place x
first_right w place x xs right = right 0 x (omega arith)

others_right : (w : World) (place : Place) (x : Interval) (xs : List Interval) → All (Describes w place) (x ∷ xs)
    → All (Describes w place) xs
others_right w place x xs right k d h = right (suc k) d (omega arith)

-- two intervals that describe an address of both are alike
alike_at : (w : World) (place : Place) (x y : Interval) (a : ℕ) → Describes w place x → Describes w place y
    → x.first ≤ a → a ≤ x.last → y.first ≤ a → a ≤ y.last → IsAlike x y
alike_at w place x y a right other above below from upto =
    let h = right a above below in let k = other a from upto in (sym h.0 ∙ k.0, sym h.1 ∙ k.1)

-- an interval that is as long as possible doesn't end before another that begins where it does
ends_not_before : (w : World) (place : Place) (x y : Interval) (xs : List Interval) (b : ℕ)
    → Describes w place y → All (Describes w place) (x ∷ xs) → BeginsUnlike x xs → Tiles xs (x.last + 1) b
    → x.first ≡ y.first → x.first ≤ x.last → y.last < b → x.last < y.last → ⊥
ends_not_before w place x y [] b other right unlike tiles begins order within before = omega arith
ends_not_before w place x y (z ∷ xs) b other right unlike tiles begins order within before =
    let next = first_right w place z xs (others_right w place x (z ∷ xs) right) in
    let first : x.first ≤ x.first = omega arith in
    let e = tiles.0 in let o = tiles.1 in
    let like = alike_at w place x y x.first (first_right w place x (z ∷ xs) right) other (omega arith) order
    (omega arith) (omega arith) in
    let same = alike_at w place y z z.first other next (omega (arith, e)) (omega (arith, e)) (omega arith) o in
    unlike (like.0 ∙ same.0, like.1 ∙ same.1)

same_interval : (x y : Interval) → x.first ≡ y.first → x.last ≡ y.last → IsAlike x y → x ≡ y
same_interval x y first last alike =
    ap (λ (a : ℕ). made a x.last x.rights x.rule) first ∙ ap (λ (a : ℕ). made y.first a x.rights x.rule) last
    ∙ ap (λ (r : Rights). made y.first y.last r x.rule) alike.0
    ∙ ap (λ (u : Rule). made y.first y.last y.rights u) alike.1
  where
    made : ℕ → ℕ → Rights → Rule → Interval
    made first last rights rule = record { first = first; last = last; rights = rights; rule = rule }

one_list : (w : World) (place : Place) (xs ys : List Interval) (a b : ℕ) → Tiles xs a b → Tiles ys a b
    → All (Describes w place) xs → All (Describes w place) ys → AreLongest xs → AreLongest ys → xs ≡ ys
one_list w place [] [] a b t u r s l m = refl
one_list w place [] (y ∷ ys) a b t u r s l m =
    let h = tiles_order ys (y.last + 1) b u.2 in
    let f = u.0 in let o = u.1 in absurd (let wrong : ⊥ = omega (arith, h, f, o, t) in wrong)
one_list w place (x ∷ xs) [] a b t u r s l m =
    let h = tiles_order xs (x.last + 1) b t.2 in
    let f = t.0 in let o = t.1 in absurd (let wrong : ⊥ = omega (arith, h, f, o, u) in wrong)
one_list w place (x ∷ xs) (y ∷ ys) a b t u r s l m =
    lead (cases_lt x.last y.last) (cases_lt y.last x.last)
    (λ ends. one_list w place xs ys (x.last + 1) b t.2 (rw ends u.2)
    (others_right w place x xs r) (others_right w place y ys s) l.1 m.1)
  where
    begins : x.first ≡ y.first
    begins = t.0 ∙ sym u.0

    lead : ((x.last < y.last) ⊎ (y.last ≤ x.last)) → ((y.last < x.last) ⊎ (x.last ≤ y.last))
        → (x.last ≡ y.last → xs ≡ ys) → (x ∷ xs) ≡ (y ∷ ys)
    lead (inl before) k rest =
        let h = tiles_order ys (y.last + 1) b u.2 in
        absurd (ends_not_before w place x y xs b (first_right w place y ys s) r l.0 t.2 begins t.1
        (omega (arith, h)) before)
    lead (inr h) (inl before) rest =
        let k = tiles_order xs (x.last + 1) b t.2 in
        absurd (ends_not_before w place y x ys b (first_right w place x xs r) s m.0 u.2 (sym begins) u.1
        (omega (arith, k)) before)
    lead (inr h) (inr k) rest =
        let ends : x.last ≡ y.last = omega arith in
        let alike = alike_at w place x y x.first (first_right w place x xs r) (first_right w place y ys s)
        (omega arith) t.1 (let e = begins in omega (arith, e)) (let e = begins in let o = u.1 in omega (arith, e, o)) in
        let same = same_interval x y begins ends alike in
        let others = rest ends in
        cc

pub one_map : (w : World) (board : Numbers) (place : Place) (xs ys : List Interval)
    → IsPlaceMap w board place xs → IsPlaceMap w board place ys → xs ≡ ys
one_map w board place xs ys m n =
    one_list w place xs ys (first_of board place) (end_of board place) m.tiles n.tiles m.right n.right m.longest
    n.longest
