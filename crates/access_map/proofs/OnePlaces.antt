-- A board has one list of places: two lists that rise and have the same kind at each address are the same list.
use Rattle.std.proofs.Common.{◌≡◌, ℕ, ◌+◌, ◌<◌, ◌≤◌, ◌⊎◌, Bool, List, [], ◌∷◌, Option, Some}
use Rattle.std.proofs.Common.{None, if◌then◌else◌, arith, refl, sym, ap, ◌∙◌, inl, inr}
use Rattle.std.proofs.lemmas.Bool.{cases_lt}
use Rattle.access_map.proofs.PlacesMade.{hits, misses_after, misses_before}
use Rattle.access_map.specs.declared.board_place.BoardPlace.{BoardPlace}
use Rattle.access_map.specs.declared.board_place.PlaceKind.{PlaceKind}
use Rattle.access_map.specs.Places.{ArePlacesOf, Rise, kind_in}
use Rattle.devices.specs.declared.device.Device.{Device}
use Rattle.platform.specs.Boards.{Numbers}

-- the kind at an address of the first place, and at another one
kind_here : (p : BoardPlace) (ps : List BoardPlace) (a : ℕ) → p.first ≤ a → a ≤ p.last → kind_in (p ∷ ps) a ≡ Some p.kind
kind_here p ps a above below = ap (λ (b : Bool). if b then Some p.kind else kind_in ps a) (hits p a above below)

kind_after : (p : BoardPlace) (ps : List BoardPlace) (a : ℕ) → p.last < a → kind_in (p ∷ ps) a ≡ kind_in ps a
kind_after p ps a above = ap (λ (b : Bool). if b then Some p.kind else kind_in ps a) (misses_after p a above)

-- no place has an address before the first
kind_before : (p : BoardPlace) (ps : List BoardPlace) (a : ℕ) → Rise (p ∷ ps) → a < p.first → kind_in (p ∷ ps) a ≡ None
kind_before p [] a rise below = ap (λ (b : Bool). if b then Some p.kind else None) (misses_before p a below)
kind_before p (q ∷ ps) a rise below =
    ap (λ (b : Bool). if b then Some p.kind else kind_in (q ∷ ps) a) (misses_before p a below)
    ∙ kind_before q ps a rise.2 (let o = rise.0 in let n = rise.1.0 in omega (arith, o, n, below))

-- nor do the later places have one before the end of the first
rest_before : (p : BoardPlace) (ps : List BoardPlace) (a : ℕ) → Rise (p ∷ ps) → a ≤ p.last → kind_in ps a ≡ None
rest_before p [] a rise below = refl
rest_before p (q ∷ ps) a rise below = kind_before q ps a rise.2 (let n = rise.1.0 in omega (arith, n, below))

no_kind : (k : PlaceKind) → Some k ≡ None → ⊥
no_kind k e = cc

abbrev kind_of : PlaceKind → Option PlaceKind → PlaceKind
kind_of d None = d
kind_of d (Some k) = k

-- right after the first place no address has its kind
unlike_after : (p : BoardPlace) (ps : List BoardPlace) → Rise (p ∷ ps) → kind_in ps (p.last + 1) ≡ Some p.kind → ⊥
unlike_after p [] rise e = no_kind p.kind (sym e)
unlike_after p (q ∷ ps) rise e = lead (cases_lt (p.last + 1) q.first)
  where
    lead : (((p.last + 1) < q.first) ⊎ (q.first ≤ (p.last + 1))) → ⊥
    lead (inl h) = no_kind p.kind (sym e ∙ kind_before q ps (p.last + 1) rise.2 h)
    lead (inr h) =
        let n = rise.1.0 in
        let o = rise.2.0 in
        let touch : p.last + 1 ≡ q.first = omega (arith, h, n) in
        rise.1.1 touch (ap (kind_of p.kind)
        (sym e ∙ kind_here q ps (p.last + 1) (omega (arith, h)) (omega (arith, touch, o))))

begins_not_before : (p q : BoardPlace) (ps qs : List BoardPlace) → Rise (p ∷ ps) → Rise (q ∷ qs)
    → ((a : ℕ) → kind_in (p ∷ ps) a ≡ kind_in (q ∷ qs) a) → p.first < q.first → ⊥
begins_not_before p q ps qs r s same h =
    no_kind p.kind (sym (kind_here p ps p.first (omega arith) r.0) ∙ same p.first ∙ kind_before q qs p.first s h)

ends_not_before : (p q : BoardPlace) (ps qs : List BoardPlace) → Rise (p ∷ ps) → Rise (q ∷ qs)
    → ((a : ℕ) → kind_in (p ∷ ps) a ≡ kind_in (q ∷ qs) a) → p.first ≡ q.first → p.kind ≡ q.kind → p.last < q.last → ⊥
ends_not_before p q ps qs r s same begins kind h =
    let o = r.0 in
    unlike_after p ps r
    (sym (kind_after p ps (p.last + 1) (omega arith)) ∙ same (p.last + 1)
    ∙ kind_here q qs (p.last + 1) (omega (arith, begins, o)) (omega (arith, h))
    ∙ sym (ap (λ (k : PlaceKind). Some k) kind))

same_place : (p q : BoardPlace) → p.kind ≡ q.kind → p.first ≡ q.first → p.last ≡ q.last → p ≡ q
same_place p q kind first last =
    ap (λ (k : PlaceKind). made k p.first p.last) kind ∙ ap (λ (a : ℕ). made q.kind a p.last) first
    ∙ ap (λ (a : ℕ). made q.kind q.first a) last
  where
    made : PlaceKind → ℕ → ℕ → BoardPlace
    made kind first last = record { kind = kind; first = first; last = last }

one_list : (ps qs : List BoardPlace) → Rise ps → Rise qs → ((a : ℕ) → kind_in ps a ≡ kind_in qs a) → ps ≡ qs
one_list [] [] r s same = refl
one_list [] (q ∷ qs) r s same =
    absurd (no_kind q.kind (sym (kind_here q qs q.first (omega arith) s.0) ∙ sym (same q.first)))
one_list (p ∷ ps) [] r s same =
    absurd (no_kind p.kind (sym (kind_here p ps p.first (omega arith) r.0) ∙ same p.first))
one_list (p ∷ ps) (q ∷ qs) r s same =
    lead (cases_lt p.first q.first) (cases_lt q.first p.first) (λ last. one_list ps qs r.2 s.2 (rest last))
  where
    rest : p.last ≡ q.last → (a : ℕ) → kind_in ps a ≡ kind_in qs a
    rest last a = split (cases_lt p.last a)
      where
        split : ((p.last < a) ⊎ (a ≤ p.last)) → kind_in ps a ≡ kind_in qs a
        split (inl h) =
            sym (kind_after p ps a h) ∙ same a ∙ kind_after q qs a (omega (arith, h, last))
        split (inr h) =
            rest_before p ps a r h ∙ sym (rest_before q qs a s (omega (arith, h, last)))

    lead : ((p.first < q.first) ⊎ (q.first ≤ p.first)) → ((q.first < p.first) ⊎ (p.first ≤ q.first))
        → (p.last ≡ q.last → ps ≡ qs) → (p ∷ ps) ≡ (q ∷ qs)
    lead (inl h) k tail = absurd (begins_not_before p q ps qs r s same h)
    lead (inr h) (inl k) tail = absurd (begins_not_before q p qs ps s r (λ a. sym (same a)) k)
    lead (inr h) (inr k) tail = ends (cases_lt p.last q.last) (cases_lt q.last p.last)
      where
        begins : p.first ≡ q.first
        begins = omega (arith, h, k)

        kind : p.kind ≡ q.kind
        kind = ap (kind_of p.kind)
            (sym (kind_here p ps p.first (omega arith) r.0) ∙ same p.first
            ∙ kind_here q qs p.first (omega (arith, h)) (let o = s.0 in omega (arith, k, o)))

        ends : ((p.last < q.last) ⊎ (q.last ≤ p.last)) → ((q.last < p.last) ⊎ (p.last ≤ q.last))
            → (p ∷ ps) ≡ (q ∷ qs)
        ends (inl m) n = absurd (ends_not_before p q ps qs r s same begins kind m)
        ends (inr m) (inl n) = absurd (ends_not_before q p qs ps s r (λ a. sym (same a)) (sym begins) (sym kind) n)
        ends (inr m) (inr n) =
            let last : p.last ≡ q.last = omega (arith, m, n) in
            ap (λ (x : BoardPlace). x ∷ ps) (same_place p q kind begins last)
            ∙ ap (λ (xs : List BoardPlace). q ∷ xs) (tail last)

pub one_places : (board : Numbers) (devices : List Device) (ps qs : List BoardPlace) → ArePlacesOf board devices ps
    → ArePlacesOf board devices qs → ps ≡ qs
one_places board devices ps qs m n =
    one_list ps qs m.rising n.rising (λ a. m.exactly a ∙ sym (n.exactly a))
