-- Two texts against one another, and the laws of the rows by computing on the texts alone.
use Rattle.std.proofs.Common.{◌≡◌, ℕ, Bool, true, false, not, ◌&&◌, ◌||◌, ◌==◌, List, [], ◌∷◌, length, refl, ap, arith}
use Rattle.std.proofs.Common.{sym, ◌∙◌, inl, inr, bit_and, bit_or}
use Rattle.std.specs.List.{list_any, list_all, All, AllPairs}
use Rattle.std.proofs.lemmas.Bool.{and_parts, and_right, or_cases, eqb-true, both_ways}
use Rattle.std.proofs.lemmas.Bool.Decides.{nat_tests}
use Rattle.std.proofs.lemmas.List.Elements.{All-nil, All-cons}
use Rattle.std.proofs.lemmas.List.Kept.{AllPairs-cons}
use Rattle.std.proofs.lemmas.Nat.{and_assoc, and_comm}
use Rattle.encodings.specs.Masks.{mask_of, value_of, masked}
use Rattle.encodings.proofs.Masks.{bits_by_mask}
use Rattle.instruction_set.specs.Patterns.{place_0, place_1, fits}
use Rattle.instruction_set.specs.Rows.{Row, applies}
use Rattle.row_laws.specs.Laws.{HavePlaces, AreDisjoint, has_overlap, OverlapOnly, WinsOver, DoOverlap}
use Rattle.row_laws.specs.Overlaps.{Overlap}

-- ---- two texts

-- the bits that a text fixes, and their values
abbrev pub mask : List ℕ → ℕ
mask places = mask_of place_0 place_1 places

abbrev pub value : List ℕ → ℕ
value places = value_of place_0 place_1 places

bits : (places : List ℕ) (x : ℕ) → fits places x ≡ true → bit_and x (mask places) ≡ value places
unfolding masked
bits places x f = eqb-true (bit_and x (mask places)) (value places) (sym (bits_by_mask place_0 place_1 places x) ∙ f)

-- whether what fits the first text can't fit the second: they fix a bit to different values
abbrev excludes : List ℕ → List ℕ → Bool
excludes text other = not (bit_and (value text) (mask other) == bit_and (value other) (mask text))

excludes_fits : (text other : List ℕ) (x : ℕ) → excludes text other ≡ true → fits text x ≡ true → fits other x ≡ true
    → ⊥
excludes_fits text other x e f g =
    let a = bits text x f in
    let b = bits other x g in
    let same : bit_and (value text) (mask other) ≡ bit_and (value other) (mask text) =
    rw (sym a, sym b) (and_assoc (mask other) x (mask text)
    ∙ ap (λ m. bit_and x m) (and_comm (mask text) (mask other)) ∙ sym (and_assoc (mask text) x (mask other))) in
    grind (arith, nat_tests, e, same)

-- whether what fits the second text fits the first: it fixes the same bits to the same values
abbrev implied : List ℕ → List ℕ → Bool
implied text other = bit_and (mask other) (mask text) == mask text && bit_and (value other) (mask text) == value text

implied_fits : (text other : List ℕ) (x : ℕ) → implied text other ≡ true → fits other x ≡ true → fits text x ≡ true
unfolding masked
implied_fits text other x e f =
    let (within, agree) =
    and_parts (bit_and (mask other) (mask text) == mask text) (bit_and (value other) (mask text) == value text) e in
    let same : bit_and x (mask text) ≡ value text =
    ap (λ m. bit_and x m) (sym (eqb-true _ _ within)) ∙ sym (and_assoc (mask text) x (mask other))
    ∙ ap (λ v. bit_and v (mask text)) (bits other x f) ∙ eqb-true _ _ agree in
    let test : (bit_and x (mask text) == value text) ≡ true = grind (arith, nat_tests, same) in
    bits_by_mask place_0 place_1 text x ∙ test

met : (one other : Row) (more : Bool) (x : ℕ) → (excludes one.places other.places || more) ≡ true
    → fits one.places x ≡ true → fits other.places x ≡ true → more ≡ true
met one other more x e f g =
    elim (or_cases (excludes one.places other.places) more e) [
      | inl apart ↦ absurd (excludes_fits one.places other.places x apart f g)
      | inr h ↦ h
    ]

-- ---- a row that gives way

-- whether an exception to a row takes out all that fits a text
abbrev yields : List (List ℕ) → List ℕ → Bool
yields except places = list_any (λ text. implied text places) except

yields_fits : (except : List (List ℕ)) (places : List ℕ) (x : ℕ)
    → yields except places ≡ true → fits places x ≡ true
    → list_any (λ text. fits text x) except ≡ true
yields_fits [] places x e f = absurd cc
yields_fits (text ∷ texts) places x e f =
    elim (or_cases (implied text places) (yields texts places) e) [
      | inl here ↦ rw (implied_fits text places x here f) refl
      | inr rest ↦ rw (yields_fits texts places x rest f) (grind (arith, nat_tests))
    ]

yields_applies : (row : Row) (places : List ℕ) (x : ℕ)
    → yields row.except places ≡ true → fits places x ≡ true → applies row x ≡ false
yields_applies row places x e f = and_right (fits row.places x) _ (ap not (yields_fits row.except places x e f))

fits_of : (row : Row) (x : ℕ) → applies row x ≡ true → fits row.places x ≡ true
fits_of row x e = (and_parts (fits row.places x) (not (list_any (λ text. fits text x) row.except)) e).0

-- ---- all rows

each_passes : {X : Type 0} (P : X → Type 0) (test : X → Bool) (xs : List X)
    → ((x : X) → test x ≡ true → P x)
    → list_all test xs ≡ true
    → All P xs
each_passes P test [] one e = All-nil P
each_passes P test (x ∷ xs) one e =
    let (here, rest) = and_parts (test x) (list_all test xs) e in
    All-cons P x xs (one x here) (each_passes P test xs one rest)

-- whether a test holds of each row with each after it
abbrev of_pairs : (Row → Row → Bool) → List Row → Bool
of_pairs test [] = true
of_pairs test (row ∷ rest) = list_all (test row) rest && of_pairs test rest

each_pair : (P : Row → Row → Type 0) (test : Row → Row → Bool) (rows : List Row)
    → ((one other : Row) → test one other ≡ true → P one other)
    → of_pairs test rows ≡ true
    → AllPairs P rows
each_pair P test [] one e = λ i j d lt le. absurd (omega arith)
each_pair P test (row ∷ rest) one e =
    let (here, others) = and_parts (list_all (test row) rest) (of_pairs test rest) e in
    AllPairs-cons P row rest (each_passes (P row) (test row) rest (one row) here) (each_pair P test rest one others)

pub all_have_places : (places : ℕ) (rows : List Row)
    → list_all (λ row. length row.places == places) rows ≡ true
    → HavePlaces places rows
all_have_places places rows e =
    each_passes (λ row. length row.places ≡ places) (λ row. length row.places == places) rows
    (λ row h. eqb-true (length row.places) places h) e

-- whether two rows exclude one another, or one gives way
abbrev pub are_settled : Row → Row → Bool
are_settled one other =
    excludes one.places other.places || (yields one.except other.places || yields other.except one.places)

settled : (one other : Row) → are_settled one other ≡ true → (x : ℕ) → applies one x ≡ true → applies other x ≡ true → ⊥
settled one other e x f g =
    let more = met one other (yields one.except other.places || yields other.except one.places) x e (fits_of one x f)
    (fits_of other x g) in
    elim (or_cases (yields one.except other.places) (yields other.except one.places) more) [
      | inl here ↦ both_ways (applies one x) (yields_applies one other.places x here (fits_of other x g)) f
      | inr there ↦ both_ways (applies other x) (yields_applies other one.places x there (fits_of one x f)) g
    ]

pub all_apart : (rows : List Row) → of_pairs are_settled rows ≡ true → AreDisjoint rows
all_apart rows e =
    each_pair (λ one other. (x : ℕ) → applies one x ≡ true → applies other x ≡ true → ⊥) are_settled rows settled e

-- ---- the overlaps

-- whether two rows exclude one another, or the list has them
abbrev pub is_listed : List Overlap → Row → Row → Bool
is_listed overlaps one other =
    excludes one.places other.places || (has_overlap overlaps one other || has_overlap overlaps other one)

pub all_listed : (overlaps : List Overlap) (rows : List Row) → of_pairs (is_listed overlaps) rows ≡ true
    → OverlapOnly overlaps rows
all_listed overlaps rows e =
    each_pair
    (λ one other. (x : ℕ) → fits one.places x ≡ true → fits other.places x ≡ true
    → (has_overlap overlaps one other || has_overlap overlaps other one) ≡ true)
    (is_listed overlaps) rows
    (λ one other h x. met one other (has_overlap overlaps one other || has_overlap overlaps other one) x h) e

-- a number with the ones of both texts
abbrev common : Row → Row → ℕ
common winner row = bit_or (value winner.places) (value row.places)

-- whether one row wins over another, and some number fits both
abbrev pub is_won : Row → Row → Bool
is_won winner row =
    yields row.except winner.places && (fits winner.places (common winner row) && fits row.places (common winner row))

won : (winner row : Row) → is_won winner row ≡ true → WinsOver winner row
won winner row e =
    let (taken, both) = and_parts (yields row.except winner.places)
    (fits winner.places (common winner row) && fits row.places (common winner row)) e in
    let (one, other) = and_parts (fits winner.places (common winner row)) (fits row.places (common winner row)) both in
    ((common winner row, one, other), λ x f. yields_applies row winner.places x taken f)

pub all_won : (overlaps : List Overlap)
    → list_all (λ o. list_all (λ winner. is_won winner o.row) o.others) overlaps ≡ true → DoOverlap overlaps
all_won overlaps e =
    each_passes (λ o. All (λ winner. WinsOver winner o.row) o.others)
    (λ o. list_all (λ winner. is_won winner o.row) o.others) overlaps
    (λ o h. each_passes (λ winner. WinsOver winner o.row) (λ winner. is_won winner o.row) o.others
    (λ winner w. won winner o.row w) h) e
