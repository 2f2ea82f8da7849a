-- One part of a text more, of parts one after another.
use Rattle.std.proofs.Common.{◌≡◌, ◌∙◌, refl, sym, subst, ℕ, ◌+◌, ◌<◌, List, [], ◌∷◌, ◌++◌, drop, length, get_or}
use Rattle.std.proofs.Common.{add-one, ap}
use Rattle.std.proofs.Math.Seq.{drop-cons}
use Rattle.std.proofs.lemmas.List.{append_assoc, append-nil}
use Rattle.access_map.specs.WorldText.{IsFollowed}

-- the rows from a place on
pub rows_from : {X : Type 0} (xs : List X) (i : ℕ) (x d : X) → i < length xs → x ≡ get_or xs i d
    → drop i xs ≡ x ∷ drop (i + 1) xs
rows_from xs i x d below is = rw (add-one, is) (drop-cons xs i d below)

-- Rows make a text, `Texts`, which is the text of the first of them followed by that of the later ones. What the text
-- so far lacks is that of all these rows; with the text of the first row it lacks that of the later ones.
pub part_on : {Row : Type 0} (Texts : List Row → List ℕ → Type 0) (First Rest Goal : List ℕ → Type 0)
    (rows : List Row) (row : Row) (later : List Row) (text lines new : List ℕ) → rows ≡ row ∷ later → First lines
    → new ≡ text ++ lines
    → ((t : List ℕ) → IsFollowed First Rest t → Texts (row ∷ later) t)
    → ((rest : List ℕ) → Texts rows rest → Goal (text ++ rest))
    → (rest : List ℕ) → Rest rest → Goal (new ++ rest)
part_on {Row} Texts First Rest Goal rows row later text lines new from first is makes so_far rest left =
    let part : IsFollowed First Rest (lines ++ rest) =
    record { first = lines; rest = rest; is_first = first; is_rest = left; is = refl } in
    let whole : Texts rows (lines ++ rest) =
    subst (λ (rs : List Row). Texts rs (lines ++ rest)) (sym from) (makes (lines ++ rest) part) in
    let joined : new ++ rest ≡ text ++ (lines ++ rest) =
    ap (λ (t : List ℕ). t ++ rest) is ∙ append_assoc text lines rest in
    subst Goal (sym joined) (so_far (lines ++ rest) whole)

-- the text is whole where no rows are left
pub none_left : {Row : Type 0} (Texts : List Row → List ℕ → Type 0) (Goal : List ℕ → Type 0) (rows : List Row)
    (text : List ℕ) → rows ≡ [] → Texts [] [] → ((rest : List ℕ) → Texts rows rest → Goal (text ++ rest)) → Goal text
none_left {Row} Texts Goal rows text none empty so_far =
    subst Goal (append-nil text) (so_far [] (subst (λ (rs : List Row). Texts rs []) (sym none) empty))

-- a text with lines after it
pub put_on : (text lines slice new : List ℕ) → new ≡ text ++ slice → slice ≡ lines → new ≡ text ++ lines
put_on text lines slice new is same = is ∙ ap (λ (t : List ℕ). text ++ t) same

-- two parts, each of which is known
pub two_parts : (first second new a b : List ℕ) → new ≡ first ++ second → first ≡ a → second ≡ b → new ≡ a ++ b
two_parts first second new a b is e f = is ∙ ap (λ (t : List ℕ). t ++ second) e ∙ ap (λ (t : List ℕ). a ++ t) f
