-- Searches for the stop that has the words: none of those that were tried has them.
use Rattle.std.proofs.Common.{◌≡◌, ◌≢◌, ◌∙◌, ◌<◌, ◌≤◌, ◌+◌, ◌-◌, ℕ, List, Bool, true, false, Some, length, sym, subst}
use Rattle.std.proofs.Common.{arith, eq-zero-or-pos, inl, inr}
use Rattle.std.proofs.lemmas.Option.{slice_get_within}
use Rattle.std.proofs.lemmas.Slice.Eq.{bytes_eq-Decides}
use Rattle.std.specs.List.{slice_get}
use Rattle.std.specs.Str.{bytes_eq}

-- a text that isn't these words
other : (text words : List ℕ) → bytes_eq text words ≡ false → text ≢ words
other text words differ same =
    let equal : true ≡ false = sym ((bytes_eq-Decides text words).1 same) ∙ differ in cc

-- no text of a number below this one is these words
abbrev pub NoneBelow : (ℕ → List ℕ) → List ℕ → ℕ → Type 0
NoneBelow text words number = (n : ℕ) → n < number → text n ≢ words

pub none_more : (text : ℕ → List ℕ) (words : List ℕ) (number : ℕ) (result : Bool) → NoneBelow text words number
    → result ≡ bytes_eq (text number) words → result ≡ false → NoneBelow text words (number + 1)
none_more text words number result none is wrong n below =
    elim (eq-zero-or-pos (number - n)) [
      | inl zero ↦
          let same : number ≡ n = omega arith in
          subst (λ (m : ℕ). text m ≢ words) same (other (text number) words (sym is ∙ wrong))
      | inr some ↦ none n (omega arith)
    ]

-- no text of an item of the list at a place below this one is these words
abbrev pub NoneBefore : {X : Type 0} → (X → List ℕ) → List X → List ℕ → ℕ → Type 0
NoneBefore {X = X} text xs words place =
    (n : ℕ) (x : X) → n < place → slice_get xs n ≡ Some x → text x ≢ words

pub none_yet : {X : Type 0} (text : X → List ℕ) (xs : List X) (words : List ℕ) (place : ℕ) (here : X) (result : Bool)
    → NoneBefore text xs words place → slice_get xs place ≡ Some here → result ≡ bytes_eq (text here) words
    → result ≡ false → NoneBefore text xs words (place + 1)
none_yet {X = X} text xs words place here result none at is wrong n x below found =
    elim (eq-zero-or-pos (place - n)) [
      | inl zero ↦
          let same : place ≡ n = omega arith in
          let at_n : slice_get xs n ≡ Some here = subst (λ (m : ℕ). slice_get xs m ≡ Some here) same at in
          let both : Some here ≡ Some x = sym at_n ∙ found in
          let equal : here ≡ x = cc in
          subst (λ (y : X). text y ≢ words) equal (other (text here) words (sym is ∙ wrong))
      | inr some ↦ none n x (omega arith) found
    ]

-- where each value is in the list, none of its texts is these words
pub none_at_all : {X : Type 0} (text : X → List ℕ) (xs : List X) (words : List ℕ) (place : ℕ)
    → NoneBefore text xs words place → length xs ≤ place → ((x : X) → (n : ℕ) × (slice_get xs n ≡ Some x)) → (x : X)
    → text x ≢ words
none_at_all text xs words place none all listed x =
    let within : (listed x).0 < length xs = slice_get_within xs (listed x).0 x (listed x).1 in
    none (listed x).0 x (omega arith) (listed x).1
