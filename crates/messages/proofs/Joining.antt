-- The characters of a text as pieces of a message: one more, none left, and none more after a cut.
use Rattle.std.proofs.Common.{◌≡◌, ℕ, ◌-◌, if◌then◌else◌, Bool, true, false, not, ◌&&◌, ◌==◌, List, [], ◌∷◌, ◌++◌}
use Rattle.std.proofs.Common.{length, encode_utf8, refl, sym, ◌∙◌, subst, arith}
use Rattle.std.proofs.lemmas.Bool.{and_parts, eqb-true}
use Rattle.std.specs.Str.{IsUtf8, chars}
use Rattle.std.proofs.lemmas.Str.{chars-nil, chars_past_char}
use Rattle.messages.specs.Clips.{Clip, clipped, empty, is_nothing, joined, left_after}
use Rattle.messages.specs.Clips.{line_feed, with_character, with_characters}

-- nothing is appended after a cut
clipped_cut : (room : ℕ) (clip : Clip) (piece : List ℕ) → clip.is_cut ≡ true → clipped room clip piece ≡ clip
clipped_cut room clip piece e = rw e refl

joined_cut : (room : ℕ) (piece : ℕ → List ℕ) (clip : Clip) (cs : List ℕ) → clip.is_cut ≡ true
    → joined room piece clip cs ≡ clip
joined_cut room piece clip [] e = refl
joined_cut room piece clip (c ∷ cs) e = rw (clipped_cut room clip (piece c) e) (joined_cut room piece clip cs e)

-- one character more
pub joined_more : (room : ℕ) (piece : ℕ → List ℕ) (clip next all : Clip) (bs rest : List ℕ) (c : ℕ) → IsUtf8 bs
    → bs ≡ encode_utf8 c ++ rest → next ≡ clipped room clip (piece c) → joined room piece clip (chars bs) ≡ all
    → joined room piece next (chars rest) ≡ all
joined_more room piece clip next all bs rest c utf8 e pushed before =
    subst (λ (x : Clip). joined room piece x (chars rest) ≡ all) (sym pushed)
    (rw (chars_past_char bs rest c utf8 e) at before)

-- it's the last one where the text is cut
pub joined_last : (room : ℕ) (piece : ℕ → List ℕ) (clip next all : Clip) (bs rest : List ℕ) (c : ℕ) → IsUtf8 bs
    → bs ≡ encode_utf8 c ++ rest → next ≡ clipped room clip (piece c) → joined room piece clip (chars bs) ≡ all
    → next.is_cut ≡ true → next ≡ all
joined_last room piece clip next all bs rest c utf8 e pushed before cut =
    sym (joined_cut room piece next (chars rest) cut)
    ∙ joined_more room piece clip next all bs rest c utf8 e pushed before

-- no characters
pub none_left : (bs : List ℕ) → length bs ≡ 0 → chars bs ≡ []
none_left [] e = chars-nil
none_left (b ∷ bs) e = absurd (omega arith)

pub joined_done : (room : ℕ) (piece : ℕ → List ℕ) (clip all : Clip) (bs : List ℕ) → length bs ≡ 0
    → joined room piece clip (chars bs) ≡ all → clip ≡ all
joined_done room piece clip all bs none before = rw (none_left bs none) at before

-- a line, and how many may go out, after one character more
pub line_more : (line next all : Clip) (bs rest : List ℕ) (c : ℕ) → IsUtf8 bs → bs ≡ encode_utf8 c ++ rest
    → next ≡ with_character line c → with_characters line (chars bs) ≡ all → with_characters next (chars rest) ≡ all
line_more line next all bs rest c utf8 e put before =
    subst (λ (x : Clip). with_characters x (chars rest) ≡ all) (sym put)
    (rw (chars_past_char bs rest c utf8 e) at before)

pub left_more : (left next all : ℕ) (bs rest : List ℕ) (c : ℕ) → IsUtf8 bs → bs ≡ encode_utf8 c ++ rest
    → next ≡ (if c == line_feed then left - 1 else left) → left_after left (chars bs) ≡ all
    → left_after next (chars rest) ≡ all
left_more left next all bs rest c utf8 e put before =
    subst (λ (x : ℕ). left_after x (chars rest) ≡ all) (sym put)
    (rw (chars_past_char bs rest c utf8 e) at before)

pub line_done : (line all : Clip) (bs : List ℕ) → length bs ≡ 0 → with_characters line (chars bs) ≡ all → line ≡ all
line_done line all bs none before = rw (none_left bs none) at before

pub left_done : (left all : ℕ) (bs : List ℕ) → length bs ≡ 0 → left_after left (chars bs) ≡ all → left ≡ all
left_done left all bs none before = rw (none_left bs none) at before

-- a text of nothing is the empty one
nothing_in : (text : List ℕ) (cut : Bool) → (length text == 0) && not cut ≡ true
    → ◌≡◌ {A = Clip} (record { text = text; is_cut = cut }) empty
nothing_in [] true e = absurd cc
nothing_in [] false e = refl
nothing_in (b ∷ text) cut e =
    let none : length (b ∷ text) ≡ 0 =
    eqb-true (length (b ∷ text)) 0 (and_parts (length (b ∷ text) == 0) (not cut) e).0 in
    absurd (omega arith)

pub nothing_is_empty : (clip : Clip) → is_nothing clip ≡ true → clip ≡ empty
nothing_is_empty clip e = nothing_in clip.text clip.is_cut e
