-- A text that is cut where it has no room for what comes next.
use Rattle.std.specs.Prelude.{ℕ, ◌+◌, ◌-◌, Bool, true, false, not, ◌&&◌, ◌==◌, nat_le, if◌then◌else◌, List, [], ◌∷◌}
use Rattle.std.specs.Prelude.{◌++◌, length, codes}
use Rattle.std.specs.Str.{chars}
use Rattle.messages.specs.Visible.{visible}

-- a text, and whether it was cut
pub record Clip : Type 0 where
  pub text : List ℕ
  pub is_cut : Bool

-- a piece more, if it has room and nothing before it was left out
abbrev pub clipped : ℕ → Clip → List ℕ → Clip
clipped room clip piece =
    if clip.is_cut then clip
    else if nat_le (length clip.text + length piece) room then record { text = clip.text ++ piece; is_cut = false }
    else record { text = clip.text; is_cut = true }

-- the text, which ends in `..` where it was cut
abbrev pub shown : Clip → List ℕ
shown clip = if clip.is_cut then clip.text ++ codes ".." else clip.text

-- characters
abbrev pub line_feed : ℕ
line_feed = 10

abbrev pub quote : ℕ
quote = 34

abbrev pub backslash : ℕ
backslash = 92

-- nothing yet
abbrev pub empty : Clip
empty = record { text = []; is_cut = false }

-- nothing was put, not even cut
abbrev pub is_nothing : Clip → Bool
is_nothing clip = (length clip.text == 0) && not clip.is_cut

-- the pieces of characters, one after another
abbrev pub joined : ℕ → (ℕ → List ℕ) → Clip → List ℕ → Clip
joined room piece clip [] = clip
joined room piece clip (c ∷ cs) = joined room piece (clipped room clip (piece c)) cs

-- ---- a string from outside

-- a character in the quotes of a basic string of TOML: quotes and backslashes are escaped too
abbrev pub in_quotes : ℕ → List ℕ
in_quotes c = if c == quote then codes "\\\"" else if c == backslash then codes "\\\\" else visible c

-- a string as `Escaped` shows it, and as `Quoted` does
abbrev pub escaped : List ℕ → List ℕ
escaped text = shown (joined 198 visible empty (chars text))

abbrev pub quoted : List ℕ → List ℕ
quoted text = codes "\"" ++ (shown (joined 198 in_quotes empty (chars text)) ++ codes "\"")

-- ---- a line of a message

-- the line after a character: a line feed ends it, and the next one begins
abbrev pub with_character : Clip → ℕ → Clip
with_character line c = if c == line_feed then empty else clipped 510 line (visible c)

abbrev pub with_characters : Clip → List ℕ → Clip
with_characters line [] = line
with_characters line (c ∷ cs) = with_characters (with_character line c) cs

-- how many lines may still go out after characters
abbrev pub left_after : ℕ → List ℕ → ℕ
left_after left [] = left
left_after left (c ∷ cs) = left_after (if c == line_feed then left - 1 else left) cs
