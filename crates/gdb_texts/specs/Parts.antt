-- The parts of a text between separators.
use Rattle.std.specs.Prelude.{ℕ, ◌==◌, if◌then◌else◌, List, [], ◌∷◌, ◌++◌}

-- the parts of a text that begins with the bytes of `part` so far
unfoldable pub parts_from : ℕ → List ℕ → List ℕ → List (List ℕ)
parts_from separator part [] = part ∷ []
parts_from separator part (byte ∷ bytes) =
    if byte == separator then part ∷ parts_from separator [] bytes else parts_from separator (part ++ byte ∷ []) bytes

-- the parts of a text: at least one, which may be empty
abbrev pub parts : ℕ → List ℕ → List (List ℕ)
parts separator text = parts_from separator [] text

-- `;`
abbrev pub semicolon : ℕ
semicolon = 59
