-- The breakpoints of a session (profile).
use Rattle.std.specs.Prelude.{ℕ, nat_lt, Bool, ◌||◌, ◌==◌, if◌then◌else◌, List, [], ◌∷◌, ◌++◌, length, codes}
use Rattle.std.specs.List.{list_any}
use Rattle.platform.specs.Text.{line_feed}

-- how many breakpoints can be set at most
abbrev pub max_breakpoints : ℕ
max_breakpoints = 16

abbrev pub has : List ℕ → ℕ → Bool
has breakpoints a = list_any (λ b. b == a) breakpoints

-- the breakpoints with one more, where there is room for it
abbrev pub with_breakpoint : List ℕ → ℕ → List ℕ
with_breakpoint breakpoints a =
    if has breakpoints a then breakpoints
    else if nat_lt (length breakpoints) max_breakpoints then breakpoints ++ a ∷ []
    else breakpoints

abbrev pub breakpoint_text : List ℕ → ℕ → List ℕ
breakpoint_text breakpoints a =
    if has breakpoints a || nat_lt (length breakpoints) max_breakpoints then codes "ok" ++ line_feed
    else codes "error 3" ++ line_feed
