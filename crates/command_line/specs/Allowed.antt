-- What `--allow` asks for: A-B (profile).
use Rattle.std.specs.Prelude.{◌≡◌, ◌≤◌, ℕ, nat_le, if◌then◌else◌, List, length, map, Option, Some, None}
use Rattle.command_line.specs.Dumps.{SplitText, parts_at}
use Rattle.debugger_commands.specs.Words.{number}
use Rattle.mpu.specs.declared.spans.Span.{Span}

-- the character `-`
abbrev pub hyphen : ℕ
hyphen = 45

-- the addresses from the first to the last, which isn't below the first
abbrev pub of_ends : Option ℕ → Option ℕ → Option Span
of_ends None last = None
of_ends (Some first) None = None
of_ends (Some first) (Some last) =
    if nat_le first last then Some (record { first = first; last = last }) else None

abbrev pub of_parts : Option SplitText → Option Span
of_parts None = None
of_parts (Some parts) = of_ends (number parts.before) (number parts.after)

-- the addresses that a text asks for: two numbers with a hyphen between them
abbrev pub span_named : List ℕ → Option Span
span_named text = of_parts (parts_at hyphen text)

-- the most spans of a run
abbrev pub max_spans : ℕ
max_spans = 16

-- each text asks for the span at its place
abbrev pub AreAllowed : List (List ℕ) → List Span → Type 0
AreAllowed texts spans = (length texts ≤ max_spans) × (map span_named texts ≡ map (λ s. Some s) spans)
