-- How a list of shared spans grows. No public contract cites it.
use Rattle.std.specs.Prelude.{if◌then◌else◌, List, [], ◌∷◌, ◌++◌}
use Rattle.access_map.specs.declared.sharing.Stretch.{Stretch}
use Rattle.mpu.specs.declared.spans.Span.{Span}

-- a stretch as a span
abbrev pub span_of : Stretch → Span
span_of x = record { first = x.first; last = x.last }

-- the spans, and the stretch if it is shared
abbrev pub with_stretch : List Span → Stretch → List Span
with_stretch xs x = if x.is_shared then xs ++ span_of x ∷ [] else xs
