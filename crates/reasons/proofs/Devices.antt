-- A device and a line can be made of the parts that are read.
use Rattle.std.proofs.Common.{◌≡◌, ℕ, ◌<◌, Bool, true, false, ◌&&◌, List, codes, Option, Some, None, Result, Ok, Err}
use Rattle.std.proofs.Common.{IsOk}
use Rattle.std.proofs.Common.{refl}
use Rattle.toml.specs.Data.{Members, get_member}
use Rattle.devices.specs.declared.device.Device.{Device}
use Rattle.devices.specs.declared.device.Line.{Line}
use Rattle.board.proofs.Devices.{device_of_is, line_of_is}
use Rattle.board.specs.declared.device_parts.Effects.{Effects}
use Rattle.board.specs.declared.device_parts.Span.{Span}
use Rattle.board.specs.declared.device_parts.Values.{Values}
use Rattle.board.specs.Devices.{device_in, device_of, effects_in, is_device_bytes, is_device_size, known_keys, line_in}
use Rattle.board.specs.Devices.{line_of, span_in, values_in}
use Rattle.board.specs.Reading.{span_read, values_read}
use Rattle.board.specs.Values.{◌>>=◌}
use Rattle.platform.specs.Boards.{Numbers}
use Rattle.platform.specs.declared.error.BoardError.{BoardError}
use Rattle.reasons.specs.declared.problem.Problem.{Problem}
use Rattle.reasons.specs.Problems.{Passes}

pub is_made : (span : Span) (values : Values) (effects : Effects) (line : Option Line)
    → IsOk (device_of (span_read span) (values_read values) effects line)
is_made span values effects line =
    rw (device_of_is (span_read span) (values_read values) effects line values.near span.base_is_whole
    span.size_is_whole span.within) refl

pub is_line : (interrupt enable : ℕ) → interrupt < 240 → IsOk (line_of interrupt enable)
is_line interrupt enable small = rw (line_of_is interrupt enable small) refl

-- a device has a size of one
pub no_device_size : (numbers : Numbers) (before base size : ℕ) → is_device_bytes size ≡ false
    → is_device_size numbers before base size ≡ false
no_device_size numbers before base size none = lead (is_device_bytes size) _ none
  where
    lead : (b c : Bool) → b ≡ false → (b && c) ≡ false
    lead true c is = absurd cc
    lead false c is = refl

-- a table whose parts are read is refused where its keys are
pub table_passes : (numbers : Numbers) (before : ℕ) (devices : List Device) (table : Members) (span : Span)
    (values : Values) (found : Result (Unit {0}) Problem) → span_in numbers before table ≡ Ok (span_read span)
    → values_in devices (span_read span) table ≡ Ok (values_read values)
    → IsOk (effects_in devices (span_read span) table)
    → IsOk (line_in numbers.interrupts devices (span_read span) values.counts table (get_member (codes "line") table))
    → Passes found (known_keys table) → Passes found (device_in numbers before devices table)
unfolding device_in
table_passes numbers before devices table span values found at_span at_values effects line keys =
    rw (at_span, at_values)
    (lead (effects_in devices (span_read span) table)
    (line_in numbers.interrupts devices (span_read span) values.counts table (get_member (codes "line") table))
    (known_keys table) found effects line keys)
  where
    lead : (e : Result Effects BoardError) (l : Result (Option Line) BoardError) (k : Result Members BoardError)
        (found : Result (Unit {0}) Problem) → IsOk e → IsOk l → Passes found k
        → Passes found (e >>= (λ (e : Effects). l >>= (λ (l : Option Line). k >>= (λ (k : Members).
        device_of (span_read span) (values_read values) e l))))
    lead (Ok e) (Ok l) (Ok k) (Ok nothing) e_ok l_ok h = is_made span values e l
    lead (Ok e) (Ok l) (Ok k) (Err problem) e_ok l_ok h = absurd cc
    lead (Ok e) (Ok l) (Err error) (Ok nothing) e_ok l_ok h = h
    lead (Ok e) (Ok l) (Err error) (Err problem) e_ok l_ok h = cc
    lead (Ok e) (Err error) k found e_ok l_ok h = absurd cc
    lead (Err error) l k found e_ok l_ok h = absurd cc
