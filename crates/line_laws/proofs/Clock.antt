-- Time passes: the level of a line stays, since the words that it depends on don't count.
use Rattle.std.proofs.Common.{◌≡◌, ℕ, Bool, true, false, if◌then◌else◌, List, [], ◌∷◌, Option, Some}
use Rattle.std.proofs.Common.{None, refl}
use Rattle.std.specs.Prelude.{slice_index, unwrap_or}
use Rattle.std.proofs.lemmas.Bool.{and_parts, not-true}
use Rattle.devices.specs.declared.device.Device.{Device}
use Rattle.devices.specs.declared.device.Line.{Line}
use Rattle.devices.specs.Devices.{DeviceWords, Word, content_at, content_in, value_at, value_in, word_at}
use Rattle.devices.specs.Lines.{level_of, level_on, levels, levels_by}
use Rattle.devices.specs.Table.{device_at, has, place}
use Rattle.platform.specs.SystemInvariant.{table_of}
use Rattle.platform.specs.Wiring.{HasSteadyLine, HaveSteadyLines, followed_by, has_steady_value, is_steady}

-- ---- a word and its device

abbrev device_in : Option Word → Option Device
device_in None = None
device_in (Some w) = Some w.device

device_of_word : (ds : List DeviceWords) (a : ℕ) → device_at (table_of ds) a ≡ device_in (word_at ds a)
device_of_word [] a = refl
device_of_word (d ∷ ds) a = by (has d.device a) (device_of_word ds a)
  where
    by : (b : Bool) → device_at (table_of ds) a ≡ device_in (word_at ds a) →
        (if b then Some d.device else device_at (table_of ds) a)
        ≡ device_in (if b then Some (record { device = d.device; stored = slice_index d.words (place d.device a) })
        else word_at ds a)
    by true rest = refl
    by false rest = rest

-- ---- the value of a word

module _ (ds : List DeviceWords) (t u : ℕ) where
  steady_content : (word : Option Word) → is_steady (device_in word) ≡ true → content_in t word ≡ content_in u word
  steady_content None steady = refl
  steady_content (Some w) steady = rw (not-true w.device.counts steady) refl

  content_stays : (a : ℕ) → is_steady (device_at (table_of ds) a) ≡ true → content_at ds t a ≡ content_at ds u a
  content_stays a steady = steady_content (word_at ds a) (rw (device_of_word ds a) at steady)

  value_in_stays : (a : ℕ) (word : Option Word) → is_steady (device_in word) ≡ true
      → is_steady (device_at (table_of ds) (followed_by (device_in word) a)) ≡ true
      → value_in ds t a word ≡ value_in ds u a word
  value_in_stays a None steady followed = refl
  value_in_stays a (Some w) steady followed =
      let own = steady_content (Some w) steady in
      let other = content_stays (unwrap_or w.device.of a) followed in
      rw (own, other) refl

  value_stays : (a : ℕ) → has_steady_value (table_of ds) a ≡ true → value_at ds t a ≡ value_at ds u a
  value_stays a steady =
      let parts = and_parts (is_steady (device_at (table_of ds) a)) _ steady in
      value_in_stays a (word_at ds a) (rw (device_of_word ds a) at parts.0) (rw (device_of_word ds a) at parts.1)

  -- ---- the levels

  level_stays : (d : Device) (line : Option Line) → HasSteadyLine (table_of ds) d line
      → level_of (value_at ds t) d line ≡ level_of (value_at ds u) d line
  unfolding level_on
  level_stays d None steady = refl
  level_stays d (Some line) steady =
      let first = value_stays d.base steady.0 in
      let enabled = value_stays line.enable steady.1 in
      rw (first, enabled) refl

  levels_by_stay : (others : List DeviceWords) → HaveSteadyLines (table_of ds) (table_of others)
      → levels_by (value_at ds t) others ≡ levels_by (value_at ds u) others
  levels_by_stay [] steady = refl
  levels_by_stay (d ∷ others) steady =
      let one = level_stays d.device d.device.line steady.0 in
      let more = levels_by_stay others steady.1 in
      rw (one, more) refl

pub levels_stay : (ds : List DeviceWords) (t u : ℕ) → HaveSteadyLines (table_of ds) (table_of ds)
    → levels ds t ≡ levels ds u
levels_stay ds t u steady = levels_by_stay ds t u ds steady
