-- Sets of exceptions as bits.
use Rattle.std.specs.Prelude.{◌≡◌, ℕ, ◌+◌, ◌*◌, ◌<◌, Bool, true, false, not, ◌&&◌, ◌||◌, List, [], map, slice_index}
use Rattle.std.specs.Prelude.{slice_index_or, Option, Some, None}
use Rattle.std.specs.List.{range_with_len}
use Rattle.instruction_set.specs.Words.{is_bit}
use Rattle.platform.specs.declared.exception.TheConstants.{EXCEPTIONS}
use Rattle.platform.specs.Priorities.{is_always_enabled, is_in, is_in_words, is_fixed, some_below}

-- the exceptions that pass a test, as a set of the reference: a place for each number
unfoldable pub flags : (ℕ → Bool) → List Bool
flags test = map test (range_with_len 0 EXCEPTIONS)

-- the set of a priority byte
abbrev pub level : List (List ℕ) → ℕ → List ℕ
level levels p = slice_index_or levels p []

-- whether x is pending: in the set of its priority byte, or held elsewhere
abbrev pub is_waiting : List (List ℕ) → List ℕ → List ℕ → ℕ → Bool
is_waiting levels held priorities x = is_in_words held x || is_in_words (level levels (slice_index priorities x)) x

-- whether x is in the set of its priority byte where it's pending: it's enabled, and its priority isn't fixed
abbrev pub is_levelled : List ℕ → ℕ → Bool
is_levelled enabled x = (is_always_enabled x || is_in_words enabled x) && not (is_fixed x)

-- what is in a level is pending and enabled and has that priority byte, and what else is pending is held
pub record IsKept (levels : List (List ℕ)) (held enabled priorities : List ℕ) : Type 0 where
  pub in_level : (p x : ℕ) → x < EXCEPTIONS → is_in_words (level levels p) x ≡ true
      → (slice_index priorities x ≡ p) × (is_levelled enabled x ≡ true)
  pub in_held : (x : ℕ) → x < EXCEPTIONS → is_in_words held x ≡ true → is_levelled enabled x ≡ false

-- the first exception of a set of bits
abbrev pub IsFirstOf : List ℕ → Option ℕ → Type 0
IsFirstOf set (Some x) = (x < EXCEPTIONS) × (is_in_words set x ≡ true) × ((y : ℕ) → y < x → is_in_words set y ≡ false)
IsFirstOf set None = (y : ℕ) → y < EXCEPTIONS → is_in_words set y ≡ false

-- no exception is in a level before one
abbrev pub AreEmpty : List (List ℕ) → ℕ → Type 0
AreEmpty levels p = (q : ℕ) → q < p → (y : ℕ) → y < EXCEPTIONS → is_in_words (level levels q) y ≡ false

-- the first exception of the first level that isn't empty
abbrev pub IsFirstLevelled : List (List ℕ) → Option ℕ → Type 0
IsFirstLevelled levels (Some x) = (p : ℕ) × AreEmpty levels p × IsFirstOf (level levels p) (Some x)
IsFirstLevelled levels None = (p : ℕ) (y : ℕ) → y < EXCEPTIONS → is_in_words (level levels p) y ≡ false

-- for each priority byte, `filled` says whether its level has an exception
abbrev pub IsSummaryOf : List (List ℕ) → List ℕ → Type 0
IsSummaryOf levels filled = (p : ℕ) → p < EXCEPTIONS
    → is_in_words filled p ≡ some_below (is_in_words (level levels p)) EXCEPTIONS

-- bit k of a word says whether its k-th number is in a set
abbrev pub IsWordOf : List Bool → ℕ → ℕ → Type 0
IsWordOf set word bits = (k : ℕ) → k < 32 → is_in set (word * 32 + k) ≡ is_bit bits k
