-- What the pokes of a tick leave in a word, and the devices that lines are on.
use Rattle.std.proofs.Common.{◌≡◌, ◌≢◌, ℕ, ◌+◌, ◌*◌, ◌/◌, ◌%◌, ◌<◌, ◌≤◌, Bool, true, false}
use Rattle.std.proofs.Common.{List, [], ◌∷◌, Option, Some, None}
use Rattle.std.proofs.Common.{length, drop, ◌++◌, slice_set, slice_index_or, refl, ap, arith, subst, sym, ◌∙◌, ◌==◌}
use Rattle.std.proofs.Common.{if◌then◌else◌}
use Rattle.std.proofs.lemmas.Bool.Decides.{nat_tests}
use Rattle.std.proofs.lemmas.List.{get_or-set_same, get_or-set_other, length-set}
use Rattle.devices.specs.declared.device.Device.{Device}
use Rattle.devices.specs.declared.device.Poke.{Poke}
use Rattle.devices.specs.Devices.{DeviceWords, Word, at_start, fresh, poked, position_from, with_content, word_at}
use Rattle.devices.specs.Laws.{AreWhole, LastPokeDecides, given}
use Rattle.devices.specs.Apart.{are_apart}
use Rattle.devices.specs.Lines.{has_lines, levels_by}
use Rattle.devices.specs.Pokes.{last_poke, poked_all}
use Rattle.devices.specs.Table.{has, place}
use Rattle.devices.specs.Words.{stored_for}
use Rattle.devices.proofs.Positions.{first_pokes}
use Rattle.devices.proofs.Same.{same_apart, same_levels, same_lined, same_poked}
use Rattle.std.proofs.lemmas.List.{length-replicate}

begins_below : (t : Device) (a : ℕ) → has t a ≡ true → t.base ≤ a
begins_below t a h = grind (arith, nat_tests, h)

ends_above : (t : Device) (a : ℕ) → has t a ≡ true → a < t.base + t.size
ends_above t a h = grind (arith, nat_tests, h)

-- ---- one word and another

-- whether two addresses are of one word
abbrev pub same_word : ℕ → ℕ → Bool
same_word b a = b / 4 == a / 4

-- addresses of one word have one place
one_place : (t : Device) (a b : ℕ) → t.base ≤ a → t.base ≤ b → same_word b a ≡ true → place t b ≡ place t a
one_place t a b under below same =
    let base : t.base % 4 ≡ 0 = t.base_is_whole in
    let e : b / 4 ≡ a / 4 = grind (arith, nat_tests, same) in
    omega arith

-- and others have others
two_places : (t : Device) (a b : ℕ) → t.base ≤ a → t.base ≤ b → same_word b a ≡ false → place t b ≢ place t a
two_places t a b under below other e =
    let base : t.base % 4 ≡ 0 = t.base_is_whole in
    let same : b / 4 ≡ a / 4 = omega arith in
    grind (arith, nat_tests, other, same)

-- a device has whole words
not_of_word : (t : Device) (a b : ℕ) → has t b ≡ true → has t a ≡ false → same_word b a ≡ false
not_of_word t a b there gone =
    let base : t.base % 4 ≡ 0 = t.base_is_whole in
    let size : t.size % 4 ≡ 0 = t.size_is_whole in
    let low : t.base ≤ b = begins_below t b there in
    let high : b < t.base + t.size = ends_above t b there in
    by (same_word b a) refl base size low high
  where
    by : (x : Bool) → same_word b a ≡ x → t.base % 4 ≡ 0 → t.size % 4 ≡ 0 → t.base ≤ b → b < t.base + t.size →
        x ≡ false
    by true e base size low high =
        let same : b / 4 ≡ a / 4 = grind (arith, nat_tests, e) in
        let under : t.base ≤ a = omega arith in
        let over : a < t.base + t.size = omega arith in
        absurd grind (arith, nat_tests, gone, under, over)
    by false e base size low high = refl

-- the place of an address is one of the device's
place_below : (d : DeviceWords) (a : ℕ) → length d.words * 4 ≡ d.device.size → has d.device a ≡ true →
    place d.device a < length d.words
place_below d a size h =
    let low : d.device.base ≤ a = begins_below d.device a h in
    let high : a < d.device.base + d.device.size = ends_above d.device a h in
    let base : d.device.base % 4 ≡ 0 = d.device.base_is_whole in
    omega arith

-- ---- one poke

one_poke : (ds : List DeviceWords) (ticks a b v : ℕ) → AreWhole ds →
    word_at (poked ds ticks b v) a ≡ given ticks (if same_word b a then Some v else None) (word_at ds a)
one_poke [] ticks a b v whole = by (same_word b a)
  where
    by : (x : Bool) → None ≡ given ticks (if x then Some v else None) None
    by true = refl
    by false = refl
one_poke (d ∷ ds) ticks a b v whole =
    by (has d.device b) (has d.device a) (same_word b a) refl refl refl (one_poke ds ticks a b v whole.1)
  where
    by : (x y z : Bool) → has d.device b ≡ x → has d.device a ≡ y → same_word b a ≡ z →
        word_at (poked ds ticks b v) a ≡ given ticks (if same_word b a then Some v else None) (word_at ds a) →
        word_at (poked (d ∷ ds) ticks b v) a
        ≡ given ticks (if same_word b a then Some v else None) (word_at (d ∷ ds) a)
    by true true true hb ha s rest =
        let same : place d.device b ≡ place d.device a =
        one_place d.device a b (begins_below d.device a ha) (begins_below d.device b hb) s in
        rw (
          hb,
          ha,
          s,
          same,
          get_or-set_same d.words (place d.device a) (stored_for d.device ticks v) 0
              (place_below d a whole.0 ha),
        ) refl
    by true true false hb ha s rest =
        rw (
          hb,
          ha,
          s,
          get_or-set_other d.words (place d.device b) (place d.device a) (stored_for d.device ticks v) 0
              (λ e. two_places d.device a b (begins_below d.device a ha) (begins_below d.device b hb) s (sym e)),
        ) refl
    by true false z hb ha s rest = rw (hb, ha, not_of_word d.device a b hb ha) refl
    by false true z hb ha s rest = rw (hb, ha, other s) refl
      where
        other : same_word b a ≡ z → same_word b a ≡ false
        other e = not_there (same_word b a) refl
          where
            not_there : (x : Bool) → same_word b a ≡ x → x ≡ false
            not_there true g = absurd grind (arith, nat_tests, not_of_word d.device b a ha hb, g)
            not_there false g = refl
    by false false z hb ha s rest = rw (hb, ha) rest

-- a poke of another word leaves a word
pub other_poke : (ds : List DeviceWords) (ticks a b v : ℕ) → same_word b a ≡ false →
    word_at (poked ds ticks b v) a ≡ word_at ds a
other_poke [] ticks a b v other = refl
other_poke (d ∷ ds) ticks a b v other =
    by (has d.device b) (has d.device a) refl refl (other_poke ds ticks a b v other)
  where
    by : (x y : Bool) → has d.device b ≡ x → has d.device a ≡ y →
        word_at (poked ds ticks b v) a ≡ word_at ds a → word_at (poked (d ∷ ds) ticks b v) a ≡ word_at (d ∷ ds) a
    by true true hb ha rest =
        rw (
          hb,
          ha,
          get_or-set_other d.words (place d.device b) (place d.device a) (stored_for d.device ticks v) 0
              (λ e. two_places d.device a b (begins_below d.device a ha) (begins_below d.device b hb) other (sym e)),
        ) refl
    by true false hb ha rest = rw (hb, ha) refl
    by false true hb ha rest = rw (hb, ha) refl
    by false false hb ha rest = rw (hb, ha) rest

-- ---- the pokes of a tick

-- a content that is given later replaces one that was given before
abbrev later : Option ℕ → Option ℕ → Option ℕ
later None before = before
later (Some content) before = Some content

given_twice : (ticks : ℕ) (x o : Option ℕ) (w : Option Word) → given ticks x (given ticks o w)
    ≡ given ticks (later x o) w
given_twice ticks None o w = refl
given_twice ticks (Some v) None w = refl
given_twice ticks (Some v) (Some u) None = refl
given_twice ticks (Some v) (Some u) (Some w) = refl

given_then : (ticks : ℕ) (ps : List Poke) (a : ℕ) (x o : Option ℕ) (w : Option Word) →
    given ticks (last_poke ps a x) (given ticks o w) ≡ given ticks (last_poke ps a (later x o)) w
given_then ticks [] a x o w = given_twice ticks x o w
given_then ticks (p ∷ ps) a x o w = by (same_word p.address a) (given_then ticks ps a)
  where
    by : (b : Bool) →
        ((y o : Option ℕ) (w : Option Word) →
        given ticks (last_poke ps a y) (given ticks o w) ≡ given ticks (last_poke ps a (later y o)) w) →
        given ticks (last_poke ps a (if b then Some p.value else x)) (given ticks o w)
        ≡ given ticks (last_poke ps a (if b then Some p.value else later x o)) w
    by true rest = rest (Some p.value) o w
    by false rest = rest x o w

poke_whole : (ds : List DeviceWords) (ticks b v : ℕ) → AreWhole ds → AreWhole (poked ds ticks b v)
poke_whole [] ticks b v whole = tt
poke_whole (d ∷ ds) ticks b v whole = by (has d.device b) refl (poke_whole ds ticks b v whole.1)
  where
    by : (x : Bool) → has d.device b ≡ x → AreWhole (poked ds ticks b v) → AreWhole (poked (d ∷ ds) ticks b v)
    by true h rest =
        rw h (
          ap (λ n. n * 4) (length-set d.words (place d.device b) (stored_for d.device ticks v)) ∙ whole.0,
          whole.1,
        )
    by false h rest = rw h (whole.0, rest)

pub foreseen : (ds : List DeviceWords) (ticks : ℕ) (ps : List Poke) (a : ℕ) → LastPokeDecides ds ticks ps a
foreseen ds ticks [] a whole = refl
foreseen ds ticks (p ∷ ps) a whole =
    foreseen (poked ds ticks p.address p.value) ticks ps a (poke_whole ds ticks p.address p.value whole)
    ∙ ap (given ticks (last_poke ps a None)) (one_poke ds ticks a p.address p.value whole)
    ∙ given_then ticks ps a None (if same_word p.address a then Some p.value else None) (word_at ds a)

-- at the start devices are whole
fresh_whole : (table : List Device) → AreWhole (fresh table)
fresh_whole [] = tt
fresh_whole (d ∷ ds) = (
  (let size : d.size % 4 ≡ 0 = d.size_is_whole in
      let count : length (at_start d).words ≡ d.size / 4 = length-replicate (d.size / 4) d.start in
      omega arith),
  fresh_whole ds,
)

-- devices that were made so far
pub made_whole : (made : List DeviceWords) (n : ℕ) (table : List Device) →
    made ++ fresh (drop n table) ≡ fresh table → AreWhole made
made_whole made n table e =
    first_whole made (fresh (drop n table)) (subst AreWhole (sym e) (fresh_whole table))
  where
    first_whole : (ds es : List DeviceWords) → AreWhole (ds ++ es) → AreWhole ds
    first_whole [] es whole = tt
    first_whole (d ∷ ds) es whole = (whole.0, first_whole ds es whole.1)

-- devices that are as many as there may be, whole, and with lines as said
abbrev Fit : Bool → Bool → List DeviceWords → Type 0
Fit lined apart ds = (length ds ≤ 256) × AreWhole ds × (lined ≡ has_lines ds) × (apart ≡ are_apart ds)

-- one device took a content
pub put_fits : (lined apart : Bool) (ds : List DeviceWords) (ticks a v j : ℕ) (d x : DeviceWords) →
    position_from 0 ds a ≡ Some j → x ≡ with_content (slice_index_or ds j d) ticks a v → Fit lined apart ds →
    Fit lined apart (slice_set ds j x)
put_fits lined apart ds ticks a v j d x first e fits =
    let same = same_poked ds ticks a v in (
      (let length_is = length-set ds j x in rw length_is fits.0),
      rw (e, first_pokes ds ticks a v j d first) (poke_whole ds ticks a v fits.1),
      rw (e, first_pokes ds ticks a v j d first) (fits.2 ∙ sym (same_lined _ ds same)),
      rw (e, first_pokes ds ticks a v j d first) (fits.3 ∙ sym (same_apart _ ds same)),
    )

-- pokes leave the devices, on which the lines are
pub levels_stay : (f : ℕ → Option ℕ) (ds : List DeviceWords) (ticks : ℕ) (ps : List Poke) →
    levels_by f (poked_all ds ticks ps) ≡ levels_by f ds
levels_stay f ds ticks [] = refl
levels_stay f ds ticks (p ∷ ps) =
    levels_stay f (poked ds ticks p.address p.value) ticks ps
    ∙ same_levels f _ ds (same_poked ds ticks p.address p.value)
