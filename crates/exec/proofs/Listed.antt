-- The next register of a list.
use Rattle.std.proofs.Common.{◌≡◌, ℕ, zero, suc, ◌+◌, ◌-◌, ◌/◌, ◌%◌, ◌^◌, ◌<◌, ◌≤◌, true, false}
use Rattle.std.proofs.Common.{List, [], ◌∷◌, ◌++◌, length, drop, slice_index, ⊎_elim, refl, sym, ap, ◌∙◌, arith}
use Rattle.std.proofs.lemmas.Bool.{cases_lt}
use Rattle.std.specs.Int.{bit_at, trailing_zeros, w32}
use Rattle.std.proofs.lemmas.Nat.{shr-shr, shr_le}
use Rattle.std.proofs.lemmas.Nat.Bits.{bit_at-trailing_zeros, bit_at-zero, bit_at_above}
use Rattle.exec.proofs.Lists.{registers_between, from_0, listed_request, listed_loaded, listed_count, loaded_none}
use Rattle.exec.specs.Listed.{IsNext}
use Rattle.instruction_set.specs.Registers.{Registers, with_register}
use Rattle.instruction_set.specs.Words.{word_sum, is_bit}
use Rattle.platform.specs.declared.access.Kind.{Kind}
use Rattle.platform.specs.declared.access.Request.{Request}
use Rattle.reference.specs.LoadStoreMultiple.{registers_below, registers_of, word_request, word_requests, loaded}

-- ---- by the lowest bit of what is left of a list

bit_left : (list from i : ℕ) → bit_at (list / 2 ^ from) i ≡ bit_at list (from + i)
bit_left list from i = ap (λ x. x % 2) (shr-shr list from i)

unset_left : (list from n : ℕ) → from ≤ n → bit_at (list / 2 ^ from) (n - from) ≡ 0 → is_bit list n ≡ false
unset_left list from n above unset =
    let e : from + (n - from) ≡ n = omega arith in
    let none : bit_at list n ≡ 0 = ap (bit_at list) (sym e) ∙ sym (bit_left list from (n - from)) ∙ unset in
    rw none refl

-- where nothing is left, no register is
pub none_next : (list from : ℕ) → from ≤ 16 → list / 2 ^ from ≡ 0 → IsNext list from 16
none_next list from within none = record {
  above = within;
  within = omega arith;
  listed = λ below. absurd (omega (arith, below));
  none_between = λ n above below.
      unset_left list from n above (ap (λ x. bit_at x (n - from)) none ∙ bit_at-zero (n - from));
}

-- a bit that is set is one of the sixteen
inside : (list n : ℕ) → list < 2 ^ 16 → bit_at list n ≡ 1 → n < 16
inside list n small set =
    ⊎_elim (λ (below : n < 16). below)
    (λ (above : 16 ≤ n). absurd (omega (arith, bit_at_above list 16 n small above, set)))
    (cases_lt n 16)

-- otherwise the lowest bit of what is left is that of the next register
pub lowest_next : (list from : ℕ) → list < 2 ^ 16 → 0 < list / 2 ^ from
    → IsNext list from (from + trailing_zeros w32 (list / 2 ^ from))
lowest_next list from small some =
    let left : list / 2 ^ from < 2 ^ 32 = omega (arith, shr_le list from, small) in
    let lowest = bit_at-trailing_zeros w32 (list / 2 ^ from) some left in
    let at = trailing_zeros w32 (list / 2 ^ from) in
    let set : bit_at list (from + at) ≡ 1 = sym (bit_left list from at) ∙ lowest.1 in
    let below : from + at < 16 = inside list (from + at) small set in record {
      above = omega arith;
      within = omega (arith, below);
      listed = λ again. rw set refl;
      none_between = λ n above under. unset_left list from n above (lowest.2 (n - from) (omega (arith, above, under)));
    }

-- ---- the registers from there on

-- a register that the list hasn't is passed over
unlisted : (list low top : ℕ) → is_bit list low ≡ false
    → registers_between list low top ≡ registers_between list (low + 1) top
unfolding registers_between
unlisted list low top has = by (top - low) refl
  where
    by : (left : ℕ) → top - low ≡ left → registers_between list low top ≡ registers_between list (low + 1) top
    by zero none =
        let e : top - (low + 1) ≡ 0 = omega (arith, none) in
        rw (none, e) refl
    by (suc left) some =
        let e : top - (low + 1) ≡ left = omega (arith, some) in
        rw (some, e, has) refl

-- so are some that it hasn't
passed : (count list low top : ℕ) → ((n : ℕ) → low ≤ n → n < low + count → is_bit list n ≡ false)
    → registers_between list low top ≡ registers_between list (low + count) top
passed zero list low top none =
    let e : low + 0 ≡ low = omega arith in
    rw e refl
passed (suc count) list low top none =
    let e : low + 1 + count ≡ low + suc count = omega arith in
    unlisted list low top (none low (omega arith) (omega arith))
    ∙ passed count list (low + 1) top (λ n above below. none n (omega (arith, above)) (omega (arith, below)))
    ∙ ap (λ n. registers_between list n top) e

-- the registers from a number on are those from the next one on
pub from_next : (list from next top : ℕ) → IsNext list from next
    → registers_between list from top ≡ registers_between list next top
from_next list from next top is =
    let e : from + (next - from) ≡ next = omega (arith, is.above) in
    passed (next - from) list from top (λ n above below. is.none_between n above (omega (arith, below, e)))
    ∙ ap (λ n. registers_between list n top) e

-- no register comes after the last one
pub from_above : (list low top : ℕ) → top ≤ low → registers_between list low top ≡ []
unfolding registers_between
from_above list low top above =
    let e : top - low ≡ 0 = omega arith in
    rw e refl

-- ---- accesses

-- before the first register all accesses are to come
pub first_asked : (kind : Kind) (address list next : ℕ) (r : Registers) → IsNext list 0 next →
    word_requests kind address (registers_between list next 16) r ≡ word_requests kind address (registers_of list) r
first_asked kind address list next r is =
    ap (λ ns. word_requests kind address ns r) (sym (from_next list 0 next 16 is) ∙ from_0 list 16)

-- a register makes one, and the others follow it
pub next_asked : (kind : Kind) (address list low next : ℕ) (r : Registers) (items : List Request) → low < 16
    → is_bit list low ≡ true → IsNext list (low + 1) next →
    (items ++ word_request kind address low r ∷ [])
    ++ word_requests kind (word_sum address 4) (registers_between list next 16) r
    ≡ items ++ word_requests kind address (registers_between list low 16) r
next_asked kind address list low next r items below has is =
    ap (λ ns. (items ++ word_request kind address low r ∷ []) ++ word_requests kind (word_sum address 4) ns r)
    (sym (from_next list (low + 1) next 16 is))
    ∙ listed_request kind address list low r items below has

-- ---- values

-- before the first register all are to be given their values
pub first_given : (list next : ℕ) (values : List ℕ) (r : Registers) → IsNext list 0 next →
    loaded (registers_between list next 15) (drop 0 values) r ≡ loaded (registers_below 15 list) values r
first_given list next values r is =
    ap (λ ns. loaded ns values r) (sym (from_next list 0 next 15 is) ∙ from_0 list 15)

-- a register is given the next value, and the others follow it
pub next_given : (list low next place : ℕ) (values : List ℕ) (r : Registers) → low < 15 → is_bit list low ≡ true
    → IsNext list (low + 1) next →
    loaded (registers_between list next 15) (drop (place + 1) values) (with_register r low (slice_index values place))
    ≡ loaded (registers_between list low 15) (drop place values) r
next_given list low next place values r below has is =
    ap (λ ns. loaded ns (drop (place + 1) values) (with_register r low (slice_index values place)))
    (sym (from_next list (low + 1) next 15 is))
    ∙ listed_loaded list low place values r below has

-- no register comes after the last one
pub last_given : (list low : ℕ) (values : List ℕ) (r : Registers) → 15 ≤ low →
    loaded (registers_between list low 15) values r ≡ r
last_given list low values r above = rw (from_above list low 15 above, loaded_none) refl

-- ---- how many they are

pub first_counted : (list next : ℕ) → IsNext list 0 next →
    length (registers_between list next 15) ≡ length (registers_below 15 list)
first_counted list next is = ap length (sym (from_next list 0 next 15 is) ∙ from_0 list 15)

pub next_counted : (list low next : ℕ) → low < 15 → is_bit list low ≡ true → IsNext list (low + 1) next →
    length (registers_between list low 15) ≡ length (registers_between list next 15) + 1
next_counted list low next below has is =
    listed_count list low below has ∙ ap (λ ns. length ns + 1) (from_next list (low + 1) next 15 is)

pub last_counted : (list low : ℕ) → 15 ≤ low → length (registers_between list low 15) ≡ 0
last_counted list low above = rw (from_above list low 15 above) refl
