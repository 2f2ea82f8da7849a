-- The columns of a timeline, tick by tick: a bit of a column is what some tick made that the column stands for.
--
-- - A column is a number, and bit k of it a mark: `marked_bit` says what setting one changes.
-- - `Joined` is the invariant of the loop that joins neighbours, and `some-append` joins what their ticks made.
-- - `Fits` is what holds of the columns between ticks, for one bit; `Full` and `Begun` are the same where a column
--   ends and where a tick begins. A tick goes from `Stands` by `Begun` to `Stands`: the last column takes it, or a
--   new one, or the columns are joined first (`joined_full`, `halves`), so that there is room.
-- - A mark within a tick sets a bit of the last column alone, and `final` of `Fits` takes it up.
use Rattle.std.proofs.Common.{◌≡◌, inl, inr, ℕ, zero, suc, ◌+◌, ◌-◌, ◌*◌, ◌^◌, ◌<◌, ◌≤◌, min, max, Bool, true, false}
use Rattle.std.proofs.Common.{cond, ◌||◌, ◌==◌, nat_lt, List, length, bit_or, refl, sym, ap, ◌∙◌, arith, get_or}
use Rattle.std.proofs.Common.{set, add-zero, add-one}
use Rattle.std.proofs.lemmas.Bool.{cases_eq, eq-eqb, ne_eqb, eqb-true, eqb-false, ltb-true, ltb-false}
use Rattle.std.proofs.lemmas.Grind.{common_steps}
use Rattle.std.proofs.lemmas.List.{length-set}
use Rattle.std.proofs.lemmas.Nat.Bits.{bit_at_or, bit_at-pow_same, bit_at-pow_other}
use Rattle.std.proofs.Math.Bool.{or_assoc, or-false}
use Rattle.std.proofs.Math.Nat.{add-suc}
use Rattle.instruction_set.specs.Words.{bit_at, is_bit}
use Rattle.platform.proofs.Bits.{no_bit}
use Rattle.survey.specs.declared.mark.Mark.{Mark}
use Rattle.survey.specs.TimeLaw.{some_makes}
use Rattle.survey.specs.Timeline.{Timeline, appended, begun, join_at, joined, joined_to, with_bit, mark_number, marked}
use Rattle.survey.specs.Timeline.{with_column}

-- Bits

-- a number below 2 is 0 or 1
max_or : (a b : ℕ) → a < 2 → b < 2 → (max a b == 1) ≡ ((a == 1) || (b == 1))
max_or zero zero x y = refl
max_or zero (suc zero) x y = refl
max_or (suc zero) zero x y = refl
max_or (suc zero) (suc zero) x y = refl
max_or (suc (suc a)) b x y = absurd (omega (arith, x))
max_or zero (suc (suc b)) x y = absurd (omega (arith, y))
max_or (suc zero) (suc (suc b)) x y = absurd (omega (arith, y))

or_bit : (x y k : ℕ) → is_bit (bit_or x y) k ≡ (is_bit x k || is_bit y k)
or_bit x y k =
    ap (λ n. n == 1) (bit_at_or x y k) ∙ max_or (bit_at x k) (bit_at y k) (omega arith) (omega arith)

power_bit : (m k : ℕ) → is_bit (2 ^ m) k ≡ (m == k)
power_bit m k = elim (cases_eq k m) [
  | inl e ↦ rw (e, eq-eqb m m refl) (ap (λ n. n == 1) (bit_at-pow_same m))
  | inr apart ↦
      rw (ne_eqb m k (λ e. apart (sym e))) (ap (λ n. n == 1) (bit_at-pow_other m k apart))
]

marked_bit : (x m k : ℕ) → is_bit (bit_or x (2 ^ m)) k ≡ (is_bit x k || (m == k))
marked_bit x m k = or_bit x (2 ^ m) k ∙ ap (λ b. is_bit x k || b) (power_bit m k)

-- Joined columns

-- the columns of which the first n are joined with their neighbours
record Joined (n : ℕ) (xs ys : List ℕ) : Type 0 where
  long : length ys ≡ length xs
  done : (k : ℕ) → k < n → get_or ys k 0 ≡ bit_or (get_or xs (2 * k) 0) (get_or xs (2 * k + 1) 0)
  left : (k : ℕ) → n ≤ k → get_or ys k 0 ≡ get_or xs k 0

set_same : (xs : List ℕ) (i y : ℕ) → i < length xs → get_or (set xs i y) i 0 ≡ y
set_same xs i y below = grind (arith, common_steps)

set_other : (xs : List ℕ) (i k y : ℕ) → (k ≡ i → ⊥) → get_or (set xs i y) k 0 ≡ get_or xs k 0
set_other xs i k y apart = grind (arith, common_steps)

join_once : (n : ℕ) (xs ys zs : List ℕ) → 2 * n + 1 < length xs → Joined n xs ys
    → zs ≡ set ys n (bit_or (get_or ys (2 * n) 0) (get_or ys (2 * n + 1) 0)) → Joined (n + 1) xs zs
join_once n xs ys zs room before is =
    let here : n < length ys = omega (arith, before.long, room) in
    record {
      long = rw is (length-set ys n _ ∙ before.long);
      done = λ k below. elim (cases_eq k n) [
        | inl e ↦
            rw (e, is) (set_same ys n _ here
            ∙ ap (λ x. bit_or x (get_or ys (2 * n + 1) 0)) (before.left (2 * n) (omega arith))
            ∙ ap (λ x. bit_or (get_or xs (2 * n) 0) x) (before.left (2 * n + 1) (omega arith)))
        | inr apart ↦
            let less : k < n = let h : k < n + 1 = below in omega (arith, apart, h) in
            rw is (set_other ys n k _ apart ∙ before.done k less)
      ];
      left = λ k above.
          let apart : k ≡ n → ⊥ = λ e. (let h : n + 1 ≤ k = above in omega (arith, e, h)) in
          rw is (set_other ys n k _ apart ∙ before.left k (omega (arith, above)));
    }

all_joined : (n : ℕ) (xs : List ℕ) → 2 * n ≤ length xs → Joined n xs (joined_to n xs)
unfolding joined_to
all_joined zero xs room = record {
  long = refl;
  done = λ k below. absurd (omega (arith, below));
  left = λ k above. refl;
}
all_joined (suc n) xs room =
    let before = all_joined n xs (omega (arith, room)) in
    rw (← add-one) (join_once n xs (joined_to n xs) _ (omega (arith, room)) before refl)

-- one column more
pub none_joined : (xs : List ℕ) → joined_to 0 xs ≡ xs
unfolding joined_to
none_joined xs = refl

pub one_joined : (n : ℕ) (xs : List ℕ) → joined_to (n + 1) xs ≡ join_at (joined_to n xs) n
unfolding joined_to
one_joined n xs = rw add-one refl

-- Ticks

-- what some of several ticks made, and of more
some-append : (f : ℕ → Bool) (first m n : ℕ)
    → some_makes f first (m + n) ≡ (some_makes f first m || some_makes f (first + m) n)
some-append f first m zero = rw add-zero (sym (or-false (some_makes f first m)))
some-append f first m (suc n) =
    let e : m + suc n ≡ suc (m + n) = add-suc m n in
    let at : first + (m + n) ≡ first + m + n = omega arith in
    rw (e, at, some-append f first m n)
    (or_assoc (some_makes f first m) (some_makes f (first + m) n) (f (first + m + n)))

-- The columns of a timeline stand for n ticks. A bit k of them is what some tick made, by f. The last column stands for
-- `last` of these, and has `more` besides.
pub record Fits (f : ℕ → Bool) (k n last : ℕ) (more : Bool) (t : Timeline) : Type 0 where
  pub long : length t.columns ≡ 1024
  pub few : t.used ≤ 1024
  pub some : 0 < t.column_ticks
  pub full : t.filled ≤ t.column_ticks
  pub total : n + t.column_ticks ≡ t.used * t.column_ticks + t.filled
  pub whole : (c : ℕ) → c + 1 < t.used
      → is_bit (get_or t.columns c 0) k ≡ some_makes f (c * t.column_ticks) t.column_ticks
  pub final : (c : ℕ) → c + 1 ≡ t.used
      → is_bit (get_or t.columns c 0) k ≡ (some_makes f (c * t.column_ticks) last || more)

-- the same after n ticks
abbrev pub Stands : (ℕ → Bool) → ℕ → ℕ → Timeline → Type 0
Stands f k n t = Fits f k n t.filled false t

-- a tick has begun, the one after n others
pub record Begun (f : ℕ → Bool) (k n : ℕ) (t : Timeline) : Type 0 where
  pub last : ℕ
  pub next : t.filled ≡ last + 1
  pub any : 0 < t.used
  pub fits : Fits f k (n + 1) last false t

-- all columns that have begun have all their ticks
record Full (f : ℕ → Bool) (k n : ℕ) (t : Timeline) : Type 0 where
  long : length t.columns ≡ 1024
  room : t.used < 1024
  some : 0 < t.column_ticks
  total : n ≡ t.used * t.column_ticks
  whole : (c : ℕ) → c < t.used
      → is_bit (get_or t.columns c 0) k ≡ some_makes f (c * t.column_ticks) t.column_ticks

-- a column begins
times_more : (used ticks n : ℕ) → n ≡ used * ticks → n + 1 + ticks ≡ (used + 1) * ticks + 1
times_more used ticks n e = grind (arith, e)

appended_begun : (f : ℕ → Bool) (k n : ℕ) (t : Timeline) → Full f k n t → Begun f k n (appended t)
appended_begun f k n t full = record {
  last = 0;
  next = refl;
  any = omega arith;
  fits = record {
    long = length-set t.columns t.used 0 ∙ full.long;
    few = omega (arith, full.room);
    some = full.some;
    full = full.some;
    total = times_more t.used t.column_ticks n full.total;
    whole = λ c below.
        let less : c < t.used = let h : c + 1 < t.used + 1 = below in omega (arith, h) in
        let apart : c ≡ t.used → ⊥ = λ e. omega (arith, e, less) in
        ap (λ x. is_bit x k) (set_other t.columns t.used c 0 apart) ∙ full.whole c less;
    final = λ c is.
        let same : c ≡ t.used = let h : c + 1 ≡ t.used + 1 = is in omega (arith, h) in
        let here : t.used < length t.columns = omega (arith, full.long, full.room) in
        rw same (ap (λ x. is_bit x k) (set_same t.columns t.used 0 here) ∙ no_bit k);
  };
}

-- neighbours are joined
twice : (ticks : ℕ) → 1024 * ticks < 2 ^ 64 → min (ticks * 2) (2 ^ 64 - 1) ≡ ticks * 2
twice ticks small = omega (arith, small)

halves : (f : ℕ → Bool) (k c ticks x y : ℕ)
    → is_bit x k ≡ some_makes f (2 * c * ticks) ticks → is_bit y k ≡ some_makes f ((2 * c + 1) * ticks) ticks
    → is_bit (bit_or x y) k ≡ some_makes f (c * (ticks * 2)) (ticks * 2)
halves f k c ticks x y one other =
    let first : 2 * c * ticks ≡ c * (ticks * 2) = grind arith in
    let second : (2 * c + 1) * ticks ≡ c * (ticks * 2) + ticks = grind arith in
    let both : ticks * 2 ≡ ticks + ticks = omega arith in
    let all = some-append f (c * (ticks * 2)) ticks ticks in
    let one' : is_bit x k ≡ some_makes f (c * (ticks * 2)) ticks = one ∙ ap (λ i. some_makes f i ticks) first in
    let other' : is_bit y k ≡ some_makes f (c * (ticks * 2) + ticks) ticks =
    other ∙ ap (λ i. some_makes f i ticks) second in
    or_bit x y k ∙ ap (λ b. b || is_bit y k) one' ∙ ap (λ b. some_makes f (c * (ticks * 2)) ticks || b) other'
    ∙ sym all ∙ ap (λ i. some_makes f (c * (ticks * 2)) i) (sym both)

joined_full : (f : ℕ → Bool) (k n : ℕ) (t : Timeline) → length t.columns ≡ 1024 → 0 < t.column_ticks
    → n ≡ 1024 * t.column_ticks → n < 2 ^ 64
    → ((c : ℕ) → c < 1024 → is_bit (get_or t.columns c 0) k ≡ some_makes f (c * t.column_ticks) t.column_ticks)
    → Full f k n (joined t)
joined_full f k n t long some total small whole =
    let pairs = all_joined 512 t.columns (omega (arith, long)) in
    let ticks = twice t.column_ticks (omega (arith, total, small)) in
    record {
      long = pairs.long ∙ long;
      room = omega arith;
      some = rw ticks (omega (arith, some));
      total = rw ticks (omega (arith, total));
      whole = λ c below.
          let less : c < 512 = below in
          rw (ticks, pairs.done c less) (halves f k c t.column_ticks (get_or t.columns (2 * c) 0)
          (get_or t.columns (2 * c + 1) 0) (whole (2 * c) (omega (arith, less)))
          (whole (2 * c + 1) (omega (arith, less))));
    }

-- where the last column has all its ticks, all have
whole_all : (f : ℕ → Bool) (k n : ℕ) (t : Timeline) → Stands f k n t → t.filled ≡ t.column_ticks
    → (c : ℕ) → c < t.used → is_bit (get_or t.columns c 0) k ≡ some_makes f (c * t.column_ticks) t.column_ticks
whole_all f k n t stands e c below = elim (cases_eq (c + 1) t.used) [
  | inl is ↦ stands.final c is ∙ or-false _ ∙ ap (λ i. some_makes f (c * t.column_ticks) i) e
  | inr apart ↦ stands.whole c (omega (arith, below, apart))
]

all_filled : (n ticks used filled : ℕ) → n + ticks ≡ used * ticks + filled → filled ≡ ticks → n ≡ used * ticks
all_filled n ticks used filled total e = omega (arith, total, e)

column_begun : (f : ℕ → Bool) (k n : ℕ) (t : Timeline) (is : Bool) → (t.used == 1024) ≡ is → Stands f k n t
    → t.filled ≡ t.column_ticks → n < 2 ^ 64 → Begun f k n (cond is (appended (joined t)) (appended t))
column_begun f k n t true is stands e small =
    let used : t.used ≡ 1024 = eqb-true t.used 1024 is in
    let total = all_filled n t.column_ticks t.used t.filled stands.total e in
    appended_begun f k n (joined t) (joined_full f k n t stands.long stands.some (rw used at total) small
    (λ c below. whole_all f k n t stands e c (rw used below)))
column_begun f k n t false is stands e small =
    let apart : t.used ≡ 1024 → ⊥ = eqb-false t.used 1024 is in
    appended_begun f k n t (record {
      long = stands.long;
      room = omega (arith, stands.few, apart);
      some = stands.some;
      total = all_filled n t.column_ticks t.used t.filled stands.total e;
      whole = whole_all f k n t stands e;
    })

any_used : (n ticks used filled : ℕ) → n + ticks ≡ used * ticks + filled → filled < ticks → 0 < used
any_used n ticks zero filled total less = absurd (omega (arith, total, less))
any_used n ticks (suc used) filled total less = omega arith

tick_begun : (f : ℕ → Bool) (k n : ℕ) (t : Timeline) (is : Bool) → nat_lt t.filled t.column_ticks ≡ is
    → Stands f k n t → n < 2 ^ 64
    → Begun f k n (cond is (record t { filled = t.filled + 1 }) (with_column t))
tick_begun f k n t true is stands small =
    let less = ltb-true t.filled t.column_ticks is in
    record {
      last = t.filled;
      next = refl;
      any = any_used n t.column_ticks t.used t.filled stands.total less;
      fits = record {
        long = stands.long;
        few = stands.few;
        some = stands.some;
        full = omega (arith, less);
        total = omega (arith, stands.total);
        whole = stands.whole;
        final = stands.final;
      };
    }
tick_begun f k n t false is stands small =
    let above = ltb-false t.filled t.column_ticks is in
    column_begun f k n t (t.used == 1024) refl stands (omega (arith, above, stands.full)) small

pub begun_fits : (f : ℕ → Bool) (k n : ℕ) (t : Timeline) → Stands f k n t → n < 2 ^ 64 → Begun f k n (begun t)
begun_fits f k n t stands small = tick_begun f k n t (nat_lt t.filled t.column_ticks) refl stands small

-- Marks

-- the last column gets a mark
marked_at : (f : ℕ → Bool) (k n last : ℕ) (more : Bool) (t : Timeline) (mark : Mark) (is : Bool)
    → nat_lt 0 t.used ≡ is → 0 < t.used → Fits f k n last more t
    → Fits f k n last (more || (mark_number mark == k))
    (cond is (record t { columns = with_bit t.columns (t.used - 1) (mark_number mark) }) t)
marked_at f k n last more t mark false is any fits = absurd (let h = ltb-false 0 t.used is in omega (arith, h, any))
marked_at f k n last more t mark true is any fits = record {
  long = length-set t.columns (t.used - 1) _ ∙ fits.long;
  few = fits.few;
  some = fits.some;
  full = fits.full;
  total = fits.total;
  whole = λ c below.
      let apart : c ≡ t.used - 1 → ⊥ = λ e. omega (arith, e, below) in
      ap (λ x. is_bit x k) (set_other t.columns (t.used - 1) c _ apart) ∙ fits.whole c below;
  final = λ c is.
      let same : t.used - 1 ≡ c = omega (arith, is) in
      let here : c < length t.columns = omega (arith, is, fits.long, fits.few) in
      rw same (ap (λ x. is_bit x k) (set_same t.columns c _ here)
      ∙ marked_bit (get_or t.columns c 0) (mark_number mark) k
      ∙ ap (λ b. b || (mark_number mark == k)) (fits.final c is)
      ∙ or_assoc (some_makes f (c * t.column_ticks) last) more (mark_number mark == k));
}

pub marked_fits : (f : ℕ → Bool) (k n last : ℕ) (more : Bool) (t : Timeline) (mark : Mark) → 0 < t.used
    → Fits f k n last more t → Fits f k n last (more || (mark_number mark == k)) (marked t mark)
marked_fits f k n last more t mark any fits = marked_at f k n last more t mark (nat_lt 0 t.used) refl any fits

-- the last tick has all its marks
place_of_last : (n ticks used filled last c : ℕ) → n + 1 + ticks ≡ used * ticks + filled → filled ≡ last + 1
    → c + 1 ≡ used → c * ticks + last ≡ n
place_of_last n ticks used filled last c total next is =
    let e : used * ticks ≡ c * ticks + ticks = rw (← is) (grind arith) in omega (arith, total, next, e)

pub tick_done : (f : ℕ → Bool) (k n last : ℕ) (t : Timeline) → t.filled ≡ last + 1 → Fits f k (n + 1) last (f n) t
    → Stands f k (n + 1) t
tick_done f k n last t next fits = record {
  long = fits.long;
  few = fits.few;
  some = fits.some;
  full = fits.full;
  total = fits.total;
  whole = fits.whole;
  final = λ c is.
      let at = place_of_last n t.column_ticks t.used t.filled last c fits.total next is in
      let grown : some_makes f (c * t.column_ticks) t.filled ≡ (some_makes f (c * t.column_ticks) last || f n) =
      rw (next, add-one) (ap (λ i. some_makes f (c * t.column_ticks) last || f i) at) in
      fits.final c is ∙ sym grown ∙ sym (or-false _);
}
