-- Lists of spans: which addresses they have, and how they grow.
use Rattle.std.proofs.Common.{◌≡◌, ◌↔◌, ℕ, ◌+◌, ◌<◌, ◌≤◌, if◌then◌else◌, Bool, true, false, ◌||◌, List, [], ◌∷◌}
use Rattle.std.proofs.Common.{◌++◌, length, take, get_or, arith, refl, sym, ap, ◌∙◌, ◌⊎◌}
use Rattle.std.proofs.Common.{◌&&◌, nat_le, inl, inr}
use Rattle.std.proofs.lemmas.List.Folds.{list_any-append, list_any_more}
use Rattle.access_map.specs.Sharing.{covers, has_address, is_in_ram, is_channel, is_shared, AreWorldsApart, AreShared}
use Rattle.access_map.specs.Sharing.{RiseFrom}
use Rattle.access_map.specs.Stretches.{span_of, with_stretch}
use Rattle.access_map.specs.Worlds.{end_of, is_in_place}
use Rattle.access_map.proofs.Spanning.{place_ends, second_ends}
use Rattle.platform.specs.declared.board.Layout.{Layout}
use Rattle.access_map.specs.declared.world.Place.TheVariants.{Ram, SecondRam}
use Rattle.access_map.specs.declared.world.World.{World}
use Rattle.platform.specs.Boards.{Numbers, numbers_of}
use Rattle.std.proofs.lemmas.Bool.{cases_lt}
use Rattle.std.proofs.lemmas.Bool.Decides.{nat_tests}
use Rattle.access_map.specs.declared.sharing.Stretch.{Stretch}
use Rattle.mpu.specs.declared.spans.Span.{Span}

-- the first n spans cover each address from the first to the last, or none
abbrev pub IsCutBy : List Span → ℕ → ℕ → ℕ → Type 0
IsCutBy xs n first last = (a : ℕ) → first ≤ a → a ≤ last → covers (take n xs) a ≡ covers (take n xs) first

-- one more span, for a part of these addresses
pub cut_more : (xs : List Span) (n first last less : ℕ) (d : Span) → n < length xs → less ≤ last
    → IsCutBy xs n first last
    → ((a : ℕ) → first ≤ a → a ≤ less → has_address a (get_or xs n d) ≡ has_address first (get_or xs n d))
    → IsCutBy xs (n + 1) first less
cut_more xs n first last less d room upto before alike a above below =
    list_any_more (has_address a) xs n d room
    ∙ ap (λ (b : Bool). b || has_address a (get_or xs n d)) (before a above (omega arith))
    ∙ ap (λ (b : Bool). covers (take n xs) first || b) (alike a above below)
    ∙ sym (list_any_more (has_address first) xs n d room)

-- ---- spans that rise

-- the spans rise from a on, and end two addresses before b at most
abbrev Rise : List Span → ℕ → ℕ → Type 0
Rise [] a b = a ≤ b
Rise (x ∷ xs) a b = (a ≤ x.first) × (x.first ≤ x.last) × Rise xs (x.last + 2) b

rise_more : (xs : List Span) (a b c : ℕ) → b ≤ c → Rise xs a b → Rise xs a c
rise_more [] a b c more rise = omega arith
rise_more (x ∷ xs) a b c more rise = (rise.0, rise.1, rise_more xs (x.last + 2) b c more rise.2)

rise_push : (xs : List Span) (x : Span) (a b : ℕ) → b ≤ x.first → x.first ≤ x.last → Rise xs a b
    → Rise (xs ++ x ∷ []) a (x.last + 2)
rise_push [] x a b from order rise = (omega arith, order, omega arith)
rise_push (y ∷ xs) x a b from order rise =
    (rise.0, rise.1, rise_push xs x (y.last + 2) b from order rise.2)

rise_from : (xs : List Span) (a b : ℕ) → Rise xs a b → RiseFrom a xs
rise_from [] a b rise = tt
rise_from (x ∷ xs) a b rise = (rise.0, rise.1, rise_from xs (x.last + 2) b rise.2)

-- ---- the spans of the addresses that pass a test, made in one pass

-- where the next span begins at the earliest
abbrev next_after : Stretch → ℕ
next_after x = if x.is_shared then x.first else x.last + 1

-- the spans have the addresses from the first one on that pass the test, up to the current stretch
pub record IsGathered (p : ℕ → Bool) (first : ℕ) (xs : List Span) (current : Stretch) : Type 0 where
  pub order : current.first ≤ current.last
  pub from : first ≤ current.first
  pub before : (a : ℕ) → first ≤ a → a < current.first → covers xs a ≡ p a
  pub outside : (a : ℕ) → a < first → covers xs a ≡ false
  pub after : (a : ℕ) → current.first ≤ a → covers xs a ≡ false
  pub holds : (a : ℕ) → current.first ≤ a → a ≤ current.last → p a ≡ current.is_shared
  pub rise : Rise xs 0 (next_after current)

-- the spans have the addresses from the first one on that pass the test, up to the end of a stretch
record IsComplete (p : ℕ → Bool) (first : ℕ) (xs : List Span) (x : Stretch) : Type 0 where
  within : (a : ℕ) → first ≤ a → a ≤ x.last → covers xs a ≡ p a
  outside : (a : ℕ) → a < first → covers xs a ≡ false
  after : (a : ℕ) → x.last < a → covers xs a ≡ false
  rise : Rise xs 0 (if x.is_shared then x.last + 2 else x.last + 1)

misses_before : (x : Span) (a : ℕ) → a < x.first → has_address a x ≡ false
misses_before x a h =
    ap (λ (b : Bool). b && nat_le a x.last) (let e : nat_le x.first a ≡ false = grind (arith, nat_tests) in e)

misses_after : (x : Span) (a : ℕ) → x.last < a → has_address a x ≡ false
misses_after x a h = lead (nat_le x.first a) (let e : nat_le a x.last ≡ false = grind (arith, nat_tests) in e)
  where
    lead : (b : Bool) → nat_le a x.last ≡ false → (b && nat_le a x.last) ≡ false
    lead true e = e
    lead false e = refl

hits : (x : Span) (a : ℕ) → x.first ≤ a → a ≤ x.last → has_address a x ≡ true
hits x a above below =
    let e : nat_le x.first a ≡ true = grind (arith, nat_tests) in
    let f : nat_le a x.last ≡ true = grind (arith, nat_tests) in
    ap (λ (b : Bool). b && nat_le a x.last) e ∙ f

or_false : (b : Bool) → (b || false) ≡ b
or_false true = refl
or_false false = refl

covers_missed : (xs : List Span) (x : Span) (a : ℕ) → has_address a x ≡ false → covers (xs ++ x ∷ []) a ≡ covers xs a
covers_missed xs x a e =
    list_any-append (has_address a) xs (x ∷ []) ∙ ap (λ (b : Bool). covers xs a || (b || false)) e
    ∙ or_false (covers xs a)

covers_hit : (xs : List Span) (x : Span) (a : ℕ) → has_address a x ≡ true → covers xs a ≡ false
    → covers (xs ++ x ∷ []) a ≡ true
covers_hit xs x a e none =
    list_any-append (has_address a) xs (x ∷ []) ∙ ap (λ (b : Bool). covers xs a || (b || false)) e
    ∙ ap (λ (b : Bool). b || true) none

pub gathered_first : (p : ℕ → Bool) (first : ℕ) (x : Stretch) → x.first ≡ first → x.first ≤ x.last
    → ((a : ℕ) → x.first ≤ a → a ≤ x.last → p a ≡ x.is_shared) → IsGathered p first [] x
gathered_first p first x begins order holds = record {
  order = order;
  from = omega arith;
  before = λ a above below. absurd (let wrong : ⊥ = omega arith in wrong);
  outside = λ a below. refl;
  after = λ a above. refl;
  holds = holds;
  rise = omega arith;
}

-- the stretch, and the addresses of the next one
abbrev pub grown : Stretch → Stretch → Stretch
grown x y = record x { last = y.last }

next_more : (b : Bool) (first last more : ℕ) → last ≤ more
    → (if b then first else last + 1) ≤ (if b then first else more + 1)
next_more true first last more h = omega arith
next_more false first last more h = omega arith

pub gathered_same : (p : ℕ → Bool) (first : ℕ) (xs : List Span) (x y : Stretch) → IsGathered p first xs x
    → y.first ≡ x.last + 1 → y.first ≤ y.last → ((a : ℕ) → y.first ≤ a → a ≤ y.last → p a ≡ y.is_shared)
    → x.is_shared ≡ y.is_shared → IsGathered p first xs (grown x y)
gathered_same p first xs x y made begins order holds same = record {
  order = let h = made.order in omega (arith, h);
  from = made.from;
  before = made.before;
  outside = made.outside;
  after = made.after;
  holds = λ a above below. lead a above below (cases_lt x.last a);
  rise = rise_more xs 0 _ _ (next_more x.is_shared x.first x.last y.last (let h = made.order in omega (arith, h)))
      made.rise;
}
  where
    lead : (a : ℕ) → x.first ≤ a → a ≤ y.last → ((x.last < a) ⊎ (a ≤ x.last)) → p a ≡ x.is_shared
    lead a above below (inl after) = holds a (omega arith) below ∙ sym same
    lead a above below (inr upto) = made.holds a above upto

-- a stretch is complete
complete : (p : ℕ → Bool) (first : ℕ) (xs : List Span) (x : Stretch) → IsGathered p first xs x
    → IsComplete p first (with_stretch xs x) x
complete p first xs x made = lead x.is_shared made.holds made.rise
  where
    lead : (b : Bool) → ((a : ℕ) → x.first ≤ a → a ≤ x.last → p a ≡ b)
        → Rise xs 0 (if b then x.first else x.last + 1)
        → IsComplete p first (if b then xs ++ span_of x ∷ [] else xs)
        (record { first = x.first; last = x.last; is_shared = b })
    lead true holds rise = record {
      within = λ a above below. shared a above below (cases_lt a x.first);
      outside = λ a below. covers_missed xs (span_of x) a
          (misses_before (span_of x) a (let f = made.from in omega (arith, f))) ∙ made.outside a below;
      after = λ a above. covers_missed xs (span_of x) a (misses_after (span_of x) a above)
          ∙ made.after a (let o = made.order in omega (arith, o));
      rise = rise_push xs (span_of x) 0 x.first (omega arith) made.order rise;
    }
      where
        shared : (a : ℕ) → first ≤ a → a ≤ x.last → ((a < x.first) ⊎ (x.first ≤ a))
            → covers (xs ++ span_of x ∷ []) a ≡ p a
        shared a above below (inl h) =
            covers_missed xs (span_of x) a (misses_before (span_of x) a h) ∙ made.before a above h
        shared a above below (inr h) =
            covers_hit xs (span_of x) a (hits (span_of x) a h below) (made.after a h) ∙ sym (holds a h below)
    lead false holds rise = record {
      within = λ a above below. free a above below (cases_lt a x.first);
      outside = made.outside;
      after = λ a above. made.after a (let o = made.order in omega (arith, o));
      rise = rise;
    }
      where
        free : (a : ℕ) → first ≤ a → a ≤ x.last → ((a < x.first) ⊎ (x.first ≤ a)) → covers xs a ≡ p a
        free a above below (inl h) = made.before a above h
        free a above below (inr h) = made.after a h ∙ sym (holds a h below)

next_begins : (b c : Bool) (xf xl yf yl : ℕ) → (b ≡ c → ⊥) → yf ≡ xl + 1 → yf ≤ yl
    → (if b then xl + 2 else xl + 1) ≤ (if c then yf else yl + 1)
next_begins true true xf xl yf yl differ begins order = absurd (differ refl)
next_begins true false xf xl yf yl differ begins order = omega arith
next_begins false true xf xl yf yl differ begins order = omega arith
next_begins false false xf xl yf yl differ begins order = absurd (differ refl)

pub gathered_next : (p : ℕ → Bool) (first : ℕ) (xs : List Span) (x y : Stretch) → IsGathered p first xs x
    → y.first ≡ x.last + 1 → y.first ≤ y.last → ((a : ℕ) → y.first ≤ a → a ≤ y.last → p a ≡ y.is_shared)
    → (x.is_shared ≡ y.is_shared → ⊥) → IsGathered p first (with_stretch xs x) y
gathered_next p first xs x y made begins order holds differ =
    let done = complete p first xs x made in
    record {
      order = order;
      from = let f = made.from in let o = made.order in omega (arith, f, o);
      before = λ a above below. done.within a above (omega arith);
      outside = done.outside;
      after = λ a above. done.after a (omega arith);
      holds = holds;
      rise = rise_more (with_stretch xs x) 0 _ _
          (next_begins x.is_shared y.is_shared x.first x.last y.first y.last differ begins order) done.rise;
    }

-- ---- the shared spans

-- an address that isn't in RAM isn't shared
pub shared_outside : (board : Numbers) (v w : World) (allowed : List Span) (a : ℕ) → is_in_ram board a ≡ false
    → is_shared board v w allowed a ≡ false
unfolding is_shared
shared_outside board v w allowed a h = ap (λ (b : Bool). b && is_channel v w allowed a) h

-- an address in RAM is shared where it is a channel
pub shared_inside : (board : Numbers) (v w : World) (allowed : List Span) (a : ℕ) → is_in_ram board a ≡ true
    → is_shared board v w allowed a ≡ is_channel v w allowed a
unfolding is_shared
shared_inside board v w allowed a h = ap (λ (b : Bool). b && is_channel v w allowed a) h

-- both RAMs end before an address
pub record EndsBefore (board : Numbers) (a : ℕ) : Type 0 where
  pub ram : end_of board Ram ≤ a
  pub second : end_of board SecondRam ≤ a

-- so they do on each board before the system region
pub ends_before : (board : Layout) (end : ℕ) → end ≡ 0xE000_0000 → EndsBefore (numbers_of board) end
ends_before board end is = record {
  ram = let small : board.ram_size ≤ 0x10_0000 = board.ram_is_small in omega arith;
  second = let ends = second_ends board.second_ram in omega arith;
}

ram_ends : (board : Numbers) (end a : ℕ) → EndsBefore board end → end ≤ a → is_in_ram board a ≡ false
ram_ends board end a ends after =
    let first : end_of board Ram ≤ a = let h = ends.ram in omega arith in
    let other : end_of board SecondRam ≤ a = let h = ends.second in omega arith in
    ap (λ (b : Bool). b || is_in_place board SecondRam a) (place_ends board Ram a first)
    ∙ place_ends board SecondRam a other

-- where both RAMs have all of some addresses or none, so has their union
pub both_alike : (board : Numbers) (a b : ℕ) → is_in_place board Ram a ≡ is_in_place board Ram b
    → is_in_place board SecondRam a ≡ is_in_place board SecondRam b → is_in_ram board a ≡ is_in_ram board b
both_alike board a b first second =
    ap (λ (c : Bool). c || is_in_place board SecondRam a) first
    ∙ ap (λ (c : Bool). is_in_place board Ram b || c) second

-- the spans are those that are shared, once the last stretch ends beyond RAM
pub gathered_last : (board : Numbers) (v w : World) (allowed xs : List Span) (x : Stretch)
    → EndsBefore board (x.last + 1) → IsGathered (is_shared board v w allowed) 0 xs x
    → AreShared board v w allowed (with_stretch xs x)
gathered_last board v w allowed xs x ends made =
    let done = complete (is_shared board v w allowed) 0 xs x made in
    record {
      exactly = λ a. lead a (cases_lt x.last a);
      rising = rise_from (with_stretch xs x) 0 _ done.rise;
    }
  where
    lead : (a : ℕ) → ((x.last < a) ⊎ (a ≤ x.last)) → covers (with_stretch xs x) a ≡ is_shared board v w allowed a
    lead a (inl k) =
        let done = complete (is_shared board v w allowed) 0 xs x made in
        done.after a k ∙ sym (shared_outside board v w allowed a (ram_ends board (x.last + 1) a ends (omega arith)))
    lead a (inr k) =
        let done = complete (is_shared board v w allowed) 0 xs x made in done.within a (omega arith) k

-- no address up to one beyond RAM is shared, so none is
pub shared_none : (board : Numbers) (v w : World) (allowed : List Span) (end : ℕ) → EndsBefore board end
    → ((a : ℕ) → a < end → is_shared board v w allowed a ≡ false) → (a : ℕ) → is_shared board v w allowed a ≡ false
shared_none board v w allowed end ends none a = lead (cases_lt a end)
  where
    lead : ((a < end) ⊎ (end ≤ a)) → is_shared board v w allowed a ≡ false
    lead (inl h) = none a h
    lead (inr h) = shared_outside board v w allowed a (ram_ends board end a ends h)

-- ---- worlds that are apart

-- a list of spans that rise, of which none has an address, is empty
none_covers : (xs : List Span) (a : ℕ) → RiseFrom a xs → ((b : ℕ) → covers xs b ≡ false) → xs ≡ []
none_covers [] a rise none = refl
none_covers (x ∷ xs) a rise none =
    let has = ap (λ (b : Bool). b || covers xs x.first) (hits x x.first (omega arith) rise.1) in
    let not = none x.first in cc

-- two worlds are apart exactly where both lists are empty
pub apart_exactly : (board : Numbers) (v w : World) (allowed there back : List Span)
    → AreShared board v w allowed there → AreShared board w v allowed back
    → AreWorldsApart board v w allowed ↔ ((there ≡ []) × (back ≡ []))
apart_exactly board v w allowed there back forth home = (
  (λ apart. (
    none_covers there 0 forth.rising (λ a. forth.exactly a ∙ (apart a).0),
    none_covers back 0 home.rising (λ a. home.exactly a ∙ (apart a).1),
  )),
  (λ empty a. (
    sym (forth.exactly a) ∙ ap (λ (xs : List Span). covers xs a) empty.0,
    sym (home.exactly a) ∙ ap (λ (xs : List Span). covers xs a) empty.1,
  )),
)
