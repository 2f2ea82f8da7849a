-- The places of a board, made in one pass: those that are complete, and the current part, which grows until its
-- neighbour is of another kind.
use Rattle.std.proofs.Common.{◌≡◌, ℕ, ◌+◌, ◌<◌, ◌≤◌, ◌⊎◌, ◌&&◌, ◌||◌, Bool, true, false, not, nat_le, nat_lt, List, []}
use Rattle.std.proofs.Common.{◌∷◌, ◌++◌, Option, Some, None, if◌then◌else◌, arith, refl, sym, ap, ◌∙◌, inl, inr, take}
use Rattle.std.proofs.Common.{get_or, length}
use Rattle.std.proofs.lemmas.Bool.{cases_lt}
use Rattle.std.proofs.lemmas.Bool.Decides.{nat_tests}
use Rattle.std.proofs.lemmas.List.Folds.{list_any_more}
use Rattle.access_map.proofs.Spanning.{place_ends, second_ends}
use Rattle.access_map.specs.declared.board_place.BoardPlace.{BoardPlace}
use Rattle.access_map.specs.declared.board_place.Part.{Part}
use Rattle.access_map.specs.declared.board_place.PlaceKind.{PlaceKind}
use Rattle.access_map.specs.declared.board_place.PlaceKind.TheVariants.{Window}
use Rattle.access_map.specs.declared.world.Place.TheVariants.{Flash, Ram, SecondRam, Window as WindowOf}
use Rattle.access_map.specs.Growing.{place_of, with_kind, with_part}
use Rattle.access_map.specs.Places.{ArePlacesOf, EndsBefore, Rise, has_device, is_in_bus, is_in_device, kind_at, kind_by}
use Rattle.access_map.specs.Places.{kind_in}
use Rattle.access_map.specs.Sharing.{has_address, is_in_ram}
use Rattle.access_map.specs.Worlds.{is_in_place}
use Rattle.devices.specs.declared.device.Device.{Device}
use Rattle.devices.specs.Table.{has as device_has}
use Rattle.mpu.specs.declared.spans.Span.{Span}
use Rattle.platform.specs.Boards.{Numbers, numbers_of}
use Rattle.platform.specs.declared.board.Layout.{Layout}
use Rattle.platform.specs.Map.{ram_base}

-- an address is in a place
abbrev pub has : BoardPlace → ℕ → Bool
has p a = nat_le p.first a && nat_le a p.last

-- ---- which addresses a list of places has

pub misses_before : (p : BoardPlace) (a : ℕ) → a < p.first → has p a ≡ false
misses_before p a h =
    ap (λ (b : Bool). b && nat_le a p.last) (let e : nat_le p.first a ≡ false = grind (arith, nat_tests) in e)

pub misses_after : (p : BoardPlace) (a : ℕ) → p.last < a → has p a ≡ false
misses_after p a h = lead (nat_le p.first a) (let e : nat_le a p.last ≡ false = grind (arith, nat_tests) in e)
  where
    lead : (b : Bool) → nat_le a p.last ≡ false → (b && nat_le a p.last) ≡ false
    lead true e = e
    lead false e = refl

pub hits : (p : BoardPlace) (a : ℕ) → p.first ≤ a → a ≤ p.last → has p a ≡ true
hits p a above below =
    let e : nat_le p.first a ≡ true = grind (arith, nat_tests) in
    let f : nat_le a p.last ≡ true = grind (arith, nat_tests) in
    ap (λ (b : Bool). b && nat_le a p.last) e ∙ f

in_missed : (ps : List BoardPlace) (p : BoardPlace) (a : ℕ) → has p a ≡ false → kind_in (ps ++ p ∷ []) a ≡ kind_in ps a
in_missed [] p a e = ap (λ (b : Bool). if b then Some p.kind else None) e
in_missed (q ∷ ps) p a e = ap (λ (k : Option PlaceKind). if has q a then Some q.kind else k) (in_missed ps p a e)

in_hit : (ps : List BoardPlace) (p : BoardPlace) (a : ℕ) → has p a ≡ true → kind_in ps a ≡ None
    → kind_in (ps ++ p ∷ []) a ≡ Some p.kind
in_hit [] p a e none = ap (λ (b : Bool). if b then Some p.kind else None) e
in_hit (q ∷ ps) p a e none = lead (has q a) none (in_hit ps p a e)
  where
    lead : (b : Bool) → (if b then Some q.kind else kind_in ps a) ≡ None
        → (kind_in ps a ≡ None → kind_in (ps ++ p ∷ []) a ≡ Some p.kind)
        → (if b then Some q.kind else kind_in (ps ++ p ∷ []) a) ≡ Some p.kind
    lead true h rest = absurd (let wrong : Some q.kind ≡ None = h in cc)
    lead false h rest = rest h

-- ---- places that rise

-- a place ends before an address from which on addresses are of a kind, or of none
abbrev Before : BoardPlace → ℕ → Option PlaceKind → Type 0
Before p first kind = (p.last < first) × (p.last + 1 ≡ first → ¬ (Some p.kind ≡ kind))

-- places rise, and the last one ends before an address
abbrev pub RiseTo : List BoardPlace → ℕ → Option PlaceKind → Type 0
RiseTo [] first kind = Unit {0}
RiseTo (p ∷ []) first kind = (p.first ≤ p.last) × Before p first kind
RiseTo (p ∷ (q ∷ ps)) first kind = (p.first ≤ p.last) × EndsBefore p (q ∷ ps) × RiseTo (q ∷ ps) first kind

rise_of : (ps : List BoardPlace) (first : ℕ) (kind : Option PlaceKind) → RiseTo ps first kind → Rise ps
rise_of [] first kind rise = tt
rise_of (p ∷ []) first kind rise = (rise.0, tt, tt)
rise_of (p ∷ (q ∷ ps)) first kind rise = (rise.0, rise.1, rise_of (q ∷ ps) first kind rise.2)

-- a later address, which no place touches
rise_later : (ps : List BoardPlace) (first next : ℕ) (kind other : Option PlaceKind) → first < next → RiseTo ps first kind
    → RiseTo ps next other
rise_later [] first next kind other h rise = tt
rise_later (p ∷ []) first next kind other h rise =
    (rise.0, (let b = rise.1.0 in omega (arith, b), λ e. absurd (let b = rise.1.0 in omega (arith, b, e))))
rise_later (p ∷ (q ∷ ps)) first next kind other h rise =
    (rise.0, rise.1, rise_later (q ∷ ps) first next kind other h rise.2)

same_kind : (j k : PlaceKind) → j ≡ k → Some j ≡ Some k
same_kind j k e = ap (λ (x : PlaceKind). Some x) e

rise_push : (ps : List BoardPlace) (p : BoardPlace) (next : ℕ) (kind : Option PlaceKind) → p.first ≤ p.last
    → p.last < next → (p.last + 1 ≡ next → ¬ (Some p.kind ≡ kind)) → RiseTo ps p.first (Some p.kind) → RiseTo (ps ++ p ∷ []) next kind
rise_push [] p next kind order h unlike rise = (order, (h, unlike))
rise_push (q ∷ []) p next kind order h unlike rise =
    (rise.0, (rise.1.0, λ touch e. rise.1.1 touch (same_kind q.kind p.kind e)), (order, (h, unlike)))
rise_push (q ∷ (r ∷ ps)) p next kind order h unlike rise =
    (rise.0, rise.1, rise_push (r ∷ ps) p next kind order h unlike rise.2)

-- ---- the pass

-- the places have the addresses before the current part, and the part is of one kind
pub record IsFilled (f : ℕ → Option PlaceKind) (ps : List BoardPlace) (x : Part) : Type 0 where
  pub order : x.first ≤ x.last
  pub before : (a : ℕ) → a < x.first → kind_in ps a ≡ f a
  pub after : (a : ℕ) → x.first ≤ a → kind_in ps a ≡ None
  pub holds : (a : ℕ) → x.first ≤ a → a ≤ x.last → f a ≡ x.kind
  pub rise : RiseTo ps x.first x.kind

pub filled_first : (f : ℕ → Option PlaceKind) (x : Part) → x.first ≡ 0 → x.first ≤ x.last
    → ((a : ℕ) → x.first ≤ a → a ≤ x.last → f a ≡ x.kind) → IsFilled f [] x
filled_first f x begins order holds = record {
  order = order;
  before = λ a below. absurd (let wrong : ⊥ = omega (arith, below, begins) in wrong);
  after = λ a above. refl;
  holds = holds;
  rise = tt;
}

-- the part, and the addresses of the next one
abbrev pub grown : Part → Part → Part
grown x y = record x { last = y.last }

pub filled_same : (f : ℕ → Option PlaceKind) (ps : List BoardPlace) (x y : Part) → IsFilled f ps x
    → y.first ≡ x.last + 1 → y.first ≤ y.last → ((a : ℕ) → y.first ≤ a → a ≤ y.last → f a ≡ y.kind) → x.kind ≡ y.kind
    → IsFilled f ps (grown x y)
filled_same f ps x y made begins order holds same = record {
  order = let o = made.order in omega (arith, o, begins, order);
  before = made.before;
  after = made.after;
  holds = λ a above below. lead a above below (cases_lt x.last a);
  rise = made.rise;
}
  where
    lead : (a : ℕ) → x.first ≤ a → a ≤ y.last → ((x.last < a) ⊎ (a ≤ x.last)) → f a ≡ x.kind
    lead a above below (inl h) = holds a (omega (arith, h, begins)) below ∙ sym same
    lead a above below (inr h) = made.holds a above h

-- a part is complete: the places have the addresses up to its end
pub record IsDone (f : ℕ → Option PlaceKind) (ps : List BoardPlace) (next : ℕ) (kind : Option PlaceKind) : Type 0 where
  pub before : (a : ℕ) → a < next → kind_in ps a ≡ f a
  pub after : (a : ℕ) → next ≤ a → kind_in ps a ≡ None
  pub rise : RiseTo ps next kind

done : (f : ℕ → Option PlaceKind) (ps : List BoardPlace) (x : Part) (other : Option PlaceKind) → IsFilled f ps x
    → ¬ (x.kind ≡ other) → IsDone f (with_part ps x) (x.last + 1) other
done f ps x other made unlike = lead x.kind made.holds made.rise unlike
  where
    lead : (k : Option PlaceKind) → ((a : ℕ) → x.first ≤ a → a ≤ x.last → f a ≡ k) → RiseTo ps x.first k
        → ¬ (k ≡ other) → IsDone f (with_kind ps x k) (x.last + 1) other
    lead None holds rise unlike = record {
      before = λ a below. free a below (cases_lt a x.first);
      after = λ a above. made.after a (let o = made.order in omega (arith, o, above));
      rise = rise_later ps x.first (x.last + 1) None other (let o = made.order in omega (arith, o)) rise;
    }
      where
        free : (a : ℕ) → a < x.last + 1 → ((a < x.first) ⊎ (x.first ≤ a)) → kind_in ps a ≡ f a
        free a below (inl h) = made.before a h
        free a below (inr h) = made.after a h ∙ sym (holds a h (omega (arith, below)))
    lead (Some kind) holds rise unlike = record {
      before = λ a below. taken a below (cases_lt a x.first);
      after = λ a above. in_missed ps (place_of kind x) a (misses_after (place_of kind x) a (omega (arith, above)))
          ∙ made.after a (let o = made.order in omega (arith, o, above));
      rise = rise_push ps (place_of kind x) (x.last + 1) other made.order (omega arith) (λ touch. unlike) rise;
    }
      where
        taken : (a : ℕ) → a < x.last + 1 → ((a < x.first) ⊎ (x.first ≤ a))
            → kind_in (ps ++ place_of kind x ∷ []) a ≡ f a
        taken a below (inl h) =
            in_missed ps (place_of kind x) a (misses_before (place_of kind x) a h) ∙ made.before a h
        taken a below (inr h) =
            in_hit ps (place_of kind x) a (hits (place_of kind x) a h (omega (arith, below))) (made.after a h)
            ∙ sym (holds a h (omega (arith, below)))

pub filled_next : (f : ℕ → Option PlaceKind) (ps : List BoardPlace) (x y : Part) → IsFilled f ps x
    → y.first ≡ x.last + 1 → y.first ≤ y.last → ((a : ℕ) → y.first ≤ a → a ≤ y.last → f a ≡ y.kind)
    → ¬ (x.kind ≡ y.kind) → IsFilled f (with_part ps x) y
filled_next f ps x y made begins order holds unlike =
    let d = done f ps x y.kind made unlike in
    record {
      order = order;
      before = λ a below. d.before a (omega (arith, below, begins));
      after = λ a above. d.after a (omega (arith, above, begins));
      holds = holds;
      rise = rw begins d.rise;
    }

-- ---- no place is after the last address

and_false : (b : Bool) → (b && false) ≡ false
and_false true = refl
and_false false = refl

has_ends : (d : Device) (a : ℕ) → 0x1_0000_0000 ≤ a → device_has d a ≡ false
has_ends d a h =
    let within : d.base + d.size ≤ 0x1_0000_0000 = d.within in
    ap (λ (b : Bool). nat_le d.base a && b)
    (let e : nat_lt a (d.base + d.size) ≡ false = grind (arith, nat_tests, within, h) in e)
    ∙ and_false (nat_le d.base a)

device_ends : (devices : List Device) (a : ℕ) → 0x1_0000_0000 ≤ a → is_in_device devices a ≡ false
device_ends [] a h = refl
device_ends (d ∷ devices) a h =
    ap (λ (b : Bool). b || is_in_device devices a) (has_ends d a h) ∙ device_ends devices a h

pub kind_ends : (board : Layout) (devices : List Device) (a : ℕ) → 0x1_0000_0000 ≤ a
    → kind_at (numbers_of board) devices a ≡ None
unfolding kind_at
kind_ends board devices a h =
    let small : board.ram_size ≤ 0x10_0000 = board.ram_is_small in
    let apart : board.flash_base + board.flash_size ≤ ram_base = board.apart in
    let ends = second_ends board.second_ram in
    let flash : is_in_place (numbers_of board) Flash a ≡ false = place_ends (numbers_of board) Flash a (omega (arith, apart, h)) in
    let one : is_in_place (numbers_of board) Ram a ≡ false = place_ends (numbers_of board) Ram a (omega (arith, small, h)) in
    let two : is_in_place (numbers_of board) SecondRam a ≡ false = place_ends (numbers_of board) SecondRam a (omega (arith, ends, h)) in
    let window : is_in_place (numbers_of board) WindowOf a ≡ false = place_ends (numbers_of board) WindowOf a (omega (arith, h)) in
    let ram : is_in_ram (numbers_of board) a ≡ false =
    ap (λ (b : Bool). b || is_in_place (numbers_of board) SecondRam a) one ∙ two in
    let device : (not (is_in_bus a) && is_in_device devices a) ≡ false =
    ap (λ (b : Bool). not (is_in_bus a) && b) (device_ends devices a h) ∙ and_false (not (is_in_bus a)) in
    ap (λ (b : Bool). kind_by b (is_in_ram (numbers_of board) a) (not (is_in_bus a) && is_in_device devices a)
    (is_in_place (numbers_of board) WindowOf a)) flash
    ∙ ap (λ (b : Bool). kind_by false b (not (is_in_bus a) && is_in_device devices a)
    (is_in_place (numbers_of board) WindowOf a)) ram
    ∙ ap (λ (b : Bool). kind_by false false b (is_in_place (numbers_of board) WindowOf a)) device
    ∙ ap (λ (b : Bool). kind_by false false false b) window

finished : (board : Layout) (devices : List Device) (ps : List BoardPlace) (next : ℕ) (other : Option PlaceKind)
    → 0x1_0000_0000 ≤ next → IsDone (kind_at (numbers_of board) devices) ps next other
    → ArePlacesOf (numbers_of board) devices ps
finished board devices ps next other end d = record {
  exactly = λ a. lead a (cases_lt a next);
  rising = rise_of ps next other d.rise;
}
  where
    lead : (a : ℕ) → ((a < next) ⊎ (next ≤ a)) → kind_in ps a ≡ kind_at (numbers_of board) devices a
    lead a (inl h) = d.before a h
    lead a (inr h) = d.after a h ∙ sym (kind_ends board devices a (omega (arith, end, h)))

pub filled_last : (board : Layout) (devices : List Device) (ps : List BoardPlace) (x : Part) → 0xFFFF_FFFF ≤ x.last
    → IsFilled (kind_at (numbers_of board) devices) ps x → ArePlacesOf (numbers_of board) devices (with_part ps x)
filled_last board devices ps x end made = lead x.kind refl
  where
    lead : (k : Option PlaceKind) → x.kind ≡ k → ArePlacesOf (numbers_of board) devices (with_part ps x)
    lead None is =
        finished board devices (with_part ps x) (x.last + 1) (Some Window) (omega (arith, end))
        (done _ ps x (Some Window) made (λ e. let wrong : None ≡ Some Window = sym is ∙ e in cc))
    lead (Some kind) is =
        finished board devices (with_part ps x) (x.last + 1) None (omega (arith, end))
        (done _ ps x None made (λ e. let wrong : Some kind ≡ None = sym is ∙ e in cc))

-- ---- a part

-- addresses of which the same tests hold are of the same kind
pub kinds_alike : (board : Numbers) (devices : List Device) (a b : ℕ)
    → is_in_place board Flash a ≡ is_in_place board Flash b → is_in_place board Ram a ≡ is_in_place board Ram b
    → is_in_place board SecondRam a ≡ is_in_place board SecondRam b → is_in_bus a ≡ is_in_bus b
    → is_in_device devices a ≡ is_in_device devices b → is_in_place board WindowOf a ≡ is_in_place board WindowOf b
    → kind_at board devices a ≡ kind_at board devices b
unfolding kind_at
kinds_alike board devices a b flash ram second bus device window =
    ap (λ (x : Bool). kind_by x (is_in_ram board a) (not (is_in_bus a) && is_in_device devices a)
    (is_in_place board WindowOf a)) flash
    ∙ ap (λ (x : Bool). kind_by (is_in_place board Flash b) (x || is_in_place board SecondRam a)
    (not (is_in_bus a) && is_in_device devices a) (is_in_place board WindowOf a)) ram
    ∙ ap (λ (x : Bool). kind_by (is_in_place board Flash b) (is_in_place board Ram b || x)
    (not (is_in_bus a) && is_in_device devices a) (is_in_place board WindowOf a)) second
    ∙ ap (λ (x : Bool). kind_by (is_in_place board Flash b) (is_in_ram board b) (not x && is_in_device devices a)
    (is_in_place board WindowOf a)) bus
    ∙ ap (λ (x : Bool). kind_by (is_in_place board Flash b) (is_in_ram board b) (not (is_in_bus b) && x)
    (is_in_place board WindowOf a)) device
    ∙ ap (λ (x : Bool). kind_by (is_in_place board Flash b) (is_in_ram board b)
    (not (is_in_bus b) && is_in_device devices b) x) window

-- ---- devices

-- the first n devices have all addresses from the first to the last, or none
abbrev pub IsCutBy : List Device → ℕ → ℕ → ℕ → Type 0
IsCutBy ds n first last = (a : ℕ) → first ≤ a → a ≤ last
    → is_in_device (take n ds) a ≡ is_in_device (take n ds) first

-- one more device, for a part of these addresses
pub devices_more : (ds : List Device) (n first last less : ℕ) (d : Device) → n < length ds → less ≤ last
    → IsCutBy ds n first last
    → ((a : ℕ) → first ≤ a → a ≤ less → has_device a (get_or ds n d) ≡ has_device first (get_or ds n d))
    → IsCutBy ds (n + 1) first less
devices_more ds n first last less d room upto before alike a above below =
    list_any_more (has_device a) ds n d room
    ∙ ap (λ (b : Bool). b || has_device a (get_or ds n d)) (before a above (omega (arith, below, upto)))
    ∙ ap (λ (b : Bool). is_in_device (take n ds) first || b) (alike a above below)
    ∙ sym (list_any_more (has_device first) ds n d room)

-- a device has the addresses of its span
pub device_is : (d : Device) (x : Span) (a : ℕ) → x.first ≡ d.base → x.last + 1 ≡ d.base + d.size
    → has_device a d ≡ has_address a x
device_is d x a begins ends = rw (← ends, ← begins) (lead (nat_le x.first a))
  where
    last : nat_lt a (x.last + 1) ≡ nat_le a x.last
    last = grind (arith, nat_tests)

    lead : (b : Bool) → (b && nat_lt a (x.last + 1)) ≡ (b && nat_le a x.last)
    lead true = last
    lead false = refl

-- a device without a byte has no address
pub empty_device : (d : Device) (a : ℕ) → d.size ≡ 0 → has_device a d ≡ false
empty_device d a none = lead (nat_le d.base a) refl
  where
    lead : (b : Bool) → nat_le d.base a ≡ b → (b && nat_lt a (d.base + d.size)) ≡ false
    lead true e = let f : nat_lt a (d.base + d.size) ≡ false = grind (arith, nat_tests) in f
    lead false e = refl

pub ruleset device_lemmas = (device_is, empty_device)
