-- Room for marks: they are put in front, and the first ones are forgotten.
use Rattle.std.proofs.Common.{◌≡◌, ◌∙◌, ◌+◌, ◌-◌, ◌≤◌, ◌<◌, ℕ, zero, suc, List, [], ◌∷◌, ◌++◌, All, add-one, ap, arith}
use Rattle.std.proofs.Common.{drop, false, length, length-append, min, nat_lt, refl, replicate, slice_index_or}
use Rattle.std.proofs.Common.{slice_set, sym, take, true}
use Rattle.std.proofs.lemmas.Bool.{lt-ltb}
use Rattle.std.proofs.lemmas.Bool.Decides.{nat_tests}
use Rattle.std.proofs.lemmas.List.{drop-take, length-drop, length-replicate, length-set, length-take, take-append-le}
use Rattle.std.proofs.lemmas.List.{take_min}
use Rattle.std.proofs.lemmas.List.Elements.{All-append, All-drop, All-replicate, All-set, All-take}
use Rattle.std.proofs.Math.Seq.{drop-cons}
use Rattle.gdb_past.proofs.Following.{same_refl, same_sym, same_trans}
use Rattle.gdb_past.specs.Places.{AreOfOneMachine, Past, below, tick_of}
use Rattle.gdb_past.specs.Rooms.{HasRoom}
use Rattle.reference.specs.State.{State}

-- ---- the marks from a tick on

pub kept_below : (tick x : ℕ) (marks : List State) (n : ℕ) (m : State) → n < length marks
    → x ≡ tick_of (slice_index_or marks n m) → x < tick → below tick (drop n marks) ≡ drop n marks
kept_below tick x marks n m there is h =
    let e : nat_lt (tick_of (slice_index_or marks n m)) tick ≡ true = rw is at (lt-ltb x tick h) in
    rw (drop-cons marks n m there, e) refl

pub passed_below : (tick x : ℕ) (marks : List State) (n : ℕ) (m : State) → n < length marks
    → x ≡ tick_of (slice_index_or marks n m) → tick ≤ x
    → below tick (drop (n + 1) marks) ≡ below tick (drop n marks)
passed_below tick x marks n m there is h =
    let later : nat_lt x tick ≡ false = grind (arith, nat_tests) in
    let e : nat_lt (tick_of (slice_index_or marks n m)) tick ≡ false = rw is at later in
    rw (drop-cons marks n m there, e, add-one) refl

-- ---- the marks in use, of those that there is room for

pub few_used : (xs : List State) (used few : ℕ) → few ≤ length (take used xs) → few ≤ used
few_used xs used few small =
    let in_use : length (take used xs) ≡ min used (length xs) = length-take used xs in
    omega (arith, small, in_use)

-- ---- a list that begins after c elements, and those behind the others

abbrev turned : ℕ → List State → List State
turned c xs = drop c xs ++ take c xs

turned_length : (c : ℕ) (xs : List State) → c ≤ length xs → length (turned c xs) ≡ length xs
turned_length c xs h =
    let front : length (drop c xs) ≡ length xs - c = length-drop c xs in
    let back : length (take c xs) ≡ min c (length xs) = length-take c xs in
    let both : length (turned c xs) ≡ length (drop c xs) + length (take c xs) = length-append (drop c xs) (take c xs) in
    omega (arith, front, back, both, h)

fits_turned : (s : State) (c : ℕ) (xs : List State) → All (λ m. AreOfOneMachine s m) xs
    → All (λ m. AreOfOneMachine s m) (turned c xs)
fits_turned s c xs h =
    All-append (λ m. AreOfOneMachine s m) (drop c xs) (take c xs) (All-drop (λ m. AreOfOneMachine s m) c xs h)
    (All-take (λ m. AreOfOneMachine s m) c xs h)

-- ---- the last marks are forgotten

pub marks_left : (xs : List State) (count c : ℕ) → count ≤ length xs → c ≤ count
    → take (count - c) (turned c xs) ≡ drop c (take count xs)
marks_left xs count c most few =
    let front : length (drop c xs) ≡ length xs - c = length-drop c xs in
    let fits : count - c ≤ length (drop c xs) = omega (arith, front, most) in
    let whole : c + (count - c) ≡ count = omega (arith, few) in
    take-append-le (count - c) (drop c xs) (take c xs) fits
    ∙ (sym (drop-take c (count - c) xs) ∙ ap (λ n. drop c (take n xs)) whole)

pub room_left : (s : State) (xs ys : List State) (count c : ℕ) → HasRoom s xs count → ys ≡ turned c xs
    → c < length (take count xs) → HasRoom s ys (count - c)
room_left s xs ys count c h is few =
    let rooms : length xs ≤ 8 = h.rooms in
    let most : count ≤ length xs = h.few in
    let set : length (take count xs) ≡ min count (length xs) = length-take count xs in
    let less : c < count = omega (arith, set, few, most) in
    let same : length (turned c xs) ≡ length xs = turned_length c xs (omega (arith, less, most)) in
    rw is (record {
      rooms = omega (arith, same, rooms);
      some = omega (arith, less);
      few = omega (arith, same, most);
      fits = fits_turned s c xs h.fits;
    })

-- as many rooms as before
pub as_many_left : (xs ys : List State) (count c : ℕ) → count ≤ length xs → c < length (take count xs)
    → ys ≡ turned c xs → length ys ≡ length xs
as_many_left xs ys count c most few is =
    let set : length (take count xs) ≡ min count (length xs) = length-take count xs in
    ap length is ∙ turned_length c xs (omega (arith, set, few, most))

-- ---- a mark in front

take_swap : (n k : ℕ) (xs : List State) → take n (take k xs) ≡ take k (take n xs)
take_swap zero zero xs = refl
take_swap zero (suc k) xs = refl
take_swap (suc n) zero xs = refl
take_swap (suc n) (suc k) [] = refl
take_swap (suc n) (suc k) (x ∷ xs) = ap (λ (ys : List State). x ∷ ys) (take_swap n k xs)

-- the list with its only element before others set
set_front : (xs ys : List State) (s : State) → length xs ≡ 1 → slice_set (xs ++ ys) 0 s ≡ s ∷ ys
set_front [] ys s e = absurd (omega (arith, e))
set_front (x ∷ []) ys s e = refl
set_front (x ∷ y ∷ xs) ys s e = absurd (omega (arith, e))

pub mark_in_front : (xs : List State) (s : State) (count c room len : ℕ) → 0 < count → count ≤ length xs → c ≤ count
    → room ≡ length xs → len ≡ length xs
    → take (min (count - c + 1) room) (slice_set (drop (len - 1) (turned c xs) ++ take (len - 1) (turned c xs)) 0 s)
    ≡ s ∷ take (length xs - 1) (drop c (take count xs))
mark_in_front xs s count c room len some most few all is =
    let k = count - c in
    let r = length xs - 1 in
    let t : List State = turned c xs in
    let long : length t ≡ length xs = turned_length c xs (omega (arith, few, most)) in
    let last : length (drop r t) ≡ length t - r = length-drop r t in
    let one : length (drop r t) ≡ 1 = omega (arith, last, long, some, most) in
    let rest : length (take r t) ≡ min r (length t) = length-take r t in
    let z : List State = s ∷ take r t in
    let whole : length z ≡ length xs = omega (arith, rest, long, some, most) in
    let front : length (drop c xs) ≡ length xs - c = length-drop c xs in
    let fits : k ≤ length (drop c xs) = omega (arith, front, most) in
    let both : c + k ≡ count = omega (arith, few) in
    let here : take k (take r t) ≡ take r (drop c (take count xs)) =
    take_swap k r t ∙ ap (λ (ys : List State). take r ys)
    (take-append-le k (drop c xs) (take c xs) fits ∙ (sym (drop-take c k xs) ∙ ap (λ n. drop c (take n xs)) both)) in
    rw (all, is) (ap (λ (ys : List State). take (min (k + 1) (length xs)) ys) (set_front (drop r t) (take r t) s one)
    ∙ (ap (λ n. take (min (k + 1) n) z) (sym whole)
    ∙ (take_min (k + 1) z ∙ rw add-one (ap (λ (ys : List State). s ∷ ys) here))))

-- the rooms after the marks were turned twice, and one was set
twice_turned : (s m : State) (xs : List State) (c r : ℕ) → c ≤ length xs → r ≤ length xs
    → length (slice_set (turned r (turned c xs)) 0 m) ≡ length xs
twice_turned s m xs c r few most =
    let once : length (turned c xs) ≡ length xs = turned_length c xs few in
    length-set (turned r (turned c xs)) 0 m
    ∙ (turned_length r (turned c xs) (omega (arith, once, most)) ∙ once)

pub as_many : (s m : State) (xs ys zs : List State) (count c len : ℕ) → count ≤ length xs → c ≤ count
    → len ≡ length xs → ys ≡ turned c xs → zs ≡ drop (len - 1) ys ++ take (len - 1) ys
    → length (slice_set zs 0 m) ≡ length xs
as_many s m xs ys zs count c len most few is turns again =
    rw (again, turns) (twice_turned s m xs c (len - 1) (omega (arith, few, most)) (omega (arith, is)))

pub room_in_front : (s m : State) (xs ys zs : List State) (count c room len n : ℕ) → HasRoom s xs count → c ≤ count
    → AreOfOneMachine s m → room ≡ length xs → len ≡ length xs → ys ≡ turned c xs
    → zs ≡ drop (len - 1) ys ++ take (len - 1) ys → n ≡ min (count - c + 1) room → HasRoom s (slice_set zs 0 m) n
room_in_front s m xs ys zs count c room len n h few fits whole is turns again sets =
    let rooms : length xs ≤ 8 = h.rooms in
    let most : count ≤ length xs = h.few in
    let any : 0 < count = h.some in
    let all : length (slice_set (turned (len - 1) (turned c xs)) 0 m) ≡ length xs =
    twice_turned s m xs c (len - 1) (omega (arith, few, most)) (omega (arith, is)) in
    rw (again, turns) (record {
      rooms = omega (arith, all, rooms);
      some = omega (arith, sets, whole, any, most);
      few = omega (arith, sets, whole, all);
      fits = All-set (λ x. AreOfOneMachine s x) (turned (len - 1) (turned c xs)) 0 m fits
          (fits_turned s (len - 1) (turned c xs) (fits_turned s c xs h.fits));
    })

-- the room that is used for it
pub room_used : (s m x : State) (xs ys zs : List State) (count c len : ℕ) → HasRoom s xs count → c ≤ count
    → AreOfOneMachine s m → len ≡ length xs → ys ≡ turned c xs → zs ≡ drop (len - 1) ys ++ take (len - 1) ys
    → x ≡ slice_index_or zs 0 x → AreOfOneMachine x m
room_used s m x xs ys zs count c len h few fits is turns again there =
    let most : count ≤ length xs = h.few in
    let any : 0 < count = h.some in
    let r = len - 1 in
    let once : length (turned c xs) ≡ length xs = turned_length c xs (omega (arith, few, most)) in
    let twice : length (turned r (turned c xs)) ≡ length xs =
    turned_length r (turned c xs) (omega (arith, once, is)) ∙ once in
    let at : x ≡ slice_index_or (turned r (turned c xs)) 0 x = rw (again, turns) at there in
    let known : AreOfOneMachine s (slice_index_or (turned r (turned c xs)) 0 x) =
    fits_turned s r (turned c xs) (fits_turned s c xs h.fits) 0 x (omega (arith, twice, any, most)) in
    same_trans x s m (same_sym s x (rw (← at) at known)) fits

-- ---- before the first step

pub first_room : (s t : State) (xs : List State) (n : ℕ) → s ≡ t → xs ≡ replicate n t → 0 < n → n ≤ 8
    → HasRoom s xs 1
first_room s t xs n e is some few =
    let all : length (replicate n t) ≡ n = length-replicate n t in
    rw (e, is) (record {
      rooms = omega (arith, all, few);
      some = omega arith;
      few = omega (arith, all, some);
      fits = All-replicate (λ m. AreOfOneMachine t m) n t (same_refl t);
    })

-- the first of so many marks is the only one in use
pub first_mark : (t : State) (n : ℕ) → 0 < n → take 1 (replicate n t) ≡ t ∷ []
first_mark t zero some = absurd (omega (arith, some))
first_mark t (suc n) some = refl

-- ---- all that is kept of the past

pub past_is : (s : State) (ms ns : List State) (r q : ℕ) → ms ≡ ns → r ≡ q
    → ◌≡◌ {A = Past} (record { start = s; marks = ms; room = r }) (record { start = s; marks = ns; room = q })
past_is s ms ns r q same as_many = rw (same, as_many) refl
