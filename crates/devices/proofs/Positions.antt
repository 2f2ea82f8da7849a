-- The first device that has an address.
use Rattle.std.proofs.Common.{◌≡◌, ℕ, suc, ◌+◌, ◌<◌, Bool, true, false, ◌||◌, if◌then◌else◌, List, [], ◌∷◌, length}
use Rattle.std.proofs.Common.{slice_set, slice_index, slice_index_or}
use Rattle.std.proofs.Common.{Some, None, is_some, refl, sym, ◌∙◌, ap, arith, subst}
use Rattle.std.proofs.lemmas.Bool.{or_parts}
use Rattle.devices.specs.Devices.{DeviceWords, Word, poked, position_from, with_content, word_at}
use Rattle.devices.specs.Laws.{has_device_at}
use Rattle.devices.specs.Table.{has, place}

-- a number is found where a device has the address
position_found : (k : ℕ) (ds : List DeviceWords) (a : ℕ) → is_some (position_from k ds a) ≡ has_device_at ds a
position_found k [] a = refl
position_found k (d ∷ ds) a = by_has (has d.device a) (position_found (suc k) ds a)
  where
    by_has : (b : Bool) → is_some (position_from (suc k) ds a) ≡ has_device_at ds a →
        is_some (if b then Some k else position_from (suc k) ds a) ≡ (b || has_device_at ds a)
    by_has true rest = refl
    by_has false rest = rest

pub some_position : (ds : List DeviceWords) (a : ℕ) → is_some (position_from 0 ds a) ≡ has_device_at ds a
some_position ds a = position_found 0 ds a

pub none_have : (ds : List DeviceWords) (a : ℕ) → position_from 0 ds a ≡ None → has_device_at ds a ≡ false
none_have ds a e = sym (some_position ds a) ∙ ap is_some e

pub first_has : (ds : List DeviceWords) (a j : ℕ) → position_from 0 ds a ≡ Some j → has_device_at ds a ≡ true
first_has ds a j e = sym (some_position ds a) ∙ ap is_some e

-- where there is none, nothing is poked
pub none_poked : (ds : List DeviceWords) (ticks a v : ℕ) → position_from 0 ds a ≡ None → poked ds ticks a v ≡ ds
none_poked ds ticks a v e = stays ds (none_have ds a e)
  where
    stays : (ds : List DeviceWords) → has_device_at ds a ≡ false → poked ds ticks a v ≡ ds
    stays [] none = refl
    stays (d ∷ ds) none =
        let (here, rest) = or_parts (has d.device a) (has_device_at ds a) none in
        rw here (ap (λ tail. d ∷ tail) (stays ds rest))

-- and there is no word
pub none_word : (ds : List DeviceWords) (a : ℕ) → position_from 0 ds a ≡ None → word_at ds a ≡ None
none_word ds a e = none_there ds (none_have ds a e)
  where
    none_there : (ds : List DeviceWords) → has_device_at ds a ≡ false → word_at ds a ≡ None
    none_there [] none = refl
    none_there (d ∷ ds) none =
        let (here, rest) = or_parts (has d.device a) (has_device_at ds a) none in
        rw here (none_there ds rest)

-- the word at an address in a device
abbrev word_in : DeviceWords → ℕ → Word
word_in d a = record { device = d.device; stored = slice_index d.words (place d.device a) }

-- number i has the address, and is the first that has it
pub record IsFirst (ds : List DeviceWords) (a i : ℕ) : Type 0 where
  pub below : i < length ds
  pub there : (d : DeviceWords) → has (slice_index_or ds i d).device a ≡ true
  pub pokes : (ticks v : ℕ) (d : DeviceWords) →
      slice_set ds i (with_content (slice_index_or ds i d) ticks a v) ≡ poked ds ticks a v
  pub word : (d : DeviceWords) → word_at ds a ≡ Some (word_in (slice_index_or ds i d) a)

-- likewise, counted from k on
pub record IsFirstFrom (k : ℕ) (ds : List DeviceWords) (a j : ℕ) : Type 0 where
  pub i : ℕ
  pub is : j ≡ k + i
  pub first : IsFirst ds a i

first_from : (k : ℕ) (ds : List DeviceWords) (a j : ℕ) → position_from k ds a ≡ Some j → IsFirstFrom k ds a j
first_from k [] a j e = absurd cc
first_from k (d ∷ ds) a j e = by_has (has d.device a) refl (first_from (suc k) ds a j)
  where
    next : has d.device a ≡ false → IsFirstFrom (suc k) ds a j → IsFirstFrom k (d ∷ ds) a j
    next h rest = record {
      i = suc rest.i;
      is = (let s : j ≡ suc k + rest.i = rest.is in omega arith);
      first = record {
        below = (let s : rest.i < length ds = rest.first.below in omega arith);
        there = λ other. rest.first.there other;
        pokes = λ ticks v other. rw h (ap (λ tail. d ∷ tail) (rest.first.pokes ticks v other));
        word = λ other. rw h (rest.first.word other);
      };
    }

    by_has : (b : Bool) → has d.device a ≡ b → (position_from (suc k) ds a ≡ Some j → IsFirstFrom (suc k) ds a j) →
        IsFirstFrom k (d ∷ ds) a j
    by_has true h rest = record {
      i = 0;
      is = (let s : Some k ≡ Some j = rw h at e in let same : k ≡ j = cc in omega arith);
      first = record {
        below = omega arith;
        there = λ other. h;
        pokes = λ ticks v other. rw h refl;
        word = λ other. rw h refl;
      };
    }
    by_has false h rest = next h (rest (rw h at e))

pub first_of : (ds : List DeviceWords) (a j : ℕ) → position_from 0 ds a ≡ Some j → IsFirst ds a j
first_of ds a j e =
    let f = first_from 0 ds a j e in
    let same : f.i ≡ j = (let s : j ≡ 0 + f.i = f.is in omega arith) in
    subst (IsFirst ds a) same f.first

pub first_below : (ds : List DeviceWords) (a j : ℕ) → position_from 0 ds a ≡ Some j → j < length ds
first_below ds a j e = (first_of ds a j e).below

pub first_there : (ds : List DeviceWords) (a j : ℕ) (d : DeviceWords) → position_from 0 ds a ≡ Some j →
    has (slice_index_or ds j d).device a ≡ true
first_there ds a j d e = (first_of ds a j e).there d

pub first_pokes : (ds : List DeviceWords) (ticks a v j : ℕ) (d : DeviceWords) → position_from 0 ds a ≡ Some j →
    slice_set ds j (with_content (slice_index_or ds j d) ticks a v) ≡ poked ds ticks a v
first_pokes ds ticks a v j d e = (first_of ds a j e).pokes ticks v d

pub first_word : (ds : List DeviceWords) (a j : ℕ) (d : DeviceWords) → position_from 0 ds a ≡ Some j →
    word_at ds a ≡ Some (word_in (slice_index_or ds j d) a)
first_word ds a j d e = (first_of ds a j e).word d

pub ruleset position_lemmas = (none_poked, first_below, first_there, first_pokes)

pub ruleset word_lemmas = (first_below, first_there, first_word)
