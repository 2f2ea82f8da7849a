-- Sets of the reference, which are lists, and sets of bits.
use Rattle.std.proofs.Common.{◌≡◌, ℕ, zero, suc, ◌<◌, ◌≤◌, Bool, true, false, ◌==◌, if◌then◌else◌, List, [], ◌∷◌}
use Rattle.std.proofs.Common.{length, replicate, slice_set, refl, sym, ◌∙◌, ap, arith}
use Rattle.std.proofs.lemmas.Bool.{eqb-true, eqb-false}
use Rattle.std.proofs.lemmas.List.{length-set, length-replicate, get_or-set_same, get_or-set_other}
use Rattle.std.proofs.lemmas.List.FromFn.{length-map-range_with_len, get_or-map-range_with_len, fill_by_all}
use Rattle.platform.specs.declared.exception.TheConstants.{EXCEPTIONS}
use Rattle.platform.specs.Priorities.{is_in}
use Rattle.nvic_levels.specs.Sets.{flags}
use Rattle.nvic.proofs.Boards.{same_each}

flags_length : (f : ℕ → Bool) → length (flags f) ≡ EXCEPTIONS
unfolding flags
flags_length f = length-map-range_with_len f 0 EXCEPTIONS

pub flag : (f : ℕ → Bool) (x : ℕ) → x < 256 → is_in (flags f) x ≡ f x
unfolding flags
flag f x h = get_or-map-range_with_len f 0 EXCEPTIONS x x false h (omega arith)

past : (s : List Bool) (x : ℕ) → length s ≤ x → is_in s x ≡ false
past [] x h = refl
past (b ∷ s) zero h = absurd (omega arith)
past (b ∷ s) (suc x) h = past s x (omega arith)

pub no_flag : (f : ℕ → Bool) (x : ℕ) → 256 ≤ x → is_in (flags f) x ≡ false
no_flag f x h = let e = flags_length f in past (flags f) x (omega (arith, e))

flags_fill : (s : List Bool) (f : ℕ → Bool) → length s ≡ EXCEPTIONS → ((x : ℕ) → x < 256 → is_in s x ≡ f x)
    → s ≡ flags f
unfolding flags
flags_fill s f e h = fill_by_all f s EXCEPTIONS false e h

pub flags_same : (f g : ℕ → Bool) → ((x : ℕ) → x < 256 → f x ≡ g x) → flags f ≡ flags g
flags_same f g h = flags_fill (flags f) g (flags_length f) (λ x k. flag f x k ∙ h x k)

-- one exception is put into a set or taken out
pub flags_set : (f g : ℕ → Bool) (x : ℕ) (on : Bool) → x < 256
    → ((y : ℕ) → y < 256 → g y ≡ (if y == x then on else f y))
    → flags g ≡ slice_set (flags f) x on
flags_set f g x on small changes =
    sym (flags_fill (slice_set (flags f) x on) g (length-set (flags f) x on ∙ flags_length f)
    (λ y h. each y h (y == x) refl ∙ sym (changes y h)))
  where
    each : (y : ℕ) → y < 256 → (b : Bool) → (y == x) ≡ b → is_in (slice_set (flags f) x on) y ≡ (if b then on else f y)
    each y h true e =
        let same : y ≡ x = eqb-true y x e in
        let room : x < length (flags f) = let l = flags_length f in omega (arith, l, small) in
        rw same (get_or-set_same (flags f) x on false room)
    each y h false e =
        get_or-set_other (flags f) x y on false (eqb-false y x e) ∙ flag f y h

pub flags_none : (f : ℕ → Bool) → ((x : ℕ) → x < 256 → f x ≡ false) → flags f ≡ replicate EXCEPTIONS false
flags_none f none =
    sym (flags_fill (replicate EXCEPTIONS false) f (length-replicate EXCEPTIONS false)
    (λ x h. same_each EXCEPTIONS false x ∙ sym (none x h)))

-- what is taken out is out, and what is put back is as it was
pub now_out : (s : List Bool) (x : ℕ) → is_in (slice_set s x false) x ≡ false
now_out [] x = refl
now_out (b ∷ s) zero = refl
now_out (b ∷ s) (suc x) = now_out s x

pub put_back : (s : List Bool) (x : ℕ) → slice_set (slice_set s x false) x (is_in s x) ≡ s
put_back [] x = refl
put_back (b ∷ s) zero = refl
put_back (b ∷ s) (suc x) = ap (λ t. b ∷ t) (put_back s x)

-- the lemmas of an exception that is taken out, moved and put back
pub ruleset move_lemmas = (put_back, now_out)
