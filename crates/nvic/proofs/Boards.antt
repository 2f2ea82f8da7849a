-- Each change leaves the sets and the bytes as the board has them.
use Rattle.std.proofs.Common.{◌≡◌, ℕ, zero, suc, ◌-◌, ◌*◌, ◌/◌, ◌%◌, ◌^◌, ◌<◌, min, Bool, true, false, List, []}
use Rattle.std.proofs.Common.{◌∷◌, replicate, get_or, set, slice_index, slice_set, refl, ◌∙◌, ap, arith}
use Rattle.std.proofs.lemmas.Bool.{cond_both, both_ways}
use Rattle.std.proofs.lemmas.List.{length-set, length-replicate}
use Rattle.std.proofs.lemmas.Nat.{pow_pos}
use Rattle.std.proofs.Math.Nat.{mul-div_left, zero-div, zero-mul}
use Rattle.platform.specs.declared.exception.Masks.{Masks}
use Rattle.platform.specs.declared.exception.TheConstants.{EXCEPTIONS, MAX_INTERRUPTS}
use Rattle.platform.specs.SystemInvariant.{HasOnly}
use Rattle.platform.specs.Priorities.{Nvic, is_in_words, is_exception, can_be_disabled, has_priority_byte}
use Rattle.platform.specs.Priorities.{implemented_bits}
use Rattle.platform.specs.Priorities.{with_member}
use Rattle.platform.specs.Priorities.{with_pending, with_active, with_enabled, with_priority, with_group, with_primask}
use Rattle.platform.specs.Priorities.{with_faultmask, with_basepri, with_due, reset_nvic}
use Rattle.nvic.proofs.Changes.{IsPreserved, pended_kept}
use Rattle.nvic.proofs.Due.{due_is_pended}
use Rattle.nvic.specs.Laws.{ArePriorityBytes, FitsBoard}

-- ---- lists

-- what holds at each place of a list, and of what is written at one, holds at each place afterwards
pub at_each : {A : Type 0} (P : ℕ → A → Type 0) (xs : List A) (i : ℕ) (v d : A)
    → P i v → ((j : ℕ) → P j (get_or xs j d)) → (j : ℕ) → P j (get_or (set xs i v) j d)
at_each P [] i v d p h j = h j
at_each P (x ∷ xs) zero v d p h zero = p
at_each P (x ∷ xs) zero v d p h (suc j) = h (suc j)
at_each P (x ∷ xs) (suc i) v d p h zero = h zero
at_each P (x ∷ xs) (suc i) v d p h (suc j) = at_each (λ k a. P (suc k) a) xs i v d p (λ k. h (suc k)) j

-- a list of one value has it at each place, and after its end the value that is asked for
pub same_each : {A : Type 0} (n : ℕ) (v : A) (j : ℕ) → get_or (replicate n v) j v ≡ v
same_each zero v j = refl
same_each (suc n) v zero = refl
same_each (suc n) v (suc j) = same_each n v j

-- ---- sets and bytes

set_of : (test : ℕ → Bool) (s : List Bool) (x : ℕ) (on : Bool) → test x ≡ true → HasOnly test s
    → HasOnly test (slice_set s x on)
set_of test s x on t h = record {
  places = length-set s x on ∙ h.places;
  members = at_each (λ y b. b ≡ true → test y ≡ true) s x on false (λ _. t) h.members;
}

empty_set : (test : ℕ → Bool) → HasOnly test (replicate EXCEPTIONS false)
empty_set test = record {
  places = length-replicate EXCEPTIONS false;
  members = λ x e. absurd (both_ways _ (same_each EXCEPTIONS false x) e);
}

member_set : (interrupts : ℕ) (s : List Bool) (x : ℕ) (on : Bool)
    → HasOnly (is_exception interrupts) s → HasOnly (is_exception interrupts) (with_member interrupts s x on)
member_set interrupts s x on h =
    cond_both (is_exception interrupts x) _ _ (HasOnly (is_exception interrupts))
    (λ e. set_of (is_exception interrupts) s x on e h) (λ e. h)

-- what was kept is kept
pub kept_again : (bits b : ℕ) → implemented_bits bits (implemented_bits bits b) ≡ implemented_bits bits b
kept_again bits b = let d = 2 ^ (8 - bits) in ap (λ q. q * d) (mul-div_left (b / d) {n = d} (pow_pos (8 - bits)))

set_kept : (bits : ℕ) (bytes : List ℕ) (x b : ℕ) → ArePriorityBytes bits bytes
    → ArePriorityBytes bits (slice_set bytes x (implemented_bits bits b))
set_kept bits bytes x b h = record {
  places = length-set bytes x (implemented_bits bits b) ∙ h.places;
  keep = at_each (λ y c. implemented_bits bits c ≡ c) bytes x (implemented_bits bits b) 0 (kept_again bits b) h.keep;
}

kept_none : (bits : ℕ) → implemented_bits bits 0 ≡ 0
kept_none bits = let d = 2 ^ (8 - bits) in ap (λ q. q * d) (zero-div d) ∙ zero-mul d

pub no_bytes : (bits : ℕ) → ArePriorityBytes bits (replicate EXCEPTIONS 0)
no_bytes bits = record {
  places = length-replicate {A = ℕ} EXCEPTIONS 0;
  keep = λ x. let e : slice_index (replicate EXCEPTIONS 0) x ≡ 0 = same_each EXCEPTIONS 0 x in rw e (kept_none bits);
}

-- ---- the changes

-- other sets, and the rest as it is
with_sets : (n : Nvic) (pending enabled active : List Bool) → HasOnly (is_exception n.interrupts) pending
    → HasOnly (can_be_disabled n.interrupts) enabled → HasOnly (is_exception n.interrupts) active → FitsBoard n
    → FitsBoard (record n { pending = pending; enabled = enabled; active = active })
with_sets n pending enabled active p e a h = record {
  sets = record { pending = p; enabled = e; active = a; interrupts = h.sets.interrupts };
  priorities = h.priorities;
  basepri = h.basepri;
  group = h.group;
}

-- other priority bytes, another PRIGROUP and other masks, and the rest as it is
with_others : (n : Nvic) (bytes : List ℕ) (group : ℕ) (masks : Masks) → ArePriorityBytes n.priority_bits bytes
    → group < 8
    → implemented_bits n.priority_bits masks.basepri ≡ masks.basepri → FitsBoard n
    → FitsBoard (record n { priorities = bytes; group = group; masks = masks })
with_others n bytes group masks are small basepri h = record {
  sets = record {
    pending = h.sets.pending;
    enabled = h.sets.enabled;
    active = h.sets.active;
    interrupts = h.sets.interrupts;
  };
  priorities = are;
  basepri = basepri;
  group = small;
}

pub pending_of_board : (n : Nvic) (x : ℕ) (on : Bool) → FitsBoard n → FitsBoard (with_pending n x on)
pending_of_board n x on h =
    with_sets n _ n.enabled n.active
    (member_set n.interrupts n.pending x on h.sets.pending) h.sets.enabled h.sets.active h

pub active_of_board : (n : Nvic) (x : ℕ) (on : Bool) → FitsBoard n → FitsBoard (with_active n x on)
active_of_board n x on h =
    with_sets n n.pending n.enabled _ h.sets.pending h.sets.enabled
    (member_set n.interrupts n.active x on h.sets.active) h

pub enabled_of_board : (n : Nvic) (x : ℕ) (on : Bool) → FitsBoard n → FitsBoard (with_enabled n x on)
enabled_of_board n x on h =
    cond_both (can_be_disabled n.interrupts x) _ _ FitsBoard
    (λ e. with_sets n n.pending _ n.active h.sets.pending
    (set_of (can_be_disabled n.interrupts) n.enabled x on e h.sets.enabled) h.sets.active h)
    (λ e. h)

pub priority_of_board : (n : Nvic) (x b : ℕ) → FitsBoard n → FitsBoard (with_priority n x b)
priority_of_board n x b h =
    cond_both (has_priority_byte n.interrupts x) _ _ FitsBoard
    (λ e. with_others n _ n.group n.masks (set_kept n.priority_bits n.priorities x b h.priorities) h.group h.basepri h)
    (λ e. h)

pub group_of_board : (n : Nvic) (g : ℕ) → FitsBoard n → FitsBoard (with_group n g)
group_of_board n g h = with_others n n.priorities (g % 8) n.masks h.priorities (omega arith) h.basepri h

pub primask_of_board : (n : Nvic) (on : Bool) → FitsBoard n → FitsBoard (with_primask n on)
primask_of_board n on h = with_others n n.priorities n.group _ h.priorities h.group h.basepri h

pub faultmask_of_board : (n : Nvic) (on : Bool) → FitsBoard n → FitsBoard (with_faultmask n on)
faultmask_of_board n on h = with_others n n.priorities n.group _ h.priorities h.group h.basepri h

pub basepri_of_board : (n : Nvic) (b : ℕ) → FitsBoard n → FitsBoard (with_basepri n b)
basepri_of_board n b h = with_others n n.priorities n.group _ h.priorities h.group (kept_again n.priority_bits b) h

pub of_board_kept : IsPreserved FitsBoard
of_board_kept = record {
  pending = pending_of_board;
  active = active_of_board;
  enabled = enabled_of_board;
  priority = λ n x b small h. priority_of_board n x b h;
  group = group_of_board;
  primask = primask_of_board;
  faultmask = faultmask_of_board;
  basepri = λ n b small h. basepri_of_board n b h;
}

pub due_of_board : (n : Nvic) (due : List ℕ) → FitsBoard n → FitsBoard (with_due n due)
due_of_board n due h =
    rw (due_is_pended n due (is_in_words due) (λ x small. refl))
    (pended_kept FitsBoard (is_in_words due) (λ m x e g. pending_of_board m x true g) n h)

pub reset_of_board : (interrupts bits : ℕ) → FitsBoard (reset_nvic interrupts bits)
reset_of_board interrupts bits = record {
  sets = record {
    pending = empty_set (is_exception (min interrupts MAX_INTERRUPTS));
    enabled = empty_set (can_be_disabled (min interrupts MAX_INTERRUPTS));
    active = empty_set (is_exception (min interrupts MAX_INTERRUPTS));
    interrupts = omega arith;
  };
  priorities = no_bytes bits;
  basepri = kept_none bits;
  group = omega arith;
}
