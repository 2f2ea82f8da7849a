-- Checkpoints: they are right for their mark, as they are kept, and for every mark after they were forgotten.
use Rattle.std.proofs.Common.{◌≡◌, ◌∙◌, ◌+◌, ◌-◌, ◌*◌, ◌^◌, ◌≤◌, ◌<◌, ℕ, zero, suc, List, [], ◌∷◌, All, ap, arith, length}
use Rattle.std.proofs.Common.{min, refl, replicate, slice_index_or, slice_set, subst, sym, take}
use Rattle.std.proofs.lemmas.List.{length-replicate, length-set}
use Rattle.std.proofs.lemmas.List.Elements.{All-replicate, All-set}
use Rattle.gdb_past.proofs.Following.{after_from, after_none, same_after, same_refl, same_sym, same_trans}
use Rattle.gdb_past.specs.Checkpoints.{AreRight, Checkpoint, Checkpoints, IsRight}
use Rattle.gdb_past.specs.Places.{AreOfOneMachine, Past, mark_of}
use Rattle.machine.specs.MachineModel.{MachineModel}
use Rattle.reference.specs.Run.{after}
use Rattle.reference.specs.State.{State}

-- what holds of all elements, where it follows from what holds of each
pub all_then : {A : Type 0} (P Q : A → Type 0) (xs : List A) → ((x : A) → P x → Q x) → All P xs → All Q xs
all_then P Q xs f h = λ i d there. f (slice_index_or xs i d) (h i d there)

-- ---- at first

abbrev pub first_checkpoint : State → Checkpoint
first_checkpoint t = record { state = t; steps = 0; generation = 0 }

pub first_right : (t : State) (slots : List Checkpoint) (n : ℕ) (cs : Checkpoints)
    → slots ≡ replicate n (first_checkpoint t) → cs ≡ record { slots = slots; generation = 0 }
    → AreRight t t n cs
first_right t slots n cs is made =
    rw (made, is) (record {
      rooms = length-replicate n (first_checkpoint t);
      fits = All-replicate (λ c. AreOfOneMachine t c.state) n (first_checkpoint t) (same_refl t);
      before = All-replicate (λ c. c.generation ≤ 0) n (first_checkpoint t) (omega arith);
      right = All-replicate (λ c. IsRight t 0 c) n (first_checkpoint t) (λ e b. sym (after_none t));
    })

-- ---- for another mark

none_right : (n : State) (old new : ℕ) (c : Checkpoint) → new ≡ min (old + 1) (2 ^ 64 - 1) → c.generation ≤ old
    → IsRight n new c
none_right n old new c is before = λ same used.
    let less : c.generation < new = omega (arith, is, before, used) in
    absurd (omega (arith, less, same))

pub cleared_right : (start m n : State) (count : ℕ) (slots : List Checkpoint) (old new : ℕ)
    → AreRight start m count (record { slots = slots; generation = old }) → old < 2 ^ 64
    → new ≡ min (old + 1) (2 ^ 64 - 1) → AreRight start n count (record { slots = slots; generation = new })
cleared_right start m n count slots old new h fits is =
    let more : old ≤ new = omega (arith, fits, is) in
    record {
      rooms = h.rooms;
      fits = h.fits;
      before = all_then (λ c. c.generation ≤ old) (λ c. c.generation ≤ new) slots
          (λ c b. omega (arith, b, more)) h.before;
      right = all_then (λ c. c.generation ≤ old) (λ c. IsRight n new c) slots
          (λ c b. none_right n old new c is b) h.before;
    }

-- ---- kept

pub kept_right : (start m s : State) (count : ℕ) (old new : Checkpoints) (slot steps : ℕ)
    → AreRight start m count old
    → s ≡ after steps m → AreOfOneMachine start s
    → new ≡ record old {
      slots = slice_set old.slots slot
          (record { state = s; steps = steps; generation = old.generation });
    }
    → AreRight start m count new
kept_right start m s count old new slot steps h here fits is =
    let c : Checkpoint = record { state = s; steps = steps; generation = old.generation } in
    rw is (record {
      rooms = length-set old.slots slot c ∙ h.rooms;
      fits = All-set (λ x. AreOfOneMachine start x.state) old.slots slot c fits h.fits;
      before = All-set (λ x. x.generation ≤ old.generation) old.slots slot c (omega arith) h.before;
      right = All-set (λ x. IsRight m old.generation x) old.slots slot c (λ e b. here) h.right;
    })

-- the slot that is used for it
pub slot_fits : (xs : List Checkpoint) (n : ℕ) (x : Checkpoint) (s : State) → n < length xs
    → All (λ c. AreOfOneMachine c.state s) xs → x ≡ slice_index_or xs n x → AreOfOneMachine x.state s
slot_fits xs n x s there h is = subst (λ (c : Checkpoint). AreOfOneMachine c.state s) (sym is) (h n x there)

-- ---- used

-- all checkpoints are of the machine that has this state
pub all_fit : (start m s : State) (count : ℕ) (cs : Checkpoints) → AreRight start m count cs
    → AreOfOneMachine start s → All (λ c. AreOfOneMachine c.state s) cs.slots
all_fit start m s count cs h fits =
    all_then (λ c. AreOfOneMachine start c.state) (λ c. AreOfOneMachine c.state s) cs.slots
    (λ c f. same_trans c.state start s (same_sym start c.state f) fits) h.fits

-- a machine is `at` steps after the last mark, and checkpoints alone were kept
pub record IsOnItsWay (first now : Past) (old new : MachineModel) (at to : ℕ) : Type 0 where
  pub past : now ≡ first
  pub few : at ≤ to
  pub machine : (m : State) → new ≡ record old { state = after at (mark_of first 0 m) }

pub moved_on : (old mid new : MachineModel) (s t : State) → mid ≡ record old { state = s }
    → new ≡ record mid { state = t } → new ≡ record old { state = t }
moved_on old mid new s t goes is = is ∙ ap (λ (k : MachineModel). record k { state = t }) goes

-- from a place on its way to a later one
pub further : (old mid new : MachineModel) (mark : State) (from to : ℕ) → from ≤ to
    → mid ≡ record old { state = after from mark } → new ≡ record mid { state = after (to - from) mid.state }
    → new ≡ record old { state = after to mark }
further old mid new mark from to order here there =
    moved_on old mid new (after from mark) (after to mark) here
    (there ∙ ap (λ (s : State). record mid { state = s })
    (after_from from to mark mid.state (after (to - from) mid.state) order
    (ap (λ (k : MachineModel). k.state) here) refl))

-- places on one way are of one machine
pub same_further : (start mark s t : State) (from to : ℕ) → s ≡ after from mark → t ≡ after to mark
    → AreOfOneMachine start s → AreOfOneMachine start t
same_further start mark s t from to here there fits =
    let at : AreOfOneMachine start (after from mark) = subst (λ (u : State). AreOfOneMachine start u) here fits in
    let back : AreOfOneMachine (after from mark) mark =
    same_sym mark (after from mark) (same_after from mark) in
    subst (λ (u : State). AreOfOneMachine start u) (sym there)
    (same_trans start mark (after to mark) (same_trans start (after from mark) mark at back) (same_after to mark))

-- ---- the marks in use

pub used_mark : (xs : List State) (count n : ℕ) (x m : State) → n < length (take count xs)
    → x ≡ slice_index_or xs n x → x ≡ slice_index_or (take count xs) n m
used_mark [] zero n x m there is = absurd (omega (arith, there))
used_mark [] (suc k) n x m there is = absurd (omega (arith, there))
used_mark (y ∷ xs) zero n x m there is = absurd (omega (arith, there))
used_mark (y ∷ xs) (suc k) zero x m there is = is
used_mark (y ∷ xs) (suc k) (suc n) x m there is = used_mark xs k n x m (omega (arith, there)) is

-- the machine is at a mark
pub at_mark : (old new : MachineModel) (x mark : State) → new ≡ record old { state = x } → x ≡ mark
    → new ≡ record old { state = after 0 mark }
at_mark old new x mark is same =
    is ∙ ap (λ (s : State). record old { state = s }) (same ∙ sym (after_none mark))

-- the first of the marks in use
pub last_mark : (xs : List State) (count : ℕ) (m s : State) → 0 < count → 0 < length xs
    → slice_index_or xs 0 s ≡ slice_index_or (take count xs) 0 m
last_mark [] count m s some any = absurd (omega (arith, any))
last_mark (x ∷ xs) zero m s some any = absurd (omega (arith, some))
last_mark (x ∷ xs) (suc n) m s some any = refl

first_of : (s t : State) (n : ℕ) → 0 < n → slice_index_or (replicate n t) 0 s ≡ t
first_of s t zero some = absurd (omega (arith, some))
first_of s t (suc n) some = refl

pub marked_right : (s t : State) (xs : List State) (n count : ℕ) (cs : Checkpoints) → s ≡ t → xs ≡ replicate n t
    → 0 < n → count ≡ 2 * n → AreRight t t count cs → AreRight s (slice_index_or xs 0 s) (2 * length xs) cs
marked_right s t xs n count cs e is some both h =
    let all : length (replicate n t) ≡ n = length-replicate n t in
    rw (is, first_of s t n some, e, all, ← both) h

-- where the rooms for marks are as many as before, so are those for checkpoints
pub as_many_right : (start m : State) (n k : ℕ) (cs : Checkpoints) → n ≡ k → AreRight start m (2 * k) cs
    → AreRight start m (2 * n) cs
as_many_right start m n k cs same h = rw same h
