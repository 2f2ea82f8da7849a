-- The words of a frame, pushed in one state and popped in another.
use Rattle.std.proofs.Common.{◌≡◌, inl, ℕ, ◌+◌, ◌*◌, ◌%◌, ◌^◌, ◌<◌, ◌≤◌, Bool, List, [], ◌∷◌, length, None, Result, Ok}
use Rattle.std.proofs.Common.{Err, refl, sym, ◌∙◌, ap, subst, arith}
use Rattle.std.specs.Prelude.{⊤}
use Rattle.instruction_set.specs.Words.{word_sum}
use Rattle.platform.specs.declared.access.Kind.TheVariants.{Push, Pop}
use Rattle.platform.specs.declared.event.Event.{Event}
use Rattle.reference.specs.declared.failure.Failure.{Failure}
use Rattle.reference.specs.Accesses.{ListResult, perform, followed, perform_all}
use Rattle.reference.specs.ExceptionEntry.{words_from}
use Rattle.platform.specs.Memory.{Memory, byte_at, bytes_of}
use Rattle.reference.specs.State.{Bus}
use Rattle.platform.specs.SystemInvariant.{IsLaidOut}
use Rattle.step_laws.specs.FrameLaw.{KeepsFrame}
use Rattle.physical_memory.proofs.Blocks.{overwritten_keeps, overwritten_laid_out}
use Rattle.physical_memory.proofs.Places.{ends_low, in_place, writable_is_there}
use Rattle.step_laws.proofs.Stored.{IsWord, word_written, word_read}
use Rattle.step_laws.proofs.Pushed.{IsPushed, push_of, push_done, pop_of, pop_done}

-- an access that was carried out, and the others after it
record WentOn (value : Result ℕ Failure) (rest all : ListResult) : Type 0 where
  first : ℕ
  is : value ≡ Ok first
  none : rest.failure ≡ None
  bus : all.bus ≡ rest.bus
  values : all.values ≡ first ∷ rest.values

went_on : (events : List Event) (after : Bus) (value : Result ℕ Failure) (rest : ListResult) →
    (followed events after value rest).failure ≡ None → WentOn value rest (followed events after value rest)
went_on events after (Ok first) rest none = record { first = first; is = refl; none = none; bus = refl; values = refl }
went_on events after (Err why) rest none = absurd cc

-- words that follow one another upward from an address
abbrev pub HoldsWords : Memory → ℕ → List ℕ → Type 0
HoldsWords m a [] = ⊤
HoldsWords m a (v ∷ vs) = IsWord m a v × HoldsWords m (word_sum a 4) vs

-- ---- pushes

-- words that are pushed from an address upward
abbrev pub pushed : ℕ → ℕ → Bool → Bus → ℕ → List ℕ → ListResult
pushed exception tick privileged b a vs = perform_all exception tick b (words_from Push privileged a vs)

-- no memory is above 0xA0000000
ends_below : (m : Memory) (a v : ℕ) (next : Memory) → IsLaidOut m → IsPushed m a v next → a + 4 ≤ 0xA000_0000
ends_below m a v next laid one =
    ends_low a 4 (in_place m a 4 laid (writable_is_there m a 4 one.there) (omega arith))

-- what pushes leave
pub record AreThere (old : Memory) (a : ℕ) (vs : List ℕ) (new : Memory) : Type 0 where
  pub apart : IsLaidOut new
  pub words : HoldsWords new a vs
  pub below : (x : ℕ) → x < a → byte_at new x ≡ byte_at old x

-- the others leave what is below the next word
others_keep : (exception tick : ℕ) (privileged : Bool) (b : Bus) (a : ℕ) (vs : List ℕ) → a + 4 ≤ 0xA000_0000 →
    AreThere b.memory (word_sum a 4) vs (pushed exception tick privileged b (word_sum a 4) vs).bus.memory →
    (x : ℕ) → x < a + 4 →
    byte_at (pushed exception tick privileged b (word_sum a 4) vs).bus.memory x ≡ byte_at b.memory x
unfolding perform_all
others_keep exception tick privileged b a [] low rest x below = refl
others_keep exception tick privileged b a (w ∷ ws) low rest x below = rest.below x (omega (arith, low))

one_pushed : (old next new : Memory) (a v : ℕ) (vs : List ℕ) → IsLaidOut old → IsPushed old a v next →
    ((x : ℕ) → x < a + 4 → byte_at new x ≡ byte_at next x) → AreThere next (word_sum a 4) vs new →
    AreThere old a (v ∷ vs) new
one_pushed old next new a v vs apart pushed kept rest = record {
  apart = rest.apart;
  words =
      let first : IsWord new a v =
      λ k below. kept (a + k) (omega arith) ∙ ap (λ (m : Memory). byte_at m (a + k)) pushed.is
      ∙ word_written old a v apart (writable_is_there old a 4 pushed.there) k below in
      (first, rest.words);
  below =
      λ x under. kept x (omega arith) ∙ ap (λ (m : Memory). byte_at m x) pushed.is
      ∙ overwritten_keeps old a x (bytes_of 4 v) (inl under);
}

pub words_pushed : (exception tick : ℕ) (privileged : Bool) (b : Bus) (a : ℕ) (vs : List ℕ) →
    IsLaidOut b.memory →
    a % 4 ≡ 0 → a < 2 ^ 32 →
    (pushed exception tick privileged b a vs).failure ≡ None →
    AreThere b.memory a vs (pushed exception tick privileged b a vs).bus.memory
unfolding perform_all
words_pushed exception tick privileged b a [] apart aligned low none =
    record { apart = apart; words = tt; below = λ x under. refl }
words_pushed exception tick privileged b a (v ∷ vs) apart aligned low none =
    let on = went_on _ _ _ _ none in
    let one = push_done exception b privileged a v on.first on.is in
    let next = (perform exception b (push_of privileged a v)).after in
    let apart_next : IsLaidOut next.memory = rw one.is (overwritten_laid_out b.memory a (bytes_of 4 v) apart) in
    let rest =
    words_pushed exception tick privileged next (word_sum a 4) vs apart_next (omega arith) (omega arith) on.none in
    let kept = others_keep exception tick privileged next a vs (ends_below b.memory a v next.memory apart one) rest in
    rw on.bus (one_pushed b.memory next.memory _ a v vs apart one kept rest)

-- ---- pops

-- words, of 32 bits
abbrev pub AreWords : List ℕ → Type 0
AreWords [] = ⊤
AreWords (v ∷ vs) = (v < 2 ^ 32) × AreWords vs

-- what a pop asks for
abbrev pub zeros : List ℕ → List ℕ
zeros [] = []
zeros (v ∷ vs) = 0 ∷ zeros vs

both : {x v : ℕ} {xs vs : List ℕ} → x ≡ v → xs ≡ vs → x ∷ xs ≡ v ∷ vs
both first rest = cc

pub words_popped : (exception tick : ℕ) (privileged : Bool) (b : Bus) (a : ℕ) (vs : List ℕ) →
    IsLaidOut b.memory →
    HoldsWords b.memory a vs → AreWords vs →
    (perform_all exception tick b (words_from Pop privileged a (zeros vs))).failure ≡ None →
    (perform_all exception tick b (words_from Pop privileged a (zeros vs))).values ≡ vs
unfolding perform_all
words_popped exception tick privileged b a [] apart holds small none = refl
words_popped exception tick privileged b a (v ∷ vs) apart holds small none =
    let on = went_on _ _ _ _ none in
    let one = pop_done exception b privileged a on.first on.is in
    let next = (perform exception b (pop_of privileged a)).after in
    let apart_next : IsLaidOut next.memory = rw one.same apart in
    let holds_next : HoldsWords next.memory (word_sum a 4) vs =
    subst (λ (m : Memory). HoldsWords m (word_sum a 4) vs) (sym one.same) holds.1 in
    let first = word_read b.memory a on.first v apart one.number holds.0 small.0 in
    let rest = words_popped exception tick privileged next (word_sum a 4) vs apart_next holds_next small.1 on.none in
    on.values ∙ both first rest

-- ---- between them

-- the word of number i stays
word_stays : (old new : Memory) (base i a v : ℕ) → base % 4 ≡ 0 → a ≡ word_sum base (4 * i) → 4 * i + 4 ≤ 32 →
    KeepsFrame old new base → IsWord old a v → IsWord new a v
word_stays old new base i a v aligned place inside keeps word k below =
    let at : word_sum base (4 * i + k) ≡ a + k = omega arith in
    ap (byte_at new) (sym at) ∙ keeps (4 * i + k) (omega arith) ∙ ap (byte_at old) at ∙ word k below

words_stay : (old new : Memory) (base i a : ℕ) (vs : List ℕ) → base % 4 ≡ 0 → a ≡ word_sum base (4 * i) →
    4 * i + 4 * length vs ≤ 32 → KeepsFrame old new base → HoldsWords old a vs → HoldsWords new a vs
words_stay old new base i a [] aligned place inside keeps holds = tt
words_stay old new base i a (v ∷ vs) aligned place inside keeps holds =
    let first = word_stays old new base i a v aligned place (omega arith) keeps holds.0 in
    let rest = words_stay old new base (i + 1) (word_sum a 4) vs aligned (omega arith) (omega arith) keeps holds.1 in
    (first, rest)

-- the words of a frame stay where its bytes do
pub frame_stays : (old new : Memory) (base : ℕ) (vs : List ℕ) → base % 4 ≡ 0 → base < 2 ^ 32 → length vs ≤ 8 →
    KeepsFrame old new base → HoldsWords old base vs → HoldsWords new base vs
frame_stays old new base vs aligned low few keeps holds =
    words_stay old new base 0 base vs aligned (omega arith) (omega arith) keeps holds
