-- Words that are pushed and popped, one after another.
use Rattle.std.proofs.Common.{◌≡◌, ℕ, Bool, true, false, if◌then◌else◌, Option, Some, None, Ok, refl}
use Rattle.std.proofs.lemmas.Bool.{cond_both}
use Rattle.instruction_set.specs.declared.size.Size.TheVariants.{Word}
use Rattle.platform.specs.declared.access.Kind.TheVariants.{Push, Pop}
use Rattle.platform.specs.declared.access.Request.{Request}
use Rattle.platform.specs.declared.access.Rule.{Rule}
use Rattle.reference.specs.Accesses.{carried_out, decision, perform, value_of}
use Rattle.reference.specs.LoadStore.{request}
use Rattle.platform.specs.Map.{is_in_ppb, is_in_window}
use Rattle.platform.specs.Memory.{Memory, is_writable_at, number_at, bytes_of, overwritten}
use Rattle.platform.specs.Outcomes.{Outcome, bus_error, within}
use Rattle.platform.specs.Space.{number_read, memory_access}
use Rattle.reference.specs.State.{Bus}
use Rattle.platform.specs.System.{system_access}

-- ---- one push

abbrev pub push_of : Bool → ℕ → ℕ → Request
push_of privileged a v = request Push privileged Word a v

-- a word was written to memory
pub record IsPushed (old : Memory) (a v : ℕ) (new : Memory) : Type 0 where
  pub there : is_writable_at old a 4 ≡ true
  pub is : new ≡ overwritten old a (bytes_of 4 v)

-- where a push was carried out, the word was written
abbrev IfWritten : Bool → ℕ → ℕ → Memory → Outcome Memory → Type 0
IfWritten privileged a v m o =
    (x : ℕ) → value_of (push_of privileged a v) o.performed ≡ Ok x → IsPushed m a v o.after

-- likewise of a push by the bus
abbrev IfPushed : Bool → ℕ → ℕ → Bus → Outcome Bus → Type 0
IfPushed privileged a v b o = IfWritten privileged a v b.memory (within (λ (c : Bus). c.memory) o)

carried_push : (exception : ℕ) (b : Bus) (privileged : Bool) (a v : ℕ) (rule : Rule) →
    IfPushed privileged a v b (carried_out exception b rule (push_of privileged a v))
unfolding carried_out system_access memory_access
carried_push exception b privileged a v rule =
    cond_both (is_in_ppb a) _ _ (IfPushed privileged a v b) (λ e x done. absurd cc)
    (λ beside. cond_both (is_in_window a) _ _ (IfWritten privileged a v b.memory) (λ e x done. absurd cc)
    (λ away. cond_both (is_writable_at b.memory a 4) _ _ (IfWritten privileged a v b.memory)
    (λ there x done. record { there = there; is = refl }) (λ e x done. absurd cc)))

pub push_done : (exception : ℕ) (b : Bus) (privileged : Bool) (a v : ℕ) →
    IfPushed privileged a v b (perform exception b (push_of privileged a v))
unfolding perform
push_done exception b privileged a v =
    cond_both (decision b (push_of privileged a v)).granted _ _ (IfPushed privileged a v b)
    (λ e. carried_push exception b privileged a v (decision b (push_of privileged a v)).rule)
    (λ e x done. absurd cc)

-- ---- one pop

abbrev pub pop_of : Bool → ℕ → Request
pop_of privileged a = request Pop privileged Word a 0

-- a word was read from memory, which stays
pub record IsPopped (old : Memory) (a x : ℕ) (new : Memory) : Type 0 where
  pub number : number_at old a 4 ≡ Some x
  pub same : new ≡ old

-- where a pop was carried out, the word was read
abbrev IfPopped : Bool → ℕ → Bus → Outcome Bus → Type 0
IfPopped privileged a b o =
    (x : ℕ) → value_of (pop_of privileged a) o.performed ≡ Ok x → IsPopped b.memory a x o.after.memory

number_popped : (privileged : Bool) (a x : ℕ) (rule : Rule) (number : Option ℕ) →
    value_of (pop_of privileged a) (number_read rule number) ≡ Ok x → number ≡ Some x
number_popped privileged a x rule None done = absurd cc
number_popped privileged a x rule (Some value) done = cc

carried_pop : (exception : ℕ) (b : Bus) (privileged : Bool) (a : ℕ) (rule : Rule) →
    IfPopped privileged a b (carried_out exception b rule (pop_of privileged a))
unfolding carried_out system_access memory_access
carried_pop exception b privileged a rule =
    cond_both (is_in_ppb a) _ _ (IfPopped privileged a b) (λ e x done. absurd cc)
    (λ beside x done. record { number = from_memory (is_in_window a) x done; same = refl })
  where
    from_memory : (window : Bool) (x : ℕ) →
        value_of (pop_of privileged a)
        (if window then bus_error rule else number_read rule (number_at b.memory a 4)) ≡ Ok x →
        number_at b.memory a 4 ≡ Some x
    from_memory true x done = absurd cc
    from_memory false x done = number_popped privileged a x rule _ done

pub pop_done : (exception : ℕ) (b : Bus) (privileged : Bool) (a : ℕ) →
    IfPopped privileged a b (perform exception b (pop_of privileged a))
unfolding perform
pop_done exception b privileged a =
    cond_both (decision b (pop_of privileged a)).granted _ _ (IfPopped privileged a b)
    (λ e. carried_pop exception b privileged a (decision b (pop_of privileged a)).rule)
    (λ e x done. absurd cc)
