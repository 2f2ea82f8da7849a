-- The read of a vector that memory has.
use Rattle.std.proofs.Common.{◌≡◌, ℕ, ◌<◌, true, false, Some, arith, refl}
use Rattle.std.proofs.lemmas.Bool.Decides.{nat_tests}
use Rattle.instruction_set.specs.declared.size.Size.TheVariants.{Word}
use Rattle.platform.specs.declared.access.Kind.TheVariants.{Vector}
use Rattle.platform.specs.declared.access.Rule.TheVariants.{VectorRead}
use Rattle.platform.specs.Map.{is_in_ppb, is_in_window}
use Rattle.platform.specs.Memory.{number_at}
use Rattle.platform.specs.Outcomes.{done}
use Rattle.platform.specs.Rules.{before_regions, decision_of}
use Rattle.platform.specs.Space.{memory_access}
use Rattle.reference.specs.Accesses.{carried_out, perform}
use Rattle.reference.specs.LoadStore.{request}
use Rattle.reference.specs.State.{Bus}

not_window : (a : ℕ) → a < 0x4000_0000 → is_in_window a ≡ false
not_window a below = grind (arith, nat_tests)

not_ppb : (a : ℕ) → a < 0x4000_0000 → is_in_ppb a ≡ false
not_ppb a below = grind (arith, nat_tests)

-- every vector may be read, and memory has it
pub vector_done : (b : Bus) (a vector : ℕ) → a < 0x4000_0000 → number_at b.memory a 4 ≡ Some vector → (exception : ℕ)
    → perform exception b (request Vector true Word a 0)
    ≡ record { after = b; performed = done VectorRead vector }
unfolding perform carried_out memory_access decision_of before_regions
vector_done b a vector below there exception = rw (not_ppb a below, not_window a below, there) refl
