-- Memory changes only where a store or a push of the step covers it: one access does so, and no other change of the bus
-- touches memory.
use Rattle.std.proofs.Common.{◌≡◌, inl, inr, ℕ, ◌+◌, nat_le, nat_lt, Bool, true, false, not, ◌&&◌, ◌||◌}
use Rattle.std.proofs.Common.{[], ◌∷◌, length, refl, arith}
use Rattle.std.proofs.lemmas.Bool.{cond_both}
use Rattle.std.proofs.lemmas.Bool.Decides.{nat_tests}
use Rattle.instruction_set.specs.Sizes.{bytes_in}
use Rattle.platform.specs.declared.access.Cause.TheVariants.{Mpu}
use Rattle.platform.specs.declared.access.Performed.{Performed}
use Rattle.platform.specs.declared.access.Performed.TheVariants.{Denied}
use Rattle.platform.specs.declared.access.Request.{Request}
use Rattle.platform.specs.declared.access.Rule.{Rule}
use Rattle.reference.specs.Accesses.{is_to_device, access_lines, carried_out, decision, perform}
use Rattle.platform.specs.Kinds.{is_probe, is_write}
use Rattle.platform.specs.Map.{is_in_ppb, is_in_window}
use Rattle.platform.specs.Memory.{Memory, is_writable_at, bytes_of, overwritten}
use Rattle.platform.specs.Outcomes.{Outcome, bus_error, done, unchanged, within}
use Rattle.platform.specs.Space.{read_from, memory_access, written_to, written_to_window}
use Rattle.platform.specs.System.{device_access, system_access}
use Rattle.reference.specs.State.{Bus, State}
use Rattle.reference.specs.Step.{step}
use Rattle.step_laws.specs.AccessLaw.{are_covering, OnlyCovered}
use Rattle.physical_memory.proofs.Blocks.{IsOutside, agree_where, is_outside, is_outside_of, overwritten_agrees}
use Rattle.physical_memory.proofs.Bytes.{length-bytes_of}
use Rattle.step_laws.proofs.BusRules.{BusRules, bus_keeps}
use Rattle.step_laws.proofs.Lines.{covered-append, covered-more, covered-same, is_false}

-- ---- the bytes of one access

-- an address that a write doesn't cover lies outside it
outside : (a n x : ℕ) (b : Bool) → ((nat_le a x && nat_lt x (a + n)) || b) ≡ false → IsOutside a n x
outside a n x b e = split (nat_le a x) (nat_lt x (a + n)) refl refl
  where
    split : (low high : Bool) → nat_le a x ≡ low → nat_lt x (a + n) ≡ high → IsOutside a n x
    split true true l h = absurd (cc)
    split true false l h = inr (grind (arith, nat_tests, h))
    split false high l h = inl (grind (arith, nat_tests, l))

-- memory after an access changes only where its lines cover it
abbrev Writes : ℕ → Request → Memory → Outcome Memory → Type 0
Writes tick q m o = OnlyCovered m o.after (access_lines tick q o.performed)

stored : (tick : ℕ) (q : Request) (m : Memory) (rule : Rule) → is_write q.access.kind ≡ true →
    Writes tick q m (record {
      after = overwritten m q.access.address (bytes_of (bytes_in q.access.size) q.value);
      performed = done rule 0;
    })
stored tick q m rule writing =
    let long = length-bytes_of (bytes_in q.access.size) q.value in
    let bytes = bytes_of (bytes_in q.access.size) q.value in
    let apart : (x : ℕ) → not (are_covering (access_lines tick q (done rule 0)) x) ≡ true →
    is_outside q.access.address (length bytes) x ≡ true =
    λ x e. rw long
    (is_outside_of q.access.address (bytes_in q.access.size) x
    (outside q.access.address (bytes_in q.access.size) x _ (rw writing at (is_false _ e)))) in
    agree_where _ _ apart m (overwritten m q.access.address bytes) (overwritten_agrees m q.access.address bytes)

-- likewise after one that leaves memory
left : (tick : ℕ) (q : Request) (m : Memory) (performed : Performed) → Writes tick q m (unchanged m performed)
left tick q m performed = covered-same m (access_lines tick q performed)

writing_writes : (tick : ℕ) (q : Request) (m : Memory) (rule : Rule) → is_write q.access.kind ≡ true →
    Writes tick q m (written_to m rule q)
writing_writes tick q m rule writing =
    cond_both (is_in_window q.access.address) _ _ (Writes tick q m) (λ e. left tick q m (written_to_window rule q))
    (λ away. cond_both (is_writable_at m q.access.address (bytes_in q.access.size)) _ _ (Writes tick q m)
    (λ e. stored tick q m rule writing) (λ e. left tick q m (bus_error rule)))

space_writes : (tick ticks : ℕ) (q : Request) (m : Memory) (rule : Rule) →
    Writes tick q m (memory_access m ticks rule q)
unfolding memory_access
space_writes tick ticks q m rule =
    cond_both (is_write q.access.kind) _ _ (Writes tick q m) (writing_writes tick q m rule)
    (λ e. left tick q m (read_from m ticks rule q))

-- likewise after an access of the bus
abbrev BusWrites : ℕ → Request → Bus → Outcome Bus → Type 0
BusWrites tick q b o = Writes tick q b.memory (within (λ (a : Bus). a.memory) o)

carried_writes : (exception tick : ℕ) (b : Bus) (q : Request) (rule : Rule) →
    BusWrites tick q b (carried_out exception b rule q)
unfolding carried_out
carried_writes exception tick b q rule =
    cond_both (is_probe q.access.kind) _ _ (BusWrites tick q b) (λ e. left tick q b.memory (done rule 0))
    (λ asked. cond_both (is_in_ppb q.access.address) _ _ (BusWrites tick q b)
    (λ e. left tick q b.memory (system_access exception b.system rule q).performed)
    (λ beside. cond_both (is_to_device b q.access) _ _ (BusWrites tick q b)
    (λ e. left tick q b.memory (device_access b.system rule q).performed)
    (λ e. space_writes tick b.system.time.ticks q b.memory rule)))

-- one access
pub perform_writes : (exception tick : ℕ) (b : Bus) (q : Request) → BusWrites tick q b (perform exception b q)
unfolding perform
perform_writes exception tick b q =
    cond_both (decision b q).granted _ _ (BusWrites tick q b)
    (λ e. carried_writes exception tick b q (decision b q).rule)
    (λ e. left tick q b.memory (Denied (decision b q).rule Mpu))

-- ---- the step

covered_rules : (old : Memory) → BusRules (λ b events. OnlyCovered old b.memory events)
covered_rules old = record {
  access = λ x tick b events q only.
      covered-append old b.memory (perform x b q).after.memory events _ only (perform_writes x tick b q);
  nvic = λ b events n only. only;
  status = λ b events st only. only;
  line = λ b events e other only. covered-more old b.memory events (e ∷ []) only;
}

pub step_covered : (s : State) → OnlyCovered s.bus.memory (step s).state.bus.memory (step s).events
step_covered s =
    let same = covered-same s.bus.memory [] in bus_keeps (covered_rules s.bus.memory) s same same
