-- What the entry phase needs: a candidate. Each fault is of an exception of the board, and accesses that are neither
-- loads nor stores, as pushes and reads of vectors, leave the System Control Space.
use Rattle.std.proofs.Common.{◌≡◌, ℕ, ◌<◌, true, false, ◌||◌, is_some, Option, Some, None, refl, arith}
use Rattle.std.proofs.lemmas.Bool.{cond_both}
use Rattle.platform.specs.declared.access.Cause.{Cause}
use Rattle.platform.specs.declared.access.Cause.TheVariants as cause
use Rattle.platform.specs.declared.access.Kind.{Kind}
use Rattle.platform.specs.declared.access.Kind.TheVariants.{Fetch, Load, Store, Push, Pop, Vector, Probe}
use Rattle.platform.specs.declared.access.Request.{Request}
use Rattle.platform.specs.declared.access.Rule.{Rule}
use Rattle.platform.specs.declared.exception.TheConstants.{EXCEPTIONS}
use Rattle.reference.specs.declared.failure.UsageFault.{UsageFault}
use Rattle.reference.specs.declared.failure.UsageFault.TheVariants.{UndefinedInstruction, InvalidState, InvalidReturn}
use Rattle.reference.specs.declared.failure.UsageFault.TheVariants.{NoCoprocessor, Unaligned, DivideByZero}
use Rattle.platform.specs.declared.fault_status.FaultEffect.{FaultEffect}
use Rattle.reference.specs.Accesses.{is_to_device, carried_out, decision, perform}
use Rattle.reference.specs.Faults.{access_fault, usage_fault_of}
use Rattle.platform.specs.Kinds.{is_load, is_probe, is_store}
use Rattle.platform.specs.Map.{is_in_ppb}
use Rattle.platform.specs.Outcomes.{Outcome}
use Rattle.platform.specs.Priorities.{is_exception}
use Rattle.reference.specs.State.{State, Bus}
use Rattle.platform.specs.System.{System, system_access}
use Rattle.state_laws.proofs.Candidates.{Calls}

-- an entry phase has a candidate, unless the machine has stopped
abbrev pub IsCalled : State → Type 0
IsCalled s = s.stop ≡ None → is_some s.entry ≡ true → Calls s.bus.system.nvic

pub none : {A : Type 0} (P : Type 0) (o : Option A) → o ≡ None → is_some o ≡ true → P
none P None e f = absurd (let w : ⊥ = cc in w)
none P (Some x) e f = absurd (let w : ⊥ = cc in w)

pub some_none : {A : Type 0} (P : Type 0) (x : A) → Some x ≡ None → P
some_none P x e = absurd (let w : ⊥ = cc in w)

-- ---- faults

pub record IsFault (f : FaultEffect) : Type 0 where
  pub small : f.exception < EXCEPTIONS
  pub exists : (interrupts : ℕ) → is_exception interrupts f.exception ≡ true

pub access_is : (kind : Kind) (cause : Cause) (address : ℕ) → IsFault (access_fault kind cause address)
access_is Fetch cause.Mpu address = record { small = omega arith; exists = λ interrupts. refl }
access_is Load cause.Mpu address = record { small = omega arith; exists = λ interrupts. refl }
access_is Store cause.Mpu address = record { small = omega arith; exists = λ interrupts. refl }
access_is Push cause.Mpu address = record { small = omega arith; exists = λ interrupts. refl }
access_is Pop cause.Mpu address = record { small = omega arith; exists = λ interrupts. refl }
access_is Vector cause.Mpu address = record { small = omega arith; exists = λ interrupts. refl }
access_is Probe cause.Mpu address = record { small = omega arith; exists = λ interrupts. refl }
access_is Fetch cause.Bus address = record { small = omega arith; exists = λ interrupts. refl }
access_is Load cause.Bus address = record { small = omega arith; exists = λ interrupts. refl }
access_is Store cause.Bus address = record { small = omega arith; exists = λ interrupts. refl }
access_is Push cause.Bus address = record { small = omega arith; exists = λ interrupts. refl }
access_is Pop cause.Bus address = record { small = omega arith; exists = λ interrupts. refl }
access_is Vector cause.Bus address = record { small = omega arith; exists = λ interrupts. refl }
access_is Probe cause.Bus address = record { small = omega arith; exists = λ interrupts. refl }

pub usage_is : (fault : UsageFault) → IsFault (usage_fault_of fault)
usage_is UndefinedInstruction = record { small = omega arith; exists = λ interrupts. refl }
usage_is InvalidState = record { small = omega arith; exists = λ interrupts. refl }
usage_is InvalidReturn = record { small = omega arith; exists = λ interrupts. refl }
usage_is NoCoprocessor = record { small = omega arith; exists = λ interrupts. refl }
usage_is Unaligned = record { small = omega arith; exists = λ interrupts. refl }
usage_is DivideByZero = record { small = omega arith; exists = λ interrupts. refl }

-- ---- an access that is neither a load nor a store leaves the System Control Space

abbrev IsApart : Request → Type 0
IsApart q = (is_load q.access.kind || is_store q.access.kind) ≡ false

-- an access leaves the System Control Space as it was
abbrev LeavesSystem : System → Outcome Bus → Type 0
LeavesSystem s o = o.after.system ≡ s

system_leaves : (x : ℕ) (s : System) (rule : Rule) (q : Request) → IsApart q → (system_access x s rule q).after ≡ s
unfolding system_access
system_leaves x s rule q apart = rw apart refl

carried_leaves : (x : ℕ) (b : Bus) (rule : Rule) (q : Request) → IsApart q →
    LeavesSystem b.system (carried_out x b rule q)
unfolding carried_out
carried_leaves x b rule q apart =
    cond_both (is_probe q.access.kind) _ _ (LeavesSystem b.system) (λ e. refl)
    (λ e. cond_both (is_in_ppb q.access.address) _ _ (LeavesSystem b.system)
    (λ f. system_leaves x b.system rule q apart)
    (λ f. cond_both (is_to_device b q.access) _ _ (LeavesSystem b.system) (λ g. absurd cc (rw apart at g)) (λ g. refl)))

pub perform_leaves : (x : ℕ) (b : Bus) (q : Request) → IsApart q → LeavesSystem b.system (perform x b q)
unfolding perform
perform_leaves x b q apart =
    cond_both (decision b q).granted _ _ (LeavesSystem b.system)
    (λ e. carried_leaves x b (decision b q).rule q apart) (λ e. refl)
