-- The exclusive loads and stores and CLREX, with the local monitor of `Monitor` (ARM DDI 0403, "Synchronization and
-- semaphores"). A store that fails is decided as a store is (profile).
use Rattle.std.specs.Prelude.{ℕ, Bool, not, if◌then◌else◌, List, [], ◌∷◌, Result, Ok, Err}
use Rattle.instruction_set.specs.declared.load_store.Exclusive.{Exclusive}
use Rattle.instruction_set.specs.declared.load_store.Exclusive.TheVariants.{Load, Store, Clear}
use Rattle.instruction_set.specs.declared.instruction.InstructionLength.{InstructionLength}
use Rattle.instruction_set.specs.declared.load_store.StoreExclusive.{StoreExclusive}
use Rattle.instruction_set.specs.declared.size.Size.{Size}
use Rattle.instruction_set.specs.Monitor.{is_marked, with_mark, without_mark}
use Rattle.instruction_set.specs.Registers.{Registers, register, with_register, is_privileged}
use Rattle.instruction_set.specs.Words.{word_sum}
use Rattle.platform.specs.declared.access.Kind.{Kind}
use Rattle.platform.specs.declared.access.Kind.TheVariants as kind
use Rattle.platform.specs.declared.access.Request.{Request}
use Rattle.reference.specs.declared.failure.Failure.{Failure}
use Rattle.reference.specs.declared.failure.Failure.TheVariants.{Usage, Stop}
use Rattle.reference.specs.declared.failure.UsageFault.TheVariants.{Unaligned}
use Rattle.platform.specs.declared.stop.Unsupported.TheVariants.{ExclusiveDevice}
use Rattle.platform.specs.declared.stop.Stop.TheVariants.{OutOfProfile}
use Rattle.reference.specs.LoadStore.{is_aligned, joined, request}
use Rattle.platform.specs.Map.{has_side_effects}
use Rattle.reference.specs.ProgramCounter.{Finished, advances}

-- ---- accesses

-- the address: R[n] + imm32
abbrev pub exclusive_address : ℕ → ℕ → Registers → ℕ
exclusive_address base offset r = word_sum (register r base) offset

-- an unaligned access is UsageFault UNALIGNED whatever CCR says; an aligned one to where an access can have a side
-- effect stops (profile)
unfoldable pub exclusive_access : Bool → Kind → Bool → Size → ℕ → ℕ → Result (List Request) Failure
exclusive_access devices kind privileged size address value =
    if not (is_aligned size address) then Err (Usage Unaligned)
    else if has_side_effects devices address then Err (Stop (OutOfProfile ExclusiveDevice))
    else Ok (request kind privileged size address value ∷ [])

-- whether a store exclusive passes
abbrev pub passes : StoreExclusive → Registers → Bool
passes o r = is_marked r (exclusive_address o.base o.offset r) o.size

-- a store that passes stores R[t]; one that fails makes a probe: decided as a store, it writes nothing
abbrev pub store_requests : Bool → StoreExclusive → Registers → Result (List Request) Failure
store_requests devices o r =
    if passes o r
    then exclusive_access devices kind.Store (is_privileged r) o.size (exclusive_address o.base o.offset r)
    (register r o.target)
    else exclusive_access devices kind.Probe (is_privileged r) o.size (exclusive_address o.base o.offset r) 0

-- ---- the family

-- the access of an exclusive; `devices`: whether the board describes devices
unfoldable pub exclusive_requests : Bool → Exclusive → Registers → Result (List Request) Failure
exclusive_requests devices (Load o) r =
    exclusive_access devices kind.Load (is_privileged r) o.size (exclusive_address o.base o.offset r) 0
exclusive_requests devices (Store o) r = store_requests devices o r
exclusive_requests devices Clear r = Ok []

-- the status that a store writes to R[d]: 0 where it passed, and 1 where it failed
abbrev pub store_status : Bool → ℕ
store_status passed = if passed then 0 else 1

-- what such an instruction does with the values read
unfoldable pub exclusive_effect : InstructionLength → Exclusive → Registers → List ℕ → Finished
exclusive_effect length (Load o) r values =
    advances length (with_register (with_mark r (exclusive_address o.base o.offset r) o.size) o.target (joined values))
exclusive_effect length (Store o) r values =
    advances length (with_register (without_mark r) o.status (store_status (passes o r)))
exclusive_effect length Clear r values = advances length (without_mark r)
