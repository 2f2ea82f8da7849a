-- The accesses of an instruction of unprivileged code.
use Rattle.std.proofs.Common.{◌≡◌, inl, inr, ℕ, ◌%◌, Bool, false, not, ◌&&◌, ◌==◌, if◌then◌else◌, List}
use Rattle.std.proofs.Common.{[], ◌∷◌, refl, arith, Result, Ok, Err}
use Rattle.std.proofs.Common.{eqb-true}
use Rattle.std.proofs.lemmas.Bool.{cond_both, not-false, and_left}
use Rattle.instruction_set.specs.declared.branch.Branch.{Branch}
use Rattle.instruction_set.specs.declared.branch.Branch.TheVariants as branch
use Rattle.instruction_set.specs.declared.instruction.CodedInstruction.{CodedInstruction}
use Rattle.instruction_set.specs.declared.load_store.Exclusive.{Exclusive}
use Rattle.instruction_set.specs.declared.load_store.Exclusive.TheVariants as exclusive
use Rattle.instruction_set.specs.declared.instruction.Instruction.{Instruction}
use Rattle.instruction_set.specs.declared.instruction.Instruction.TheVariants as family
use Rattle.instruction_set.specs.declared.load_store.LoadStore.{LoadStore}
use Rattle.instruction_set.specs.declared.load_store.LoadStore.TheVariants as load_store
use Rattle.instruction_set.specs.declared.load_store.LoadStoreMultiple.{LoadStoreMultiple}
use Rattle.instruction_set.specs.declared.load_store.LoadStoreMultiple.TheVariants as multiple
use Rattle.instruction_set.specs.declared.load_store.LoadForm.{LoadForm}
use Rattle.instruction_set.specs.declared.size.Size.{Size}
use Rattle.instruction_set.specs.declared.size.Size.TheVariants.{Word}
use Rattle.instruction_set.specs.declared.system.Hint.{Hint}
use Rattle.instruction_set.specs.declared.system.Hint.TheVariants as hint
use Rattle.instruction_set.specs.declared.system.System.{System}
use Rattle.instruction_set.specs.declared.system.System.TheVariants as system
use Rattle.instruction_set.specs.DataProcessing.{divides_by_zero}
use Rattle.instruction_set.specs.Registers.{Registers, register, is_privileged}
use Rattle.instruction_set.specs.Sizes.{bytes_in}
use Rattle.instruction_set.specs.Words.{word_sum}
use Rattle.platform.specs.declared.access.Kind.{Kind}
use Rattle.platform.specs.declared.access.Kind.TheVariants.{Load, Store, Probe}
use Rattle.platform.specs.declared.access.Request.{Request}
use Rattle.reference.specs.declared.failure.Failure.{Failure}
use Rattle.reference.specs.declared.failure.Traps.{Traps}
use Rattle.reference.specs.Branches.{branch_requests}
use Rattle.reference.specs.Exclusives.{exclusive_access, exclusive_requests, passes}
use Rattle.reference.specs.LoadStore.{is_aligned, byte_requests, meets_device, unaligned, transfer, load}
use Rattle.reference.specs.LoadStore.{fetch_at, load_store_requests}
use Rattle.reference.specs.LoadStoreMultiple.{word_requests, several, load_store_multiple_requests}
use Rattle.platform.specs.Map.{has_side_effects}
use Rattle.platform.specs.Memory.{bytes_of}
use Rattle.reference.specs.Operations.{is_misplaced, is_carried_out, requests_of, plan}
use Rattle.reference.specs.SystemInstructions.{system_requests}
use Rattle.task_laws.specs.TaskLaw.{IsTaskKind, IsOfTask, AreOfTask, AskOfTask, RequestsLaw}

-- ---- what an access is for

loads : IsTaskKind Load
loads = inr (inl refl)

stores : IsTaskKind Store
stores = inr (inr (inl refl))

probes : IsTaskKind Probe
probes = inr (inr (inr refl))

-- ---- one request

bytes_asked : (kind : Kind) (p : Bool) (address : ℕ) (bytes : List ℕ) → p ≡ false → IsTaskKind kind →
    AreOfTask (byte_requests kind p address bytes)
bytes_asked kind p address [] e k = tt
bytes_asked kind p address (byte ∷ bytes) e k =
    (record { unprivileged = e; kind = k; aligned = omega arith }, bytes_asked kind p (word_sum address 1) bytes e k)

unless_device : (devices : Bool) (requests : List Request) → AreOfTask requests
    → AskOfTask (unaligned devices requests)
unless_device devices requests are = cond_both (meets_device devices requests) _ _ AskOfTask (λ h. tt) (λ h. are)

transfer_asked : (traps : Traps) (kind : Kind) (p : Bool) (size : Size) (address value : ℕ) → p ≡ false →
    IsTaskKind kind → AskOfTask (transfer traps kind p size address value)
unfolding transfer
transfer_asked traps kind p size address value e k =
    cond_both (is_aligned size address) _ _ AskOfTask
    (λ f. (record { unprivileged = e; kind = k; aligned = eqb-true (address % bytes_in size) 0 f }, tt))
    (λ f. cond_both traps.unaligned _ _ AskOfTask (λ g. tt)
    (λ g. unless_device traps.devices _ (bytes_asked kind p address (bytes_of (bytes_in size) value) e k)))

load_asked : (traps : Traps) (form : LoadForm) (t : ℕ) (p : Bool) (address : ℕ) → p ≡ false →
    AskOfTask (load traps form t p address)
unfolding load
load_asked traps form t p address e =
    cond_both (t == 15 && not (is_aligned Word address)) _ _ AskOfTask (λ f. tt)
    (λ f. transfer_asked traps Load p form.size address 0 e loads)

access_asked : (devices : Bool) (kind : Kind) (p : Bool) (size : Size) (address value : ℕ) → p ≡ false →
    IsTaskKind kind → AskOfTask (exclusive_access devices kind p size address value)
unfolding exclusive_access
access_asked devices kind p size address value e k =
    cond_both (not (is_aligned size address)) _ _ AskOfTask (λ f. tt)
    (λ f. cond_both (has_side_effects devices address) _ _ AskOfTask (λ g. tt)
    (λ g. (
      record {
        unprivileged = e;
        kind = k;
        aligned = eqb-true (address % bytes_in size) 0 (not-false (is_aligned size address) f);
      },
      tt,
    )))

-- ---- the instructions

module _ (r : Registers) (t : is_privileged r ≡ false) where
  load_store_asked : (traps : Traps) (i : LoadStore) → AskOfTask (load_store_requests traps i r)
  unfolding load_store_requests
  load_store_asked traps (load_store.LoadImmediate o) =
      load_asked traps o.form o.target _ _ (and_left _ (not o.unprivileged) t)
  load_store_asked traps (load_store.LoadRegister o) = load_asked traps o.form o.target _ _ t
  load_store_asked traps (load_store.LoadLiteral o) = load_asked traps o.form o.target _ _ t
  load_store_asked traps (load_store.StoreImmediate o) =
      transfer_asked traps Store _ o.size _ _ (and_left _ (not o.unprivileged) t)
      stores
  load_store_asked traps (load_store.StoreRegister o) =
      transfer_asked traps Store _ o.size _ _ t stores

  words_asked : (kind : Kind) (address : ℕ) (ns : List ℕ) → IsTaskKind kind → address % 4 ≡ 0 →
      AreOfTask (word_requests kind address ns r)
  unfolding word_requests
  words_asked kind address [] k aligned = tt
  words_asked kind address (n ∷ ns) k aligned = (
    record { unprivileged = t; kind = k; aligned = aligned },
    words_asked kind (word_sum address 4) ns k (omega arith),
  )

  several_asked : (kind : Kind) (ns : List ℕ) (address : ℕ) → IsTaskKind kind → AskOfTask (several kind ns address r)
  unfolding several
  several_asked kind ns address k =
      cond_both (is_aligned Word address) _ _ AskOfTask
      (λ e. words_asked kind address ns k (eqb-true (address % 4) 0 e)) (λ e. tt)

  multiple_asked : (i : LoadStoreMultiple) → AskOfTask (load_store_multiple_requests i r)
  unfolding load_store_multiple_requests
  multiple_asked (multiple.LoadDual o) = several_asked Load _ _ loads
  multiple_asked (multiple.LoadDualLiteral o) =
      cond_both (is_aligned Word (register r 15)) _ _ AskOfTask (λ e. several_asked Load _ _ loads) (λ e. tt)
  multiple_asked (multiple.StoreDual o) = several_asked Store _ _ stores
  multiple_asked (multiple.LoadMultiple o) = several_asked Load _ _ loads
  multiple_asked (multiple.StoreMultiple o) = several_asked Store _ _ stores

  -- ---- exclusives and branches

  exclusive_asked : (devices : Bool) (i : Exclusive) → AskOfTask (exclusive_requests devices i r)
  unfolding exclusive_requests
  exclusive_asked devices (exclusive.Load o) = access_asked devices Load _ o.size _ 0 t loads
  exclusive_asked devices (exclusive.Store o) =
      cond_both (passes o r) _ _ AskOfTask
      (λ e. access_asked devices Store _ o.size _ _ t stores)
      (λ e. access_asked devices Probe _ o.size _ 0 t probes)
  exclusive_asked devices exclusive.Clear = tt

  branch_asked : (traps : Traps) (i : Branch) → AskOfTask (branch_requests traps i r)
  unfolding branch_requests
  branch_asked traps (branch.Table o) = transfer_asked traps Load _ o.size _ 0 t loads
  branch_asked traps i = tt

  -- ---- special registers, hints and calls

  -- a hint has no access; the first line splits the cases, so that one may also stop
  hint_asked : (h : Hint) → AskOfTask (system_requests (system.Hint h))
  hint_asked hint.WaitForInterrupt = tt
  hint_asked it = tt

  either_asked : (b : Bool) (x y : Result (List Request) Failure) → AskOfTask x → AskOfTask y →
      AskOfTask (if b then x else y)
  either_asked b x y one other = cond_both b _ _ AskOfTask (λ e. one) (λ e. other)

  none_asked : AskOfTask (Ok [])
  none_asked = tt

  stop_asked : (why : Failure) → AskOfTask (Err why)
  stop_asked why = tt

  -- no access, or a stop: so a proof by `search asked` holds for any stop
  ruleset asked = (either_asked, none_asked, stop_asked)

  system_asked : (i : System) → AskOfTask (system_requests i)
  system_asked (system.Hint h) = hint_asked h
  system_asked i = search asked

  -- ---- an instruction

  requests_asked : (traps : Traps) (i : Instruction) → AskOfTask (requests_of traps i r)
  unfolding requests_of
  requests_asked traps (family.DataProcessing i) =
      cond_both (traps.divide_by_zero && divides_by_zero i r) _ _ AskOfTask (λ e. tt) (λ e. tt)
  requests_asked traps (family.LoadStore i) = load_store_asked traps i
  requests_asked traps (family.LoadStoreMultiple i) = multiple_asked i
  requests_asked traps (family.Exclusive i) = exclusive_asked traps.devices i
  requests_asked traps (family.Branch i) = branch_asked traps i
  requests_asked traps (family.System i) = system_asked i

  -- what an instruction of a task wants is as unprivileged code makes it
  pub plan_asked : (traps : Traps) (i : CodedInstruction) → AskOfTask (plan traps i r)
  unfolding plan
  plan_asked traps i =
      cond_both (is_misplaced i.place r.it_state) _ _ AskOfTask (λ e. tt)
      (λ e. cond_both (is_carried_out i.instruction r) _ _ AskOfTask (λ f. requests_asked traps i.instruction)
      (λ f. tt))

  -- a fetch of unprivileged code
  pub fetch_of : (address : ℕ) → address % 2 ≡ 0 → IsOfTask (fetch_at address (is_privileged r))
  fetch_of address even = record { unprivileged = t; kind = inl refl; aligned = even }

pub requests_law : (r : Registers) → RequestsLaw r
requests_law r t = (λ traps i. plan_asked r t traps i, λ address even. fetch_of r t address even)
