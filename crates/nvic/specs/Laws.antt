-- What the laws of priorities say, as facts about all exceptions at once. The definitions that they are about are in
-- the crate `platform`.
use Rattle.std.specs.Prelude.{◌≡◌, ℕ, ◌<◌, ◌≤◌, ◌⊎◌, true, ◌&&◌, ◌||◌, List, length, slice_index, Option, Some}
use Rattle.std.specs.Prelude.{None}
use Rattle.platform.specs.declared.exception.TheConstants.{EXCEPTIONS}
use Rattle.platform.specs.SystemInvariant.{HasExceptionsOfBoard}
use Rattle.platform.specs.Priorities.{Nvic, is_exception, implemented_bits, is_in, is_in_words, is_ready, priority_of}
use Rattle.platform.specs.Priorities.{group_priority, execution_priority, hard_fault_priority, of_byte, grouped}
use Rattle.platform.specs.Priorities.{lowest}

-- exception x is pending and enabled
pub record IsPendingAndEnabled (n : Nvic) (x : ℕ) : Type 0 where
  pub in_range : x < EXCEPTIONS
  pub ready : is_ready n x ≡ true

-- x has a lower priority number than y, or the same one and doesn't follow y in the order of exception numbers
abbrev pub ComesFirst : Nvic → ℕ → ℕ → Type 0
ComesFirst n x y = (priority_of n x < priority_of n y) ⊎ ((priority_of n x ≡ priority_of n y) × (x ≤ y))

-- the best exception comes before each other one that is pending and enabled
abbrev pub IsBest : Nvic → Option ℕ → Type 0
IsBest n (Some x) = IsPendingAndEnabled n x × ((y : ℕ) → IsPendingAndEnabled n y → ComesFirst n x y)
IsBest n None = (y : ℕ) → IsPendingAndEnabled n y → ⊥

-- the candidate is the best, and preempts; where there is none, no exception at all that is pending and enabled does
abbrev pub IsCandidate : Nvic → Option ℕ → Type 0
IsCandidate n (Some x) = IsBest n (Some x) × (group_priority n x < execution_priority n)
IsCandidate n None = (y : ℕ) → IsPendingAndEnabled n y → execution_priority n ≤ group_priority n y

-- the priorities of which the execution priority is the highest: the lowest, always; the group priority of each active
-- exception; BASEPRI's group where BASEPRI isn't 0; 0 under PRIMASK; -1 under FAULTMASK
pub data LimitsExecution (n : Nvic) (p : ℕ) : Type 0 where
  nothing : p ≡ lowest → LimitsExecution n p
  handler : (x : ℕ) → x < EXCEPTIONS → is_in n.active x ≡ true → p ≡ group_priority n x → LimitsExecution n p
  basepri : (n.masks.basepri ≡ 0 → ⊥) → p ≡ of_byte (grouped n.group n.masks.basepri) → LimitsExecution n p
  primask : n.masks.primask ≡ true → p ≡ of_byte 0 → LimitsExecution n p
  faultmask : n.masks.faultmask ≡ true → p ≡ hard_fault_priority → LimitsExecution n p

-- the least of them
pub record IsLeast (n : Nvic) (p : ℕ) : Type 0 where
  pub holds : LimitsExecution n p
  pub least : (q : ℕ) → LimitsExecution n q → p ≤ q

-- there's a byte for each number, and each has only bits that the board keeps
pub record ArePriorityBytes (bits : ℕ) (bytes : List ℕ) : Type 0 where
  pub places : length bytes ≡ EXCEPTIONS
  pub keep : (x : ℕ) → implemented_bits bits (slice_index bytes x) ≡ slice_index bytes x

-- what is always so: the sets hold exceptions of the board only, and the priority bytes and BASEPRI have only bits that
-- the board keeps
pub record FitsBoard (n : Nvic) : Type 0 where
  pub sets : HasExceptionsOfBoard n
  pub priorities : ArePriorityBytes n.priority_bits n.priorities
  pub basepri : implemented_bits n.priority_bits n.masks.basepri ≡ n.masks.basepri
  pub group : n.group < 8

-- pending now: what was pending, and the exceptions of the board that are due; nothing else has changed
pub record AddsDue (n : Nvic) (due : List ℕ) (m : Nvic) : Type 0 where
  pub pending : (x : ℕ) → x < EXCEPTIONS
      → is_in m.pending x ≡ (is_in n.pending x || (is_in_words due x && is_exception n.interrupts x))
  pub rest : m ≡ record n { pending = m.pending }
