-- Which exceptions are pending, enabled and active, which of them is taken next, and at what priority the machine runs
-- (ARM DDI 0403, "Exception number definition", "Exception priorities and preemption", "Priority escalation", and the
-- pseudocode of ExecutionPriority()).
--
-- A priority is here the manual's number plus 2, so that it isn't negative: 0 for the manual's -2, 1 for its -1,
-- b + 2 for the byte b, and 258 for its 256. A higher priority is a lower number, as in the manual; "below" and
-- "above" compare numbers. The best of some exceptions is the one of the highest priority; among equal priorities, the
-- one with the lowest exception number.
use Rattle.std.specs.Prelude.{ℕ, zero, suc, ◌+◌, ◌-◌, ◌*◌, ◌/◌, ◌%◌, ◌^◌, min, Bool, true, false, not, ◌&&◌, ◌||◌, ◌==◌}
use Rattle.std.specs.Prelude.{nat_lt, nat_le, if◌then◌else◌, List, slice_index, slice_index_or, slice_set, replicate}
use Rattle.std.specs.Prelude.{Option, Some, None}
use Rattle.instruction_set.specs.Words.{is_bit}
use Rattle.platform.specs.declared.exception.Escalation.{Escalation}
use Rattle.platform.specs.declared.exception.Escalation.TheVariants.{Itself, HardFault, Lockup}
use Rattle.platform.specs.declared.exception.Masks.{Masks}
use Rattle.platform.specs.declared.exception.TheConstants.{NMI, HARD_FAULT, MEM_MANAGE, USAGE_FAULT, SV_CALL, PEND_SV}
use Rattle.platform.specs.declared.exception.TheConstants.{SYS_TICK, FIRST_INTERRUPT, MAX_INTERRUPTS, EXCEPTIONS}

-- Each list has an element for every number below EXCEPTIONS, also for numbers that no exception has.
pub record Nvic : Type 0 where
  pub pending : List Bool
  -- which are enabled, of those that can be disabled
  pub enabled : List Bool
  pub active : List Bool
  -- the priority byte of each, where it has one
  pub priorities : List ℕ
  -- AIRCR.PRIGROUP
  pub group : ℕ
  pub masks : Masks
  -- the board's: how many interrupts there are, and how many of the top bits of a priority byte are kept
  pub interrupts : ℕ
  pub priority_bits : ℕ

-- NMI and HardFault have fixed priorities
abbrev pub is_fixed : ℕ → Bool
is_fixed x = (x == NMI) || (x == HARD_FAULT)

-- these can't be disabled: NMI, HardFault, SVCall, PendSV and SysTick
abbrev pub is_always_enabled : ℕ → Bool
is_always_enabled x = is_fixed x || (x == SV_CALL) || (x == PEND_SV) || (x == SYS_TICK)

-- the external interrupts, one for each interrupt of the board
abbrev pub is_interrupt : ℕ → ℕ → Bool
is_interrupt interrupts x = nat_le FIRST_INTERRUPT x && nat_lt x (FIRST_INTERRUPT + interrupts)

-- these can be enabled and disabled: MemManage, BusFault and UsageFault by SHCSR, the interrupts by ISER and ICER
abbrev pub can_be_disabled : ℕ → ℕ → Bool
can_be_disabled interrupts x = (nat_le MEM_MANAGE x && nat_le x USAGE_FAULT) || is_interrupt interrupts x

-- whether an exception of the board has that number; DebugMonitor belongs to the Debug extension and is left out
-- (profile)
abbrev pub is_exception : ℕ → ℕ → Bool
is_exception interrupts x = is_always_enabled x || can_be_disabled interrupts x

-- whether it has a priority byte
abbrev pub has_priority_byte : ℕ → ℕ → Bool
has_priority_byte interrupts x = is_exception interrupts x && not (is_fixed x)

-- whether x is in a set
abbrev pub is_in : List Bool → ℕ → Bool
is_in set x = slice_index_or set x false

-- whether x is enabled; some exceptions always are
abbrev pub is_enabled : Nvic → ℕ → Bool
is_enabled n x = is_always_enabled x || is_in n.enabled x

-- -2, the priority of NMI
abbrev pub nmi_priority : ℕ
nmi_priority = 0

-- -1, the priority of HardFault and under FAULTMASK
abbrev pub hard_fault_priority : ℕ
hard_fault_priority = 1

-- the priority of a byte
abbrev pub of_byte : ℕ → ℕ
of_byte b = b + 2

-- 256, where nothing is active and nothing is masked
abbrev pub lowest : ℕ
lowest = 258

-- whether a priority is below the manual's 0
abbrev pub is_negative : ℕ → Bool
is_negative p = nat_lt p (of_byte 0)

-- the fixed priority of exception x if it has one, otherwise `other`
abbrev pub fixed_or : ℕ → ℕ → ℕ
fixed_or x other = if x == NMI then nmi_priority else if x == HARD_FAULT then hard_fault_priority else other

-- the priority of exception x
abbrev pub priority_of : Nvic → ℕ → ℕ
priority_of n x = fixed_or x (of_byte (slice_index n.priorities x))

-- a priority byte rounded down to a multiple of 2^(PRIGROUP + 1)
abbrev pub grouped : ℕ → ℕ → ℕ
grouped group b = b / 2 ^ (group + 1) * 2 ^ (group + 1)

-- the group priority of exception x
abbrev pub group_priority : Nvic → ℕ → ℕ
group_priority n x = fixed_or x (of_byte (grouped n.group (slice_index n.priorities x)))

-- the higher priority of p and the group priority of exception x, if x is active; otherwise p
abbrev pub raised_by : Nvic → ℕ → ℕ → ℕ
raised_by n x p = if is_in n.active x then min (group_priority n x) p else p

-- the highest group priority of the active exceptions with numbers below x; `lowest` if none of them is active
unfoldable pub highest_active : Nvic → ℕ → ℕ
highest_active n zero = lowest
highest_active n (suc x) = raised_by n x (highest_active n x)

-- the priority of the masks: -1 if FAULTMASK is set, 0 if PRIMASK is, BASEPRI's group if BASEPRI isn't 0
abbrev pub boosted : ℕ → Masks → ℕ
boosted group m =
    if m.faultmask then hard_fault_priority
    else if m.primask then of_byte 0
    else if m.basepri == 0 then lowest
    else of_byte (grouped group m.basepri)

-- ExecutionPriority()
unfoldable pub execution_priority : Nvic → ℕ
execution_priority n = min (highest_active n EXCEPTIONS) (boosted n.group n.masks)

-- whether exception x is pending and enabled
abbrev pub is_ready : Nvic → ℕ → Bool
is_ready n x = is_in n.pending x && is_enabled n x

-- x, if there is no `before` or x has a higher priority; otherwise `before`
abbrev pub better_of : Nvic → Option ℕ → ℕ → Option ℕ
better_of n None x = Some x
better_of n (Some before) x = if nat_lt (priority_of n x) (priority_of n before) then Some x else Some before

-- the better one of `before` and x, if x is pending and enabled; otherwise `before`
unfoldable pub with_ready : Nvic → ℕ → Option ℕ → Option ℕ
with_ready n x before = if is_ready n x then better_of n before x else before

-- the best of the exceptions with numbers below x that are pending and enabled
unfoldable pub best_below : Nvic → ℕ → Option ℕ
best_below n zero = None
best_below n (suc x) = with_ready n x (best_below n x)

-- the best of all exceptions that are pending and enabled, whatever is active or masked: ICSR.VECTPENDING
unfoldable pub best : Nvic → Option ℕ
best n = best_below n EXCEPTIONS

-- an exception preempts where its group priority is higher (a lower number) than the execution priority
abbrev pub if_preempts : Nvic → Option ℕ → Option ℕ
if_preempts n None = None
if_preempts n (Some x) = if nat_lt (group_priority n x) (execution_priority n) then Some x else None

-- the exception that is taken next, if any
unfoldable pub candidate : Nvic → Option ℕ
candidate n = if_preempts n (best n)

-- whether the execution priority is below the manual's 0
abbrev pub is_below_zero : Nvic → Bool
is_below_zero n = is_negative (execution_priority n)

-- how a fault or SVC of exception x escalates: to its own exception where that is enabled and preempts, otherwise
-- lockup where the execution priority is below 0, and otherwise HardFault
unfoldable pub escalation : Nvic → ℕ → Escalation
escalation n x =
    if is_enabled n x && nat_lt (group_priority n x) (execution_priority n) then Itself
    else if is_negative (execution_priority n) then Lockup
    else HardFault

-- whether a test holds of one of the numbers below x
unfoldable pub some_below : (ℕ → Bool) → ℕ → Bool
some_below test zero = false
some_below test (suc x) = some_below test x || test x

-- ICSR.ISRPENDING: whether an interrupt is pending; disabled interrupts count too (profile)
unfoldable pub is_interrupt_pending : Nvic → Bool
is_interrupt_pending n = some_below (λ x. is_interrupt n.interrupts x && is_in n.pending x) EXCEPTIONS

-- whether an exception other than x is active, for ICSR.RETTOBASE and ExceptionReturn()
unfoldable pub is_other_active : Nvic → ℕ → Bool
is_other_active n x = some_below (λ y. not (y == x) && is_in n.active y) EXCEPTIONS

-- a set after x is put into it or taken out; it stays unchanged where no exception of the board has the number x
abbrev pub with_member : ℕ → List Bool → ℕ → Bool → List Bool
with_member interrupts set x on = if is_exception interrupts x then slice_set set x on else set

-- x becomes pending, or isn't pending any more
abbrev pub with_pending : Nvic → ℕ → Bool → Nvic
with_pending n x on = record n { pending = with_member n.interrupts n.pending x on }

-- x becomes active, or isn't active any more
abbrev pub with_active : Nvic → ℕ → Bool → Nvic
with_active n x on = record n { active = with_member n.interrupts n.active x on }

-- x is enabled or disabled; nothing changes where x isn't one that can be (`can_be_disabled`)
abbrev pub with_enabled : Nvic → ℕ → Bool → Nvic
with_enabled n x on = if can_be_disabled n.interrupts x then record n { enabled = slice_set n.enabled x on } else n

-- the top bits of a priority byte that the board implements
abbrev pub implemented_bits : ℕ → ℕ → ℕ
implemented_bits bits b = b / 2 ^ (8 - bits) * 2 ^ (8 - bits)

-- the priority byte of x becomes b, of which the board keeps the top bits; nothing changes where x has none
abbrev pub with_priority : Nvic → ℕ → ℕ → Nvic
with_priority n x b =
    if has_priority_byte n.interrupts x
    then record n { priorities = slice_set n.priorities x (implemented_bits n.priority_bits b) }
    else n

-- PRIGROUP becomes the low three bits of g
abbrev pub with_group : Nvic → ℕ → Nvic
with_group n g = record n { group = g % 8 }

-- PRIMASK becomes `on`
abbrev pub with_primask : Nvic → Bool → Nvic
with_primask n on = record n { masks = record n.masks { primask = on } }

-- FAULTMASK becomes `on`, whatever the execution priority is
abbrev pub with_faultmask : Nvic → Bool → Nvic
with_faultmask n on = record n { masks = record n.masks { faultmask = on } }

-- BASEPRI becomes b, of which the board keeps the bits that it keeps of a priority byte
abbrev pub with_basepri : Nvic → ℕ → Nvic
with_basepri n b = record n { masks = record n.masks { basepri = implemented_bits n.priority_bits b } }

-- what would be the candidate if PRIMASK were 0
unfoldable pub candidate_unmasked : Nvic → Option ℕ
candidate_unmasked n = candidate (with_primask n false)

-- after a reset: nothing is pending, enabled or active, every priority byte is 0, and nothing is masked
abbrev pub reset_nvic : ℕ → ℕ → Nvic
reset_nvic interrupts bits = record {
  pending = replicate EXCEPTIONS false;
  enabled = replicate EXCEPTIONS false;
  active = replicate EXCEPTIONS false;
  priorities = replicate EXCEPTIONS 0;
  group = 0;
  masks = record { primask = false; faultmask = false; basepri = 0 };
  interrupts = min interrupts MAX_INTERRUPTS;
  priority_bits = bits;
}

-- Not used by a step: the rest of this file, for the crates nvic and clock. `due` is a set of exceptions in eight words

-- whether bit x mod 32 of word x / 32 is 1: whether the set of exceptions that eight words hold has x
abbrev pub is_in_words : List ℕ → ℕ → Bool
is_in_words due x = is_bit (slice_index due (x / 32)) (x % 32)

-- x becomes pending where it's due
unfoldable pub with_due_at : Nvic → List ℕ → ℕ → Nvic
with_due_at n due x = if is_in_words due x then with_pending n x true else n

-- of the exceptions with numbers below x, those that are due become pending
unfoldable pub with_due_below : Nvic → List ℕ → ℕ → Nvic
with_due_below n due zero = n
with_due_below n due (suc x) = with_due_at (with_due_below n due x) due x

-- all that are due become pending
unfoldable pub with_due : Nvic → List ℕ → Nvic
with_due n due = with_due_below n due EXCEPTIONS

-- the candidate with these pending too, and with this PRIMASK
unfoldable pub candidate_after : Nvic → List ℕ → Bool → Option ℕ
candidate_after n due primask = candidate (with_primask (with_due n due) primask)

-- the exception isn't pending any more, and is active
abbrev pub activated : Nvic → ℕ → Nvic
activated n x = with_active (with_pending n x false) x true
