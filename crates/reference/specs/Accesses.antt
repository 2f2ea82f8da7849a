-- One access, and a list of them (ARM DDI 0403, MemA[]; what the bus takes is the profile's). The rule decides first,
-- then the bus carries it out or refuses it. An unaligned access of MemU[] is a list of byte accesses, which
-- `transfer` of LoadStore makes.
use Rattle.std.specs.Prelude.{ℕ, Bool, not, ◌&&◌, ◌||◌, if◌then◌else◌, List, [], ◌∷◌, ◌++◌, Option, Some, None, Result}
use Rattle.std.specs.Prelude.{Ok, Err}
use Rattle.devices.specs.Laws.{has_device_at}
use Rattle.instruction_set.specs.Sizes.{bytes_in}
use Rattle.platform.specs.declared.access.Access.{Access}
use Rattle.platform.specs.declared.access.Cause.{Cause}
use Rattle.platform.specs.declared.access.Cause.TheVariants as cause
use Rattle.platform.specs.declared.access.Decision.{Decision}
use Rattle.platform.specs.declared.access.Performed.{Performed}
use Rattle.platform.specs.declared.access.Performed.TheVariants as performed
use Rattle.platform.specs.declared.access.Request.{Request}
use Rattle.platform.specs.declared.access.Rule.{Rule}
use Rattle.platform.specs.declared.event.Event.{Event}
use Rattle.platform.specs.declared.event.EventKind.TheVariants.{Accessed, ConsoleByte}
use Rattle.reference.specs.declared.failure.Failure.{Failure}
use Rattle.reference.specs.declared.failure.Failure.TheVariants as failure
use Rattle.platform.specs.Kinds.{is_load, is_probe, is_store}
use Rattle.platform.specs.Map.{is_in_ppb}
use Rattle.platform.specs.Memory.{is_in_memory}
use Rattle.platform.specs.Outcomes.{Outcome, done, unchanged, within}
use Rattle.platform.specs.Priorities.{is_below_zero}
use Rattle.platform.specs.Rules.{decision_of}
use Rattle.platform.specs.Space.{memory_access}
use Rattle.reference.specs.State.{Bus}
use Rattle.platform.specs.System.{device_access, system_access}

-- ---- the bus

-- whether a load or a store is to a word of a device, and not to memory
abbrev pub is_to_device : Bus → Access → Bool
is_to_device b a =
    (is_load a.kind || is_store a.kind) && (not (is_in_memory b.memory a.address (bytes_in a.size))
    && has_device_at b.system.devices a.address)

-- a request that a rule granted, carried out by the bus while IPSR is `exception`; a probe doesn't reach the bus
unfoldable pub carried_out : ℕ → Bus → Rule → Request → Outcome Bus
carried_out exception b rule q =
    if is_probe q.access.kind then unchanged b (done rule 0)
    else if is_in_ppb q.access.address
    then within (λ system. record b { system = system }) (system_access exception b.system rule q)
    else if is_to_device b q.access
    then within (λ system. record b { system = system }) (device_access b.system rule q)
    else within (λ memory. record b { memory = memory }) (memory_access b.memory b.system.time.ticks rule q)

-- ---- one access

-- a request, given its decision: where the rule grants it, the bus carries it out; where it refuses, nothing changes
abbrev pub decided : ℕ → Bus → Request → Decision → Outcome Bus
decided exception b q d =
    if d.granted then carried_out exception b d.rule q else unchanged b (performed.Denied d.rule cause.Mpu)

-- the rule that decides a request at the current execution priority, and whether it grants it
abbrev pub decision : Bus → Request → Decision
decision b q =
    decision_of b.system.mpu q.access.address q.access.kind q.access.privileged (is_below_zero b.system.nvic)

-- one access: the rule decides, then the bus carries it out or refuses it
unfoldable pub perform : ℕ → Bus → Request → Outcome Bus
perform exception b q = decided exception b q (decision b q)

-- ---- its lines

-- the line of an access that was decided
abbrev pub accessed : ℕ → Request → Rule → Option Cause → Event
accessed tick q rule refused =
    record { tick = tick; what = Accessed (record { access = q.access; rule = rule; refused = refused }) }

-- the line of a byte that goes to the console
abbrev pub console_line : ℕ → Option ℕ → List Event
console_line tick (Some byte) = record { tick = tick; what = ConsoleByte byte } ∷ []
console_line tick None = []

-- the lines of an access, given how it was performed: none where the access stops the machine
abbrev pub access_lines : ℕ → Request → Performed → List Event
access_lines tick q (performed.Done access) = accessed tick q access.rule None ∷ console_line tick access.sent
access_lines tick q (performed.Denied rule cause) = accessed tick q rule (Some cause) ∷ []
access_lines tick q (performed.Stop why) = []

-- ---- a list of accesses

-- the value that an access read, or the failure that ends the list of accesses
abbrev pub value_of : Request → Performed → Result ℕ Failure
value_of q (performed.Done access) = Ok access.value
value_of q (performed.Denied rule cause) = Err (failure.Refused q.access cause)
value_of q (performed.Stop why) = Err (failure.Stop why)

-- what a list of accesses leaves: the bus, the lines, the values in order, and what ended the list early, if anything
-- did
pub record ListResult : Type 0 where
  pub bus : Bus
  pub events : List Event
  pub values : List ℕ
  pub failure : Option Failure

-- what a list leaves, given the events, the bus and the value or failure of its first access, and what the others leave
-- after it; no access is made after a failure
abbrev pub followed : List Event → Bus → Result ℕ Failure → ListResult → ListResult
followed events after (Ok value) rest = record rest { events = events ++ rest.events; values = value ∷ rest.values }
followed events after (Err why) rest = record { bus = after; events = events; values = []; failure = Some why }

-- the accesses are performed one by one, each in the state that the one before left, to the first failure
unfoldable pub perform_all : ℕ → ℕ → Bus → List Request → ListResult
perform_all exception tick b [] = record { bus = b; events = []; values = []; failure = None }
perform_all exception tick b (q ∷ qs) =
    followed
    (access_lines tick q (perform exception b q).performed)
    (perform exception b q).after
    (value_of q (perform exception b q).performed)
    (perform_all exception tick (perform exception b q).after qs)
