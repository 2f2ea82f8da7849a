-- At most one access of a step is refused: how a step ends by a failure, and the line of its fault.
--
-- - Inside a step no line is of a refused access (`NoneRefused`), and after an access they end as it did (`EndIn`).
-- - `line_of` and `forced_line` say what the line of a fault shows: the bits that were set for it, FORCED where it
--   escalated.
-- - A failure without an access adds the line of its fault to lines without a refusal (`fault_unrefused`); one of an
--   access adds it right after the refusal (`refusal_ends`). Both are then carried through escalation
--   (`escalated_..`), the record of the fault (`faulted_..`) and `failed`; a vector has a lemma of its own.
-- - `refusal_rules` is the instance of the walk: no other change of a step looks at lines.
use Rattle.std.proofs.Common.{◌≡◌, ◌⊎◌, inl, inr, ℕ, false, List, [], ◌∷◌, ◌++◌, bit_and, bit_or, Option, Some, None}
use Rattle.std.proofs.Common.{refl, ◌∙◌, ap, append_assoc}
use Rattle.std.proofs.lemmas.Bool.{cond_both}
use Rattle.std.proofs.lemmas.Nat.{and_or_self, and_or_apart}
use Rattle.std.specs.Int.Bits.{or_zero_r}
use Rattle.platform.specs.declared.access.Access.{Access}
use Rattle.platform.specs.declared.access.Cause.{Cause}
use Rattle.platform.specs.declared.access.Cause.TheVariants.{Mpu, Bus}
use Rattle.platform.specs.declared.access.Kind.{Kind}
use Rattle.platform.specs.declared.access.Kind.TheVariants.{Fetch, Load, Store, Push, Pop, Vector, Probe}
use Rattle.platform.specs.declared.access.Performed.{Performed}
use Rattle.platform.specs.declared.access.Performed.TheVariants as performed
use Rattle.platform.specs.declared.access.Request.{Request}
use Rattle.platform.specs.declared.event.Event.{Event}
use Rattle.platform.specs.declared.event.EventKind.{EventKind}
use Rattle.platform.specs.declared.event.RecordedFault.{RecordedFault}
use Rattle.platform.specs.declared.exception.Escalation.{Escalation}
use Rattle.platform.specs.declared.exception.Escalation.TheVariants.{Itself, HardFault, Lockup}
use Rattle.platform.specs.declared.exception.TheConstants.{HARD_FAULT}
use Rattle.platform.specs.declared.fault_status.FaultAddress.{FaultAddress}
use Rattle.platform.specs.declared.fault_status.FaultAddress.TheVariants.{NotKept, Mmfar, Bfar}
use Rattle.platform.specs.declared.fault_status.FaultEffect.{FaultEffect}
use Rattle.platform.specs.declared.fault_status.TheConstants.{FORCED}
use Rattle.platform.specs.Events.{access_of, is_refused}
use Rattle.platform.specs.Priorities.{is_fixed}
use Rattle.platform.specs.Status.{Status, with_fault_bits}
use Rattle.reference.specs.declared.failure.Failure.{Failure}
use Rattle.reference.specs.declared.failure.Failure.TheVariants as failure
use Rattle.reference.specs.Accesses.{access_lines, accessed, console_line, perform, value_of}
use Rattle.reference.specs.ExceptionEntry.{vector_refused}
use Rattle.reference.specs.Faults.{access_fault, escalated, failed, fault_line, fault_of, faulted, recorded}
use Rattle.reference.specs.Faults.{usage_fault_of, vector_fault, with_fault_address, with_status}
use Rattle.reference.specs.State.{State, Stepped}
use Rattle.reference.specs.Step.{step}
use Rattle.step_laws.specs.AccessLaw.{NoneRefused, IsFaultLineOf, EndsRefused, OneRefusal}
use Rattle.step_laws.proofs.Lines.{unrefused-nil, unrefused-cons, unrefused-append, LastRefused, EndIn, ends-append}
use Rattle.step_laws.proofs.StepRules.{StepRules, failure_in, step_keeps}

-- ---- the lines of an access, and other lines

console_unrefused : (tick : ℕ) (sent : Option ℕ) → NoneRefused (console_line tick sent)
console_unrefused tick (Some byte) = unrefused-cons _ [] refl unrefused-nil
console_unrefused tick None = unrefused-nil

-- the lines of an access end as it does
shown_ends : (tick : ℕ) (q : Request) (p : Performed) → EndIn (failure_in (value_of q p)) (access_lines tick q p)
shown_ends tick q (performed.Done access) = unrefused-cons _ _ refl (console_unrefused tick access.sent)
shown_ends tick q (performed.Denied rule cause) = inr (record {
  unrefused = [];
  refused = accessed tick q rule (Some cause);
  rule = rule;
  events_are = refl;
  none_refused = unrefused-nil;
  is_refusal = refl;
})
shown_ends tick q (performed.Stop why) = unrefused-nil

-- an event that is no access isn't a refused one
unrefused_other : (what : EventKind) → access_of what ≡ None → is_refused what ≡ false
unrefused_other what other = rw other refl

line_added : (events : List Event) (e : Event) → access_of e.what ≡ None → NoneRefused events
    → NoneRefused (events ++ e ∷ [])
line_added events e other unrefused =
    unrefused-append events (e ∷ []) unrefused (unrefused-cons e [] (unrefused_other e.what other) unrefused-nil)

-- ---- the line of a fault

-- what the line of a fault shows in a state
abbrev shown : State → ℕ → RecordedFault
shown s x = record { cfsr = s.bus.system.status.cfsr; hfsr = s.bus.system.status.hfsr; exception = x }

-- FORCED is set
abbrev with_forced : State → State
with_forced s = with_status s (with_fault_bits s.bus.system.status 0 FORCED)

-- a fault whose exception may become HardFault by FORCED beside its own bits
abbrev IsApart : FaultEffect → Type 0
IsApart f = bit_and FORCED f.hfsr ≡ 0

access_apart : (kind : Kind) (cause : Cause) (address : ℕ) → IsApart (access_fault kind cause address)
access_apart Fetch Mpu address = refl
access_apart Load Mpu address = refl
access_apart Store Mpu address = refl
access_apart Push Mpu address = refl
access_apart Pop Mpu address = refl
access_apart Vector Mpu address = refl
access_apart Probe Mpu address = refl
access_apart Fetch Bus address = refl
access_apart Load Bus address = refl
access_apart Store Bus address = refl
access_apart Push Bus address = refl
access_apart Pop Bus address = refl
access_apart Vector Bus address = refl
access_apart Probe Bus address = refl

-- the address of a fault leaves CFSR and HFSR
record HasBits (st : Status) (old : Status) (f : FaultEffect) : Type 0 where
  cfsr : st.cfsr ≡ bit_or old.cfsr f.cfsr
  hfsr : st.hfsr ≡ bit_or old.hfsr f.hfsr

addressed : (st old : Status) (f : FaultEffect) (address : FaultAddress) → HasBits st old f →
    HasBits (with_fault_address st address) old f
addressed st old f NotKept h = record { cfsr = h.cfsr; hfsr = h.hfsr }
addressed st old f (Mmfar address) h = record { cfsr = h.cfsr; hfsr = h.hfsr }
addressed st old f (Bfar address) h = record { cfsr = h.cfsr; hfsr = h.hfsr }

recorded_bits : (s : State) (f : FaultEffect) → HasBits (recorded s f).bus.system.status s.bus.system.status f
recorded_bits s f =
    addressed (with_fault_bits s.bus.system.status f.cfsr f.hfsr) s.bus.system.status f f.address
    (record { cfsr = refl; hfsr = refl })

bits_set : (x y bits : ℕ) → x ≡ bit_or y bits → bit_and x bits ≡ bits
bits_set x y bits e = rw e (and_or_self bits y)

-- the line of a fault of the table, by what becomes of it
line_of : (s : State) (f : FaultEffect) (x : ℕ) → (x ≡ f.exception) ⊎ ((x ≡ HARD_FAULT) ⊎ (x ≡ 0)) →
    IsFaultLineOf f (shown (recorded s f) x)
line_of s f x which = record {
  exception = which;
  cfsr = bits_set _ _ f.cfsr (recorded_bits s f).cfsr;
  hfsr = bits_set _ _ f.hfsr (recorded_bits s f).hfsr;
}

forced_line : (s : State) (f : FaultEffect) → IsApart f →
    IsFaultLineOf f (shown (with_forced (recorded s f)) HARD_FAULT)
forced_line s f apart = record {
  exception = inr (inl refl);
  cfsr = rw (or_zero_r (recorded s f).bus.system.status.cfsr) (bits_set _ _ f.cfsr (recorded_bits s f).cfsr);
  hfsr =
      and_or_apart f.hfsr (recorded s f).bus.system.status.hfsr FORCED apart
      ∙ bits_set _ _ f.hfsr (recorded_bits s f).hfsr;
}

-- ---- lines with that of a fault

-- unrefused lines, and the line of a fault
fault_unrefused : (s : State) (events : List Event) (x : ℕ) → NoneRefused events →
    OneRefusal (events ++ fault_line s x ∷ [])
fault_unrefused s events x unrefused = inl (line_added events (fault_line s x) refl unrefused)

-- lines whose last is the refusal of an access, and the line of its fault
refusal_ends : (access : Access) (cause : Cause) (s : State) (events : List Event) (x : ℕ) →
    LastRefused access cause events → IsFaultLineOf (fault_of access cause) (shown s x) →
    EndsRefused (events ++ fault_line s x ∷ [])
refusal_ends access cause s events x last line = record {
  before = last.unrefused;
  refused = last.refused;
  last = fault_line s x;
  events_are =
      ap (λ es. es ++ fault_line s x ∷ []) last.events_are
      ∙ append_assoc last.unrefused (last.refused ∷ []) (fault_line s x ∷ []);
  none_refused = last.none_refused;
  access = access;
  rule = last.rule;
  cause = cause;
  is_refused = last.is_refusal;
  fault = shown s x;
  is_fault = refl;
  is_of_access = line;
}

-- ---- failures

-- at most one access of a step was refused
abbrev HasOneRefusal : Stepped → Type 0
HasOneRefusal r = OneRefusal r.events

-- a fault after unrefused lines
escalated_unrefused : (s : State) (events : List Event) (x : ℕ) (e : Escalation) → NoneRefused events →
    HasOneRefusal (escalated s events x e)
escalated_unrefused s events x Itself unrefused = fault_unrefused s events x unrefused
escalated_unrefused s events x HardFault unrefused = fault_unrefused (with_forced s) events HARD_FAULT unrefused
escalated_unrefused s events x Lockup unrefused = fault_unrefused s events 0 unrefused

-- a fault by a refused access
escalated_refused : (s : State) (events : List Event) (access : Access) (cause : Cause) (e : Escalation) →
    LastRefused access cause events →
    HasOneRefusal (escalated (recorded s (fault_of access cause)) events (fault_of access cause).exception e)
escalated_refused s events access cause Itself last =
    inr
    (refusal_ends access cause (recorded s (fault_of access cause)) events _ last
    (line_of s (fault_of access cause) _ (inl refl)))
escalated_refused s events access cause HardFault last =
    inr
    (refusal_ends access cause (with_forced (recorded s (fault_of access cause))) events HARD_FAULT last
    (forced_line s (fault_of access cause) (access_apart access.kind cause access.address)))
escalated_refused s events access cause Lockup last =
    inr
    (refusal_ends access cause (recorded s (fault_of access cause)) events 0 last
    (line_of s (fault_of access cause) 0 (inr (inr refl))))

faulted_unrefused : (s : State) (events : List Event) (f : FaultEffect) → NoneRefused events →
    HasOneRefusal (faulted s events f)
unfolding faulted
faulted_unrefused s events f unrefused = escalated_unrefused (recorded s f) events f.exception _ unrefused

faulted_refused : (s : State) (events : List Event) (access : Access) (cause : Cause) →
    LastRefused access cause events → HasOneRefusal (faulted s events (fault_of access cause))
unfolding faulted
faulted_refused s events access cause last = escalated_refused s events access cause _ last

failed_refusal : (why : Failure) (s : State) (events : List Event) → EndIn (Some why) events →
    HasOneRefusal (failed s events why)
failed_refusal (failure.Refused access cause) s events (inl none) =
    faulted_unrefused s events (fault_of access cause) none
failed_refusal (failure.Refused access cause) s events (inr last) = faulted_refused s events access cause last
failed_refusal (failure.Usage fault) s events none = faulted_unrefused s events (usage_fault_of fault) none
failed_refusal (failure.Stop why) s events none = inl none

-- the vector of an exception was refused
vector_line : (s : State) (access : Access) (cause : Cause) (x : ℕ) → access.kind ≡ Vector →
    (x ≡ HARD_FAULT) ⊎ ((x ≡ HARD_FAULT) ⊎ (x ≡ 0)) →
    IsFaultLineOf (fault_of access cause) (shown (recorded s vector_fault) x)
vector_line s access Mpu x kind which = rw kind (line_of s vector_fault x which)
vector_line s access Bus x kind which = rw kind (line_of s vector_fault x which)

vector_refusal : (s : State) (events : List Event) (x : ℕ) (access : Access) (cause : Cause) → access.kind ≡ Vector →
    EndIn (Some (failure.Refused access cause)) events → HasOneRefusal (vector_refused s events x)
vector_refusal s events x access cause kind (inl none) =
    cond_both (is_fixed x) _ _ HasOneRefusal (λ fixed. fault_unrefused (recorded s vector_fault) events 0 none)
    (λ other. fault_unrefused (recorded s vector_fault) events HARD_FAULT none)
vector_refusal s events x access cause kind (inr last) =
    cond_both (is_fixed x) _ _ HasOneRefusal
    (λ fixed. inr
    (refusal_ends access cause (recorded s vector_fault) events 0 last
    (vector_line s access cause 0 kind (inr (inr refl)))))
    (λ other. inr
    (refusal_ends access cause (recorded s vector_fault) events HARD_FAULT last
    (vector_line s access cause HARD_FAULT kind (inl refl))))

-- ---- the step

-- a failure of no access
failing_ends : (why : Failure) (events : List Event) → NoneRefused events → EndIn (Some why) events
failing_ends (failure.Refused access cause) events none = inl none
failing_ends (failure.Usage fault) events none = none
failing_ends (failure.Stop why) events none = none

refusal_rules : StepRules (λ end s events. EndIn end events) HasOneRefusal
refusal_rules = record {
  ends = λ s events none. inl none;
  stops = λ s events why none. inl none;
  fails = λ why s events entry. failed_refusal why (record s { entry = entry }) events;
  failing = λ why s events none. failing_ends why events none;
  access = λ tick s events q fits none.
      ends-append (failure_in (value_of q (perform s.registers.exception s.bus q).performed)) events _ none
      (shown_ends tick q (perform s.registers.exception s.bus q).performed);
  line = λ s events e other none. line_added events e other none;
  asleep = λ s events on none. none;
  pending = λ s events x none. none;
  status = λ s events st none. none;
  result = λ s events i values none. none;
  moved = λ s events length none. none;
  special_read = λ s events o none. none;
  special_written = λ s events special value out none. none;
  state_changed = λ s events o out none. none;
  entry = λ s events e x next none. none;
  stacked = λ end s events ends. ends;
  refused = vector_refusal;
  handler = λ n s events x e vector next none. none;
  deactivated = λ s events out none. none;
  unstacked = λ s events e frame even none. none;
}

pub step_refusal : (s : State) → OneRefusal (step s).events
step_refusal s = step_keeps refusal_rules s unrefused-nil (λ early. unrefused-nil)
