-- Runs of the reference machine: no more steps after a stop, and the text of one step more.
use Rattle.std.proofs.Common.{◌≡◌, ◌⊎◌, inl, inr, ℕ, zero, suc, ◌+◌, ◌-◌, ◌≤◌, List, [], ◌∷◌, ◌++◌, Option, Some}
use Rattle.std.proofs.Common.{None, IsSome, refl, sym, ◌∙◌, ap, append_assoc, add-zero, arith, unwrap_or}
use Rattle.std.proofs.Common.{is_some, false}
use Rattle.std.proofs.lemmas.List.{append-nil}
use Rattle.std.specs.Io.KnownBytes.{Appends}
use Rattle.std.proofs.KnownBytes.{Appends-trans}
use Rattle.platform.specs.declared.event.Event.{Event}
use Rattle.platform.specs.declared.stop.Stop.{Stop}
use Rattle.platform.specs.declared.stop.Stop.TheVariants.{StepLimit}
use Rattle.reference.specs.Run.{after, events_of, ending_of}
use Rattle.reference.specs.State.{State}
use Rattle.reference.specs.Step.{step, unless_stopped}
use Rattle.platform.specs.Events.{lines}
pub use Rattle.target.proofs.Running.{after_more, events_more, none_made}
use Rattle.output.specs.Output.{GrowsByPrefix, IsCutAfter, IsCutShort}
use Rattle.trace.proofs.Selecting.{lines-append, steps_joined}
use Rattle.trace.specs.Selection.{steps_text}

-- a stopped machine makes no step
step_stopped : (s : State) (why : Stop) → s.stop ≡ Some why → step s ≡ record { state = s; events = [] }
unfolding step
step_stopped s why e = ap (unless_stopped s) e

stays_by : (s : State) (o : Option Stop) → s.stop ≡ o → IsSome o → step s ≡ record { state = s; events = [] }
stays_by s None e some = absurd cc
stays_by s (Some why) e some = step_stopped s why e

pub stays : (s : State) → IsSome s.stop → step s ≡ record { state = s; events = [] }
stays s some = stays_by s s.stop refl some

pub none_shown : (s : State) → lines (events_of 0 s) ≡ []
unfolding events_of lines
none_shown s = refl

pub shown_more : (n : ℕ) (s : State)
    → lines (events_of (n + 1) s) ≡ lines (events_of n s) ++ lines (step (after n s)).events
shown_more n s = rw (events_more n s) (lines-append (events_of n s) (step (after n s)).events)

-- after a stop nothing changes any more
pub after_stop : (m k : ℕ) (s : State) → IsSome (after m s).stop
    → (after (m + k) s ≡ after m s) × (events_of (m + k) s ≡ events_of m s)
after_stop m zero s some = (rw add-zero refl, rw add-zero refl)
after_stop m (suc k) s some =
    let e : m + suc k ≡ (m + k) + 1 = omega arith in
    let before = after_stop m k s some in
    let quiet = stays (after m s) some in (
      rw (e, after_more (m + k) s, before.0, quiet) refl,
      rw (e, events_more (m + k) s, before.1, before.0, quiet) (append-nil (events_of m s)),
    )

-- a run is over where all its steps were made, or the machine has stopped
pub over : (made limit : ℕ) (s : State) → made ≤ limit → (made ≡ limit) ⊎ IsSome (after made s).stop
    → (after limit s ≡ after made s) × (events_of limit s ≡ events_of made s)
over made limit s few (inl e) = rw (← e) (refl, refl)
over made limit s few (inr some) = let e : made + (limit - made) ≡ limit = omega arith in
    rw e at (after_stop made (limit - made) s some)

-- the lines of one step more went out
pub shown_on : (old mid new : Option (List ℕ)) (n : ℕ) (s core : State) (shown : List Event)
    → Appends old mid (lines (events_of n s)) → Appends mid new (lines shown) → shown ≡ (step core).events
    → core ≡ after n s → Appends old new (lines (events_of (n + 1) s))
shown_on old mid new n s core shown before_it more same now =
    rw (shown_more n s, ← now, ← same) (Appends-trans old mid new (lines (events_of n s)) (lines shown) before_it more)

pub not_some : (o : Option Stop) → is_some o ≡ false → o ≡ None
not_some None e = refl
not_some (Some why) e = absurd cc

-- what went out before a text that was cut short
pub cut_after : (old mid new : Option (List ℕ)) (before text : List ℕ) → Appends old mid before
    → IsCutShort mid new text → IsCutAfter old new before text
cut_after old mid new before text went cut = record {
  front = cut.front;
  byte = cut.byte;
  later = cut.later;
  whole = cut.whole;
  went = Appends-trans old mid new before cut.front went cut.went;
}

-- the machine after all steps
pub all_made : (limit n : ℕ) (s core : State) → n ≤ limit → core ≡ after n s → (n ≡ limit) ⊎ IsSome core.stop
    → core ≡ after limit s
all_made limit n s core few now ends =
    let ends' : (n ≡ limit) ⊎ IsSome (after n s).stop = rw (← now) ends in now ∙ sym (over n limit s few ends').0

-- the state after one step more
pub after_on : (n : ℕ) (s core : State) → core ≡ after n s → (step core).state ≡ after (n + 1) s
after_on n s core now = rw (now, after_more n s) refl

-- the stop that is returned is that of the whole run
pub ends_so : (limit : ℕ) (s core : State) (shown : Stop) → shown ≡ unwrap_or core.stop StepLimit → core ≡ after limit s
    → shown ≡ ending_of limit s
ends_so limit s core shown same now = rw (← now) same

-- the lines of steps, one after another, are those of all their events
pub steps_lines : (n : ℕ) (s : State) → steps_text lines n s ≡ lines (events_of n s)
unfolding lines
steps_lines n s = steps_joined lines refl lines-append n s

-- what went out before a text that was cut short is a prefix of what begins so
pub prefix_of : (old new : Option (List ℕ)) (before text later all : List ℕ) → IsCutAfter old new before text
    → all ≡ before ++ text ++ later → GrowsByPrefix old new all
prefix_of old new before text later all cut e = record {
  front = before ++ cut.front;
  later = cut.byte ∷ (cut.later ++ later);
  whole = rw (e, cut.whole) (simp append_assoc refl);
  grew = cut.went;
}
