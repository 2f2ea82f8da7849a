-- Settings under which every event has its line, and none ends a run.
use Rattle.std.proofs.Common.{◌≡◌, Bool, true, false, not, ◌&&◌, ◌||◌, ◌==◌, List, [], ◌∷◌, length, Option, Some, None}
use Rattle.std.proofs.Common.{refl, ap, arith}
use Rattle.std.proofs.lemmas.Bool.Decides.{nat_tests}
use Rattle.std.specs.List.{filter}
use Rattle.debugger_commands.specs.declared.conditions.LineSelection.{LineSelection}
use Rattle.debugger_commands.specs.declared.conditions.LineSelection.TheVariants as lines
use Rattle.debugger_commands.specs.declared.watchpoints.Watchpoint.{Watchpoint}
use Rattle.debugger_commands.specs.Conditions.{access_hit, first_hit, has_line, hit_of, is_all, is_plain, written}
use Rattle.debugger_commands.specs.Settings.{Settings}
use Rattle.platform.specs.declared.access.Cause.{Cause}
use Rattle.platform.specs.declared.access.DecidedAccess.{DecidedAccess}
use Rattle.platform.specs.declared.event.Event.{Event}
use Rattle.platform.specs.declared.event.EventKind.{EventKind}
use Rattle.platform.specs.declared.event.EventKind.TheVariants.{Accessed, ConsoleByte, ReturnBegan, HandlerEntered}
use Rattle.platform.specs.declared.event.EventKind.TheVariants.{FaultRecorded}

-- what settings are plain by
record IsPlain (k : Settings) : Type 0 where
  all : k.selection ≡ lines.All
  none : k.watchpoints ≡ []
  refused : k.refused ≡ false
  faults : k.faults ≡ false
  exceptions : k.exceptions ≡ false

all_of : (selection : LineSelection) → is_all selection ≡ true → selection ≡ lines.All
all_of lines.All e = refl
all_of lines.Refused e = absurd (cc)
all_of lines.Exceptions e = absurd (cc)
all_of lines.Console e = absurd (cc)
all_of lines.Nothing e = absurd (cc)

both : (a b : Bool) → (a && b) ≡ true → (a ≡ true) × (b ≡ true)
both true b e = (refl, e)
both false b e = absurd (cc)

none_of : (a b c : Bool) → not (a || b || c) ≡ true → (a ≡ false) × (b ≡ false) × (c ≡ false)
none_of true b c e = absurd (cc)
none_of false true c e = absurd (cc)
none_of false false true e = absurd (cc)
none_of false false false e = (refl, refl, refl)

empty : (watchpoints : List Watchpoint) → (length watchpoints == 0) ≡ true → watchpoints ≡ []
empty [] e = refl
empty (w ∷ ws) e =
    let none : length (w ∷ ws) ≡ 0 = grind (arith, nat_tests) in
    absurd (omega arith)

parts : (k : Settings) → is_plain k ≡ true → IsPlain k
parts k e =
    let split =
    both (is_all k.selection && (length k.watchpoints == 0)) (not (k.refused || k.faults || k.exceptions)) e in
    let chosen = both (is_all k.selection) (length k.watchpoints == 0) split.0 in
    let off = none_of k.refused k.faults k.exceptions split.1 in
    record {
      all = all_of k.selection chosen.0;
      none = empty k.watchpoints chosen.1;
      refused = off.0;
      faults = off.1;
      exceptions = off.2;
    }

-- a test that all elements pass
all_kept : {X : Type 0} (p : X → Bool) (xs : List X) → ((x : X) → p x ≡ true) → filter p xs ≡ xs
all_kept p [] h = refl
all_kept p (x ∷ xs) h = rw (h x) (ap (λ ys. x ∷ ys) (all_kept p xs h))

pub plain_lines : (k : Settings) → is_plain k ≡ true → (events : List Event) → written k events ≡ events
plain_lines k e events =
    all_kept (λ (v : Event). has_line k v.what) events (λ v. rw ((parts k e).all) refl)

access_none : (k : Settings) → IsPlain k → (d : DecidedAccess) (o : Option Cause) → access_hit k d o ≡ None
access_none k p d None = rw (p.none) refl
access_none k p d (Some cause) = rw (p.refused) refl

none_hit : (k : Settings) → IsPlain k → (what : EventKind) → hit_of k what ≡ None
none_hit k p (Accessed d) = access_none k p d d.refused
none_hit k p (ConsoleByte byte) = refl
none_hit k p (ReturnBegan exc_return) = refl
none_hit k p (HandlerEntered exception) = rw (p.exceptions) refl
none_hit k p (FaultRecorded fault) = rw (p.faults) refl

none_hits : (k : Settings) → ((what : EventKind) → hit_of k what ≡ None) → (events : List Event)
    → first_hit k events ≡ None
none_hits k h [] = refl
none_hits k h (e ∷ es) = rw (h e.what, none_hits k h es) refl

pub plain_goes_on : (k : Settings) → is_plain k ≡ true → (events : List Event) → first_hit k events ≡ None
plain_goes_on k e events = none_hits k (none_hit k (parts k e)) events
