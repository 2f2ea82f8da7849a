-- Which lines of the trace a counter stands for.
use Rattle.std.specs.Prelude.{◌≡◌, ℕ, Bool, true, List, ◌∷◌, ◌++◌, Option}
use Rattle.instruction_set.specs.declared.size.Size.{Size}
use Rattle.platform.specs.declared.access.Cause.{Cause}
use Rattle.platform.specs.declared.access.Kind.{Kind}
use Rattle.platform.specs.declared.access.Rule.{Rule}
use Rattle.platform.specs.declared.event.Event.{Event}
use Rattle.platform.specs.declared.event.EventKind.TheVariants.{Accessed}
use Rattle.platform.specs.Events.{line, lines}
use Rattle.survey.specs.Counts.{place_of}
use Rattle.survey.specs.CountLaw.{is_counted_at}

-- the line of an access
abbrev pub access_line : ℕ → ℕ → Size → Rule → Bool → Kind → Option Cause → List ℕ
access_line tick address size rule privileged kind refused =
    line (
    record {
      tick = tick;
      what =
          Accessed (
          record {
            access = record { address = address; kind = kind; size = size; privileged = privileged };
            rule = rule;
            refused = refused;
          }
          );
    }
    )

-- a text is the line of an access of a rule, privilege, kind and outcome
pub record IsAccessLineOf (rule : Rule) (privileged : Bool) (kind : Kind) (refused : Option Cause) (text : List ℕ)
    : Type 0 where
  pub tick : ℕ
  pub address : ℕ
  pub size : Size
  pub is : text ≡ access_line tick address size rule privileged kind refused

-- the line of an event that a counter counts is that of an access of its rule, privilege, kind and outcome
abbrev pub CountedHaveLines : Type 0
CountedHaveLines =
    (rule : Rule) (privileged : Bool) (kind : Kind) (refused : Option Cause) (e : Event)
    → is_counted_at (place_of rule privileged kind refused) e.what ≡ true
    → IsAccessLineOf rule privileged kind refused (line e)

-- each event has one line, in the order of the events
abbrev pub EachHasOneLine : Type 0
EachHasOneLine = (e : Event) (es : List Event) → lines (e ∷ es) ≡ line e ++ lines es
