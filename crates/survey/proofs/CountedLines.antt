-- The lines of the events that a counter counts.
use Rattle.std.proofs.Common.{◌≡◌, ℕ, Bool, true, Option, refl, ap, ◌∙◌}
use Rattle.std.proofs.lemmas.Bool.{eqb-true}
use Rattle.platform.specs.declared.access.Cause.{Cause}
use Rattle.platform.specs.declared.access.Kind.{Kind}
use Rattle.platform.specs.declared.access.Rule.{Rule}
use Rattle.platform.specs.declared.event.EventKind.{EventKind}
use Rattle.platform.specs.declared.event.EventKind.TheVariants.{Accessed}
use Rattle.platform.specs.Events.{line, lines}
use Rattle.survey.specs.Counts.{place_of, place_of_access}
use Rattle.survey.specs.CountLaw.{is_counted_at}
use Rattle.survey.specs.LineLaw.{CountedHaveLines, EachHasOneLine, IsAccessLineOf, access_line}
use Rattle.survey.proofs.Places.{places_apart}

line_is : (tick : ℕ) (what : EventKind) (rule : Rule) (privileged : Bool) (kind : Kind) (refused : Option Cause)
    → is_counted_at (place_of rule privileged kind refused) what ≡ true
    → IsAccessLineOf rule privileged kind refused (line (record { tick = tick; what = what }))
line_is tick (Accessed d) rule privileged kind refused e =
    let a = d.access.address in
    let z = d.access.size in
    let same = places_apart d.rule d.access.privileged d.access.kind d.refused rule privileged kind refused
    (eqb-true (place_of_access d) (place_of rule privileged kind refused) e) in
    record {
      tick = tick;
      address = a;
      size = z;
      is =
          ap (λ (r : Rule). access_line tick a z r d.access.privileged d.access.kind d.refused) same.0
          ∙ ap (λ (p : Bool). access_line tick a z rule p d.access.kind d.refused) same.1
          ∙ ap (λ (k : Kind). access_line tick a z rule privileged k d.refused) same.2
          ∙ ap (λ (o : Option Cause). access_line tick a z rule privileged kind o) same.3;
    }
line_is tick other rule privileged kind refused e = absurd cc

pub counted_have_lines : CountedHaveLines
counted_have_lines rule privileged kind refused e counted = line_is e.tick e.what rule privileged kind refused counted

pub each_has_one_line : EachHasOneLine
unfolding lines
each_has_one_line e es = refl
