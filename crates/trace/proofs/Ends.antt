-- The rule of a kept end, and the end of the line of a fetch.
use Rattle.std.proofs.Common.{◌≡◌, ℕ, ◌+◌, ◌≤◌, Bool, true, false, List, ◌++◌, length, take, ap, refl, ◌∙◌}
use Rattle.std.proofs.Math.Seq.{take-append-add}
use Rattle.std.proofs.lemmas.Bool.{eqb-true}
use Rattle.std.proofs.lemmas.List.{take-append-le}
use Rattle.std.specs.Prelude.{codes}
use Rattle.platform.specs.declared.access.Rule.{Rule}
use Rattle.platform.specs.declared.access.Rule.TheVariants.{ExecuteNever, VectorRead, PrivatePeripheralBus, MpuOff}
use Rattle.platform.specs.declared.access.Rule.TheVariants.{NegativePriority, Region, Background, NoRegion}
use Rattle.platform.specs.Rules.{rank}
use Rattle.platform.specs.Text.{privilege_text}
use Rattle.trace.specs.Ends.{end_text, fetch_end, fits_number, rule_of}

-- a rank and a number have one rule
pub same_rule : (number place : ℕ) (r : Rule) → place ≡ rank r → fits_number number r ≡ true → rule_of place number ≡ r
same_rule number place ExecuteNever e h = ap (λ p. rule_of p number) e
same_rule number place VectorRead e h = ap (λ p. rule_of p number) e
same_rule number place PrivatePeripheralBus e h = ap (λ p. rule_of p number) e
same_rule number place MpuOff e h = ap (λ p. rule_of p number) e
same_rule number place NegativePriority e h = ap (λ p. rule_of p number) e
same_rule number place (Region its) e h = rw (e, eqb-true number its h) refl
same_rule number place Background e h = ap (λ p. rule_of p number) e
same_rule number place NoRegion e h = ap (λ p. rule_of p number) e

-- the end of the line of a fetch begins with the size and the privilege
pub after_address : (end rest : List ℕ) (n : ℕ) (privileged : Bool) (rule : Rule) → n ≤ length end
    → take n end ≡ end_text rule
    → take (4 + n) (codes " 2 " ++ (privilege_text privileged ++ (end ++ rest))) ≡ fetch_end privileged rule
after_address end rest n true rule short is =
    take-append-add (codes " 2 p") (end ++ rest) n ∙ rw (take-append-le n end rest short, is) refl
after_address end rest n false rule short is =
    take-append-add (codes " 2 u") (end ++ rest) n ∙ rw (take-append-le n end rest short, is) refl
