-- The field of a letter, place by place from the highest.
use Rattle.std.proofs.Common.{◌≡◌, ℕ, ◌+◌, ◌-◌, ◌*◌, ◌^◌, ◌<◌, ◌≤◌, IsTrue, ◌==◌, if◌then◌else◌, List, [], length, drop}
use Rattle.std.proofs.Common.{get_or, refl, arith, length-drop}
use Rattle.std.proofs.Math.Pow.{pow_mono}
use Rattle.std.proofs.lemmas.Bool.Decides.{nat_tests}
use Rattle.std.proofs.lemmas.Grind.{common_steps}
use Rattle.std.proofs.lemmas.List.{at_drop_more}
use Rattle.encodings.specs.Runs.{has_field, width}
use Rattle.instruction_set.specs.Patterns.{joined_field}
use Rattle.instruction_set.specs.Words.{bit_at}

-- one place more
pub joined_next : (letter : ℕ) (places : List ℕ) (i x before d : ℕ) → i < length places
    → joined_field letter (drop i places) x before
    ≡ joined_field letter (drop (i + 1) places) x
    (if get_or places i d == letter then before * 2 + bit_at x (length places - 1 - i) else before)
unfolding joined_field
joined_next letter places i x before d h =
    let below : length places - 1 - i ≡ length (drop (i + 1) places) = omega (arith, h, length-drop (i + 1) places) in
    rw below (at_drop_more (λ rest. joined_field letter rest x before) places i d h)

pub joined_end : (letter : ℕ) (places : List ℕ) (i x before : ℕ) → length places ≤ i
    → joined_field letter (drop i places) x before ≡ before
unfolding joined_field
joined_end letter places i x before h = let none : drop i places ≡ [] = grind (arith, common_steps) in rw none refl

pub below_width : (most : ℕ) (places : List ℕ) (letter value : ℕ) → IsTrue (has_field most places letter)
    → value < 2 ^ width places letter → value < 2 ^ most
below_width most places letter value narrow small =
    let few : width places letter ≤ most = grind (arith, nat_tests, narrow) in
    let top : 2 ^ width places letter ≤ 2 ^ most = pow_mono {i = width places letter} {j = most} few in
    omega (arith, top, small)
