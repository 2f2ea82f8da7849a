-- Texts that are no number of steps.
use Rattle.std.proofs.Common.{Bool, ◌≡◌, ◌∙◌, ◌<◌, ◌≤◌, ◌^◌, ◌==◌, false, arith, List, ℕ, refl, slice_index, subst, sym}
use Rattle.std.specs.Str.Parse.{IsNumeral, digits_value, without_leading_plus}
use Rattle.command_line.specs.Subcommands.{IsSteps, number_in, plus}

-- a text without a plus
unsigned : (text : List ℕ) → (slice_index text 0 == plus) ≡ false → without_leading_plus text ≡ text
unsigned text none = rw none refl

-- a text that is no number of 64 bits is no number of steps
pub no_steps : (text : List ℕ) (has : Bool) → has ≡ (slice_index text 0 == plus) → has ≡ false
    → ¬ (IsNumeral 10 (without_leading_plus text) × (digits_value 10 (without_leading_plus text) < 2 ^ 64))
    → ¬ IsSteps text
no_steps text has is none outside steps =
    let same : without_leading_plus text ≡ text = unsigned text (sym is ∙ none) in
    let few : number_in text ≤ 2 ^ 32 = steps.1 in
    let small : number_in text < 2 ^ 64 = omega (arith, few) in
    outside (
      subst (λ (t : List ℕ). IsNumeral 10 t) (sym same) steps.0,
      subst (λ (t : List ℕ). digits_value 10 t < 2 ^ 64) (sym same) small,
    )

pub ruleset asking = (no_steps)
