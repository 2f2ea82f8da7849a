-- No two accesses that differ in rule, privilege, kind or outcome have one counter.
use Rattle.std.proofs.Common.{◌≡◌, ℕ, zero, suc, ◌+◌, ◌*◌, ◌<◌, Bool, true, false}
use Rattle.std.proofs.Common.{Option, Some, None, refl, sym, ap, ◌∙◌, arith}
use Rattle.platform.specs.declared.access.Cause.{Cause}
use Rattle.platform.specs.declared.access.Cause.TheVariants.{Mpu, Bus}
use Rattle.platform.specs.declared.access.Kind.{Kind}
use Rattle.platform.specs.declared.access.Kind.TheVariants.{Fetch, Load, Store, Push, Pop, Vector, Probe}
use Rattle.platform.specs.declared.access.Rule.{Rule}
use Rattle.platform.specs.declared.access.Rule.TheVariants.{ExecuteNever, VectorRead, PrivatePeripheralBus, MpuOff}
use Rattle.platform.specs.declared.access.Rule.TheVariants.{NegativePriority, Region, Background, NoRegion}
use Rattle.survey.specs.Counts.{rule_number, privilege_number, kind_number, outcome_number}
use Rattle.survey.specs.CountLaw.{IsPlaceOfOne}

-- the numbers are below their bounds
privilege_below : (b : Bool) → privilege_number b < 2
privilege_below false = omega arith
privilege_below true = omega arith

kind_below : (k : Kind) → kind_number k < 7
kind_below Fetch = omega arith
kind_below Load = omega arith
kind_below Store = omega arith
kind_below Push = omega arith
kind_below Pop = omega arith
kind_below Vector = omega arith
kind_below Probe = omega arith

outcome_below : (o : Option Cause) → outcome_number o < 3
outcome_below None = omega arith
outcome_below (Some Mpu) = omega arith
outcome_below (Some Bus) = omega arith

-- numbers of one base each that make one place are the same
radix : (r p k o r' p' k' o' : ℕ) → p < 2 → k < 7 → o < 3 → p' < 2 → k' < 7 → o' < 3
    → r * 42 + ((p * 7 + k) * 3 + o) ≡ r' * 42 + ((p' * 7 + k') * 3 + o')
    → (r ≡ r') × (p ≡ p') × (k ≡ k') × (o ≡ o')
radix r p k o r' p' k' o' bp bk bo bp' bk' bo' e = (omega arith, omega arith, omega arith, omega arith)

-- a number is that of one privilege, kind, outcome and rule, which it gives back

abbrev privilege_at : ℕ → Bool
privilege_at zero = false
privilege_at (suc other) = true

privilege_back : (b : Bool) → privilege_at (privilege_number b) ≡ b
privilege_back false = refl
privilege_back true = refl

abbrev outcome_at : ℕ → Option Cause
outcome_at zero = None
outcome_at (suc zero) = Some Mpu
outcome_at (suc (suc other)) = Some Bus

outcome_back : (o : Option Cause) → outcome_at (outcome_number o) ≡ o
outcome_back None = refl
outcome_back (Some Mpu) = refl
outcome_back (Some Bus) = refl

abbrev kind_at : ℕ → Kind
kind_at zero = Fetch
kind_at (suc zero) = Load
kind_at (suc (suc zero)) = Store
kind_at (suc (suc (suc zero))) = Push
kind_at (suc (suc (suc (suc zero)))) = Pop
kind_at (suc (suc (suc (suc (suc zero))))) = Vector
kind_at (suc (suc (suc (suc (suc (suc other)))))) = Probe

kind_back : (k : Kind) → kind_at (kind_number k) ≡ k
kind_back Fetch = refl
kind_back Load = refl
kind_back Store = refl
kind_back Push = refl
kind_back Pop = refl
kind_back Vector = refl
kind_back Probe = refl

abbrev rule_at : ℕ → Rule
rule_at zero = ExecuteNever
rule_at (suc zero) = VectorRead
rule_at (suc (suc zero)) = PrivatePeripheralBus
rule_at (suc (suc (suc zero))) = MpuOff
rule_at (suc (suc (suc (suc zero)))) = NegativePriority
rule_at (suc (suc (suc (suc (suc zero))))) = Background
rule_at (suc (suc (suc (suc (suc (suc zero)))))) = NoRegion
rule_at (suc (suc (suc (suc (suc (suc (suc number))))))) = Region number

rule_back : (r : Rule) → rule_at (rule_number r) ≡ r
rule_back ExecuteNever = refl
rule_back VectorRead = refl
rule_back PrivatePeripheralBus = refl
rule_back MpuOff = refl
rule_back NegativePriority = refl
rule_back Background = refl
rule_back NoRegion = refl
rule_back (Region number) =
    let e : 7 + number ≡ suc (suc (suc (suc (suc (suc (suc number)))))) = omega arith in ap rule_at e

-- what gives itself back is determined by its number
determined : {X : Type 0} (number : X → ℕ) (at : ℕ → X) → ((x : X) → at (number x) ≡ x) → (x y : X)
    → number x ≡ number y → x ≡ y
determined number at back x y e = sym (back x) ∙ ap at e ∙ back y

pub places_apart : (rule : Rule) (privileged : Bool) (kind : Kind) (refused : Option Cause) (rule' : Rule)
    (privileged' : Bool) (kind' : Kind) (refused' : Option Cause)
    → IsPlaceOfOne rule privileged kind refused rule' privileged' kind' refused'
places_apart rule privileged kind refused rule' privileged' kind' refused' e =
    let same = radix (rule_number rule) (privilege_number privileged) (kind_number kind) (outcome_number refused)
    (rule_number rule') (privilege_number privileged') (kind_number kind') (outcome_number refused')
    (privilege_below privileged) (kind_below kind) (outcome_below refused) (privilege_below privileged')
    (kind_below kind') (outcome_below refused') e in (
      determined rule_number rule_at rule_back rule rule' same.0,
      determined privilege_number privilege_at privilege_back privileged privileged' same.1,
      determined kind_number kind_at kind_back kind kind' same.2,
      determined outcome_number outcome_at outcome_back refused refused' same.3,
    )
