-- The decision is by the first case of the table that fits, and nothing else is.
use Rattle.std.proofs.Common.{◌≡◌, ℕ, ◌<◌, ◌≤◌, ◌⊎◌, ◌↔◌, true, false, not, Bool, if◌then◌else◌, ◌==◌, ◌+◌, subst}
use Rattle.std.proofs.Common.{Option, Some, None, arith, refl, sym, ap, ◌∙◌, inl, inr}
use Rattle.std.proofs.lemmas.Bool.{cases_lt, eqb-true, eq-eqb, both_ways}
use Rattle.platform.specs.declared.access.Decision.{Decision}
use Rattle.platform.specs.declared.access.Rule.{Rule}
use Rattle.platform.specs.declared.access.Rule.TheVariants.{ExecuteNever, VectorRead, PrivatePeripheralBus, MpuOff}
use Rattle.platform.specs.declared.access.Rule.TheVariants.{NegativePriority, Region, Background, NoRegion}
use Rattle.platform.specs.Kinds.{is_vector}
use Rattle.platform.specs.Regions.{Mpu, owner, is_on, IsOwner}
use Rattle.platform.specs.Rules.{default_map, AccessQuery, Fits, IsFirstFit, rank, rule_grants, before_regions}
use Rattle.platform.specs.Rules.{by_owner}
use Rattle.platform.specs.Rules.{first_of_two, decision_of, is_fetch_from_system, is_ppb_data, is_off_below_zero}
use Rattle.platform.specs.Rules.{is_background}
use Rattle.mpu.proofs.Belonging.{only_owner, owner_is}

-- ---- rules by their places

-- the rule of a rank that only one rule has
rule_at : ℕ → Rule
rule_at n =
    if n == 0 then ExecuteNever
    else if n == 1 then VectorRead
    else if n == 2 then PrivatePeripheralBus
    else if n == 3 then MpuOff
    else if n == 4 then NegativePriority
    else if n == 6 then Background
    else NoRegion

rule_of_rank : (r : Rule) → (rank r ≡ 5 → ⊥) → rule_at (rank r) ≡ r
unfolding rule_at
rule_of_rank ExecuteNever _ = refl
rule_of_rank VectorRead _ = refl
rule_of_rank PrivatePeripheralBus _ = refl
rule_of_rank MpuOff _ = refl
rule_of_rank NegativePriority _ = refl
rule_of_rank (Region k) h = absurd (h refl)
rule_of_rank Background _ = refl
rule_of_rank NoRegion _ = refl

same_rule : (r s : Rule) → rank r ≡ rank s → (rank s ≡ 5 → ⊥) → r ≡ s
same_rule r s e h = sym (rule_of_rank r (λ f. h (sym e ∙ f))) ∙ ap rule_at e ∙ rule_of_rank s h

number_of : (r : Rule) → rank r ≡ 5 → (k : ℕ) × (r ≡ Region k)
number_of ExecuteNever h = absurd (let wrong : ⊥ = omega arith in wrong)
number_of VectorRead h = absurd (let wrong : ⊥ = omega arith in wrong)
number_of PrivatePeripheralBus h = absurd (let wrong : ⊥ = omega arith in wrong)
number_of MpuOff h = absurd (let wrong : ⊥ = omega arith in wrong)
number_of NegativePriority h = absurd (let wrong : ⊥ = omega arith in wrong)
number_of (Region k) h = (k, refl)
number_of Background h = absurd (let wrong : ⊥ = omega arith in wrong)
number_of NoRegion h = absurd (let wrong : ⊥ = omega arith in wrong)

-- ---- the cases that don't fit

-- none of the cases above a rank fits
abbrev Missed : Mpu → AccessQuery → ℕ → Type 0
Missed m q n = (r : Rule) → rank r < n → Fits m q r → ⊥

nothing_above : (m : Mpu) (q : AccessQuery) → Missed m q 0
nothing_above m q r above f = omega arith

and_rule : (m : Mpu) (q : AccessQuery) (s : Rule) → (rank s ≡ 5 → ⊥) → Missed m q (rank s) → (Fits m q s → ⊥)
    → Missed m q (rank s + 1)
and_rule m q s h before here r above f = lead (cases_lt (rank r) (rank s))
  where
    lead : ((rank r < rank s) ⊎ (rank s ≤ rank r)) → ⊥
    lead (inl under) = before r under f
    lead (inr over) = let e : rank r ≡ rank s = omega arith in here (subst (Fits m q) (same_rule r s e h) f)

and_regions : (m : Mpu) (q : AccessQuery) → Missed m q 5 → ((k : ℕ) → IsOwner m q.address (Some k) → ⊥) → Missed m q 6
and_regions m q before here r above f = lead (cases_lt (rank r) 5)
  where
    lead : ((rank r < 5) ⊎ (5 ≤ rank r)) → ⊥
    lead (inl under) = before r under f
    lead (inr over) =
        let e : rank r ≡ 5 = omega arith in
        let n = number_of r e in
        here n.0 (subst (Fits m q) n.1 f)

-- ---- the first case that fits

beyond : (m : Mpu) (q : AccessQuery) (b : Bool) → is_background m.control q.privileged ≡ b → Missed m q 6
    → IsFirstFit m q (if b then record { rule = Background; granted = default_map q.address q.kind }
    else record { rule = NoRegion; granted = false })
beyond m q true e missed = record { fits = e; first = missed; granted = refl }
beyond m q false e missed = record {
  fits = tt;
  first = and_rule m q Background (λ h. omega arith) missed (both_ways _ e);
  granted = refl;
}

at_regions : (m : Mpu) (q : AccessQuery) (o : Option ℕ) → Missed m q 5 → IsOwner m q.address o
    → IsFirstFit m q (by_owner m q.kind q.address q.privileged o)
at_regions m q (Some k) missed owns = record { fits = owns; first = missed; granted = refl }
at_regions m q None missed owns =
    beyond m q (is_background m.control q.privileged) refl
    (and_regions m q missed (λ k other. let e = only_owner m q.address None (Some k) owns other in cc))

-- the first of the tests before the regions that holds
abbrev before : AccessQuery → Bool → Bool → Bool → Bool → Bool → Option Decision
before q xn vec ppb on neg =
    if xn then Some (record { rule = ExecuteNever; granted = false })
    else if vec then Some (record { rule = VectorRead; granted = true })
    else if ppb then Some (record { rule = PrivatePeripheralBus; granted = true })
    else if not on then Some (record { rule = MpuOff; granted = default_map q.address q.kind })
    else if neg then Some (record { rule = NegativePriority; granted = default_map q.address q.kind })
    else None

-- what the tests find
record Tests (m : Mpu) (q : AccessQuery) (xn vec ppb on neg : Bool) : Type 0 where
  xn_is : is_fetch_from_system q.address q.kind ≡ xn
  vec_is : is_vector q.kind ≡ vec
  ppb_is : is_ppb_data q.address q.kind ≡ ppb
  on_is : is_on m.control ≡ on
  neg_is : is_off_below_zero m.control q.below_zero ≡ neg

fit : (m : Mpu) (q : AccessQuery) (xn vec ppb on neg : Bool) (o : Option ℕ) → Tests m q xn vec ppb on neg
    → IsOwner m q.address o
    → IsFirstFit m q (first_of_two (before q xn vec ppb on neg) (by_owner m q.kind q.address q.privileged o))
fit m q true vec ppb on neg o t owns = record { fits = t.xn_is; first = nothing_above m q; granted = refl }
fit m q false true ppb on neg o t owns =
    let m1 = and_rule m q ExecuteNever (λ h. omega arith) (nothing_above m q) (both_ways _ t.xn_is) in
    record { fits = t.vec_is; first = m1; granted = refl }
fit m q false false true on neg o t owns =
    let m1 = and_rule m q ExecuteNever (λ h. omega arith) (nothing_above m q) (both_ways _ t.xn_is) in
    let m2 = and_rule m q VectorRead (λ h. omega arith) m1 (both_ways _ t.vec_is) in
    record { fits = t.ppb_is; first = m2; granted = refl }
fit m q false false false false neg o t owns =
    let m1 = and_rule m q ExecuteNever (λ h. omega arith) (nothing_above m q) (both_ways _ t.xn_is) in
    let m2 = and_rule m q VectorRead (λ h. omega arith) m1 (both_ways _ t.vec_is) in
    let m3 = and_rule m q PrivatePeripheralBus (λ h. omega arith) m2 (both_ways _ t.ppb_is) in
    record { fits = t.on_is; first = m3; granted = refl }
fit m q false false false true true o t owns =
    let m1 = and_rule m q ExecuteNever (λ h. omega arith) (nothing_above m q) (both_ways _ t.xn_is) in
    let m2 = and_rule m q VectorRead (λ h. omega arith) m1 (both_ways _ t.vec_is) in
    let m3 = and_rule m q PrivatePeripheralBus (λ h. omega arith) m2 (both_ways _ t.ppb_is) in
    let m4 = and_rule m q MpuOff (λ h. omega arith) m3 (λ f. both_ways _ f t.on_is) in
    record { fits = t.neg_is; first = m4; granted = refl }
fit m q false false false true false o t owns =
    let m1 = and_rule m q ExecuteNever (λ h. omega arith) (nothing_above m q) (both_ways _ t.xn_is) in
    let m2 = and_rule m q VectorRead (λ h. omega arith) m1 (both_ways _ t.vec_is) in
    let m3 = and_rule m q PrivatePeripheralBus (λ h. omega arith) m2 (both_ways _ t.ppb_is) in
    let m4 = and_rule m q MpuOff (λ h. omega arith) m3 (λ f. both_ways _ f t.on_is) in
    let m5 = and_rule m q NegativePriority (λ h. omega arith) m4 (both_ways _ t.neg_is) in
    at_regions m q o m5 owns

-- the decision is by the first case that fits
decision_is : (m : Mpu) (q : AccessQuery) → IsFirstFit m q (decision_of m q.address q.kind q.privileged q.below_zero)
unfolding decision_of before_regions
decision_is m q = fit m q _ _ _ _ _ (owner m q.address)
    (record { xn_is = refl; vec_is = refl; ppb_is = refl; on_is = refl; neg_is = refl }) (owner_is m q.address)

-- ---- two such decisions are one

same_case : (m : Mpu) (q : AccessQuery) (r s : Rule) → rank r ≡ rank s → Fits m q r → Fits m q s → r ≡ s
same_case m q r s e f g = lead (rank s == 5) refl
  where
    regions : rank r ≡ 5 → rank s ≡ 5 → r ≡ s
    regions at_r at_s =
        let j = number_of r at_r in
        let k = number_of s at_s in
        let same = only_owner m q.address (Some j.0) (Some k.0) (subst (Fits m q) j.1 f) (subst (Fits m q) k.1 g) in
        let h : j.0 ≡ k.0 = cc in
        j.1 ∙ ap Region h ∙ sym k.1

    lead : (b : Bool) → (rank s == 5) ≡ b → r ≡ s
    lead true t = let at_s : rank s ≡ 5 = eqb-true (rank s) 5 t in regions (e ∙ at_s) at_s
    lead false t = same_rule r s e (λ h. both_ways (rank s == 5) t (eq-eqb (rank s) 5 h))

same_decision : (d e : Decision) → d.rule ≡ e.rule → d.granted ≡ e.granted → d ≡ e
same_decision d e p g =
    let made : Rule → Bool → Decision = λ r b. record { rule = r; granted = b } in
    ap (λ r. made r d.granted) p ∙ ap (made e.rule) g

only_decision : (m : Mpu) (q : AccessQuery) (d e : Decision) → IsFirstFit m q d → IsFirstFit m q e → d ≡ e
only_decision m q d e f g = same_decision d e same (f.granted ∙ ap (rule_grants m q) same ∙ sym g.granted)
  where
    places : ((rank d.rule < rank e.rule) ⊎ (rank e.rule ≤ rank d.rule))
        → ((rank e.rule < rank d.rule) ⊎ (rank d.rule ≤ rank e.rule)) → rank d.rule ≡ rank e.rule
    places (inl under) _ = absurd (g.first d.rule under f.fits)
    places (inr _) (inl over) = absurd (f.first e.rule over g.fits)
    places (inr above) (inr below) = omega arith

    same : d.rule ≡ e.rule
    same = same_case m q d.rule e.rule
        (places (cases_lt (rank d.rule) (rank e.rule)) (cases_lt (rank e.rule) (rank d.rule))) f.fits g.fits

pub decision_exactly : (m : Mpu) (q : AccessQuery) (d : Decision)
    → IsFirstFit m q d ↔ (d ≡ decision_of m q.address q.kind q.privileged q.below_zero)
decision_exactly m q d = (
  λ f. only_decision m q d (decision_of m q.address q.kind q.privileged q.below_zero) f (decision_is m q),
  λ e. rw e (decision_is m q),
)
