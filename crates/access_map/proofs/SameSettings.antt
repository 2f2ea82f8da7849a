-- Worlds with the same setting decide alike: the decision reads nothing but MPU_CTRL, the regions, and whether the rule
-- `neg` holds.
use Rattle.std.proofs.Common.{◌≡◌, ℕ, zero, suc, ◌<◌, Bool, true, false, not, ◌&&◌, if◌then◌else◌, arith}
use Rattle.std.proofs.Common.{Option, Some, None, refl, sym, ap, ◌∙◌, ◌↔◌, ◌⊎◌, ◌≤◌, ◌==◌, inl, inr}
use Rattle.access_map.specs.declared.world.World.{World}
use Rattle.access_map.specs.Settings.{IsSameSetting, is_negative, is_same_region, are_same_below, are_equal}
use Rattle.access_map.specs.Settings.{is_same_setting}
use Rattle.std.proofs.lemmas.Bool.{cases_lt}
use Rattle.std.proofs.lemmas.Bool.Decides.{Decides-eqb}
use Rattle.access_map.specs.Worlds.{decision_in}
use Rattle.platform.specs.declared.access.Decision.{Decision}
use Rattle.platform.specs.declared.access.Kind.{Kind}
use Rattle.platform.specs.declared.access.Rule.TheVariants as rule
use Rattle.platform.specs.declared.mpu.Region.{Region}
use Rattle.platform.specs.Kinds.{is_vector}
use Rattle.platform.specs.Regions.{Mpu, is_on, matches, owner, owner_below, region}
use Rattle.platform.specs.Rules.{after_regions, before_regions, by_owner, decision_of, default_map, first_of_two}
use Rattle.platform.specs.Rules.{grants, is_fetch_from_system, is_off_below_zero, is_ppb_data}

-- ---- before the regions

-- what decides where the MPU is off, or off below priority 0
off_tail : Bool → Bool → Bool → Option Decision
off_tail on negative granted =
    if not on then Some (record { rule = rule.MpuOff; granted = granted })
    else if negative then Some (record { rule = rule.NegativePriority; granted = granted })
    else None

tail_alike : (on y z g : Bool) → (on && y) ≡ (on && z) → off_tail on y g ≡ off_tail on z g
unfolding off_tail
tail_alike true y z g e = ap (λ (b : Bool). off_tail true b g) e
tail_alike false y z g e = refl

before_alike : (control a : ℕ) (kind : Kind) (y z : Bool)
    → (is_on control && is_off_below_zero control y) ≡ (is_on control && is_off_below_zero control z)
    → before_regions control a kind y ≡ before_regions control a kind z
unfolding before_regions off_tail
before_alike control a kind y z e =
    ap (λ (t : Option Decision).
    if is_fetch_from_system a kind then Some (record { rule = rule.ExecuteNever; granted = false })
    else if is_vector kind then Some (record { rule = rule.VectorRead; granted = true })
    else if is_ppb_data a kind then Some (record { rule = rule.PrivatePeripheralBus; granted = true })
    else t)
    (tail_alike (is_on control) (is_off_below_zero control y) (is_off_below_zero control z) (default_map a kind) e)

-- ---- the regions

choice_alike : (m n : Mpu) (kind : Kind) (a k : ℕ) (p b c : Bool) (o q : Option ℕ) → b ≡ c
    → region m k ≡ region n k → by_owner m kind a p o ≡ by_owner n kind a p q
    → by_owner m kind a p (if b then Some k else o) ≡ by_owner n kind a p (if c then Some k else q)
choice_alike m n kind a k p b c o q e same rest = lead b c e
  where
    lead : (b c : Bool) → b ≡ c
        → by_owner m kind a p (if b then Some k else o) ≡ by_owner n kind a p (if c then Some k else q)
    lead true true e =
        ap (λ (r : Region).
        let made : Decision = record { rule = rule.Region k; granted = grants r.attributes kind p } in made) same
    lead false false e = rest
    lead true false e = absurd (let wrong : ⊥ = cc in wrong)
    lead false true e = absurd (let wrong : ⊥ = cc in wrong)

owner_alike : (m n : Mpu) (kind : Kind) (a : ℕ) (p : Bool) (k : ℕ) → m.control ≡ n.control
    → ((j : ℕ) → j < k → region m j ≡ region n j)
    → by_owner m kind a p (owner_below m a k) ≡ by_owner n kind a p (owner_below n a k)
unfolding owner_below
owner_alike m n kind a p zero control same = ap (λ (c : ℕ). after_regions c a kind p) control
owner_alike m n kind a p (suc k) control same =
    let e = same k (omega arith) in
    choice_alike m n kind a k p (matches (region m k) a) (matches (region n k) a) (owner_below m a k)
    (owner_below n a k) (ap (λ (r : Region). matches r a) e) e
    (owner_alike m n kind a p k control (λ j h. same j (omega arith)))

-- ---- the decision

pub same_decisions : (v w : World) (a : ℕ) (kind : Kind) → IsSameSetting v w
    → decision_in v a kind ≡ decision_in w a kind
unfolding decision_of owner
same_decisions v w a kind same =
    let m = v.registers in let n = w.registers in
    let e : before_regions m.control a kind v.below_zero ≡ before_regions m.control a kind w.below_zero =
    before_alike m.control a kind v.below_zero w.below_zero (same.negative
    ∙ ap (λ (c : ℕ). is_on c && is_off_below_zero c w.below_zero) (sym same.control)) in
    let f = e ∙ ap (λ (c : ℕ). before_regions c a kind w.below_zero) same.control in
    let g = owner_alike m n kind a false m.count same.control same.regions
    ∙ ap (λ (c : ℕ). by_owner n kind a false (owner_below n a c)) same.count in
    ap (λ (o : Option Decision). first_of_two o (by_owner m kind a false (owner m a))) f
    ∙ ap (λ (d : Decision). first_of_two (before_regions n.control a kind w.below_zero) d) g

-- ---- the test of two settings

and_left : (b c : Bool) → (b && c) ≡ true → b ≡ true
and_left true c e = refl
and_left false c e = absurd (let wrong : ⊥ = cc in wrong)

and_right : (b c : Bool) → (b && c) ≡ true → c ≡ true
and_right true c e = e
and_right false c e = absurd (let wrong : ⊥ = cc in wrong)

both : (b c : Bool) → b ≡ true → c ≡ true → (b && c) ≡ true
both b c e f = ap (λ (x : Bool). x && c) e ∙ f

equal_exactly : (b c : Bool) → (b ≡ c) ↔ (are_equal b c ≡ true)
equal_exactly true true = ((λ e. refl), (λ e. refl))
equal_exactly false false = ((λ e. refl), (λ e. refl))
equal_exactly true false = ((λ e. absurd (let wrong : ⊥ = cc in wrong)), (λ e. absurd (let wrong : ⊥ = cc in wrong)))
equal_exactly false true = ((λ e. absurd (let wrong : ⊥ = cc in wrong)), (λ e. absurd (let wrong : ⊥ = cc in wrong)))

region_exactly : (r s : Region) → (r ≡ s) ↔ (is_same_region r s ≡ true)
region_exactly r s = (
  (λ e. both (r.base == s.base) (r.attributes == s.attributes)
      ((Decides-eqb r.base s.base).1 (ap (λ (x : Region). x.base) e))
      ((Decides-eqb r.attributes s.attributes).1 (ap (λ (x : Region). x.attributes) e))),
  (λ e. ap (λ (b : ℕ). made b r.attributes)
      ((Decides-eqb r.base s.base).0 (and_left (r.base == s.base) (r.attributes == s.attributes) e))
      ∙ ap (λ (a : ℕ). made s.base a)
      ((Decides-eqb r.attributes s.attributes).0 (and_right (r.base == s.base) (r.attributes == s.attributes) e))),
)
  where
    made : ℕ → ℕ → Region
    made base attributes = record { base = base; attributes = attributes }

regions_from : (m n : Mpu) (k : ℕ) → ((j : ℕ) → j < k → region m j ≡ region n j) → are_same_below m n k ≡ true
regions_from m n zero same = refl
regions_from m n (suc k) same =
    both (are_same_below m n k) (is_same_region (region m k) (region n k))
    (regions_from m n k (λ j h. same j (omega arith)))
    ((region_exactly (region m k) (region n k)).0 (same k (omega arith)))

regions_to : (m n : Mpu) (k j : ℕ) → are_same_below m n k ≡ true → j < k → region m j ≡ region n j
regions_to m n zero j e h = absurd (let wrong : ⊥ = omega arith in wrong)
regions_to m n (suc k) j e h =
    lead (cases_lt j k)
    (λ less. regions_to m n k j (and_left (are_same_below m n k) (is_same_region (region m k) (region n k)) e) less)
  where
    here : region m k ≡ region n k
    here = (region_exactly (region m k) (region n k)).1
        (and_right (are_same_below m n k) (is_same_region (region m k) (region n k)) e)

    lead : ((j < k) ⊎ (k ≤ j)) → (j < k → region m j ≡ region n j) → region m j ≡ region n j
    lead (inl less) before = before less
    lead (inr more) before = let last : j ≡ k = omega arith in rw last here

-- the test is right
pub same_exactly : (v w : World) → IsSameSetting v w ↔ (is_same_setting v w ≡ true)
unfolding is_same_setting
same_exactly v w = (
  (λ same. both numbers others
      (both (m.control == n.control) (m.count == n.count) ((Decides-eqb m.control n.control).1 same.control)
      ((Decides-eqb m.count n.count).1 same.count))
      (both (are_same_below m n m.count) (are_equal (is_negative v) (is_negative w))
      (regions_from m n m.count same.regions) ((equal_exactly (is_negative v) (is_negative w)).0 same.negative))),
  (λ e. record {
    control = (Decides-eqb m.control n.control).0
        (and_left (m.control == n.control) (m.count == n.count) (and_left numbers others e));
    count = (Decides-eqb m.count n.count).0
        (and_right (m.control == n.control) (m.count == n.count) (and_left numbers others e));
    regions = λ k h. regions_to m n m.count k
        (and_left (are_same_below m n m.count) (are_equal (is_negative v) (is_negative w))
        (and_right numbers others e)) h;
    negative = (equal_exactly (is_negative v) (is_negative w)).1
        (and_right (are_same_below m n m.count) (are_equal (is_negative v) (is_negative w))
        (and_right numbers others e));
  }),
)
  where
    m : Mpu
    m = v.registers

    n : Mpu
    n = w.registers

    numbers : Bool
    numbers = (v.registers.control == w.registers.control) && (v.registers.count == w.registers.count)

    others : Bool
    others = are_same_below v.registers w.registers v.registers.count && are_equal (is_negative v) (is_negative w)

-- what decides the same fact as a test is that test
pub decided : (b c : Bool) (P : Type 0) → (b ≡ true → P) → (P → b ≡ true) → (P → c ≡ true) → (c ≡ true → P) → b ≡ c
decided true true P f g h k = refl
decided true false P f g h k = absurd (let e = h (f refl) in let wrong : ⊥ = cc in wrong)
decided false true P f g h k = absurd (let e = g (k refl) in let wrong : ⊥ = cc in wrong)
decided false false P f g h k = refl
