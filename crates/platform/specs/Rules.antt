-- Which rule decides an access, and what it grants (ARM DDI 0403, "Protected Memory System Architecture, PMSAv7": "MPU
-- fault handling", and the pseudocode of ValidateAddress(), DefaultMemoryAttributes(), DefaultPermissions() and
-- CheckPermission()). The first case that fits decides.
use Rattle.std.specs.Prelude.{◌≡◌, ℕ, ◌/◌, ◌^◌, ◌<◌, Bool, true, false, not, ◌&&◌, ◌||◌, ◌==◌, nat_lt, nat_le}
use Rattle.std.specs.Prelude.{if◌then◌else◌, Option, Some, None, ⊤}
use Rattle.platform.specs.declared.access.Decision.{Decision}
use Rattle.platform.specs.declared.access.Kind.{Kind}
use Rattle.platform.specs.declared.access.Kind.TheVariants.{Fetch, Load, Store, Push, Pop, Vector, Probe}
use Rattle.platform.specs.declared.access.Rule.{Rule}
use Rattle.platform.specs.declared.access.Rule.TheVariants.{ExecuteNever, VectorRead, PrivatePeripheralBus, MpuOff}
use Rattle.platform.specs.declared.access.Rule.TheVariants.{NegativePriority, Region, Background, NoRegion}
use Rattle.platform.specs.Kinds.{is_fetch, is_vector}
use Rattle.platform.specs.Map.{system_base, is_in_ppb}
use Rattle.platform.specs.Regions.{Mpu, region, owner, permission, never_executes, is_on, is_on_below_zero}
use Rattle.platform.specs.Regions.{has_background, IsOwner}

-- whether the default map lets code be executed there, by address bits 31:29: code, RAM and external RAM, but no device
-- and no system address
abbrev pub is_executable : ℕ → Bool
is_executable a = nat_lt (a / 2 ^ 29) 2 || (a / 2 ^ 29 == 3) || (a / 2 ^ 29 == 4)

-- what the default map grants: each access that isn't a fetch, and a fetch where the address is executable
abbrev pub default_map : ℕ → Kind → Bool
default_map a Fetch = is_executable a
default_map a Load = true
default_map a Store = true
default_map a Push = true
default_map a Pop = true
default_map a Vector = true
default_map a Probe = true

-- The cases before the regions

-- a fetch from the system address space
abbrev pub is_fetch_from_system : ℕ → Kind → Bool
is_fetch_from_system a kind = is_fetch kind && nat_le system_base a

-- a data access to the Private Peripheral Bus
abbrev pub is_ppb_data : ℕ → Kind → Bool
is_ppb_data a kind = not (is_fetch kind) && is_in_ppb a

-- the execution priority is below 0, and MPU_CTRL.HFNMIENA is 0
abbrev pub is_off_below_zero : ℕ → Bool → Bool
is_off_below_zero control below_zero = below_zero && not (is_on_below_zero control)

-- the rule that decides without asking the regions, if one does
unfoldable pub before_regions : ℕ → ℕ → Kind → Bool → Option Decision
before_regions control a kind below_zero =
    if is_fetch_from_system a kind then Some (record { rule = ExecuteNever; granted = false })
    else if is_vector kind then Some (record { rule = VectorRead; granted = true })
    else if is_ppb_data a kind then Some (record { rule = PrivatePeripheralBus; granted = true })
    else if not (is_on control) then Some (record { rule = MpuOff; granted = default_map a kind })
    else if is_off_below_zero control below_zero
    then Some (record { rule = NegativePriority; granted = default_map a kind })
    else None

-- What a region grants: CheckPermission()

-- AP lets code of that privilege read: privileged code except at 000 and 100, unprivileged code at 010, 011, 110 and
-- 111
abbrev pub may_read : ℕ → Bool → Bool
may_read ap true = not (ap == 0) && not (ap == 4)
may_read ap false = (ap == 2) || (ap == 3) || (ap == 6) || (ap == 7)

-- AP lets code of that privilege write: privileged code at 001, 010 and 011, unprivileged code at 011
abbrev pub may_write : ℕ → Bool → Bool
may_write ap true = (ap == 1) || (ap == 2) || (ap == 3)
may_write ap false = ap == 3

-- what AP and XN grant: a fetch needs read permission, and XN 0
abbrev pub permission_grants : ℕ → Bool → Kind → Bool → Bool
permission_grants ap xn Fetch privileged = may_read ap privileged && not xn
permission_grants ap xn Load privileged = may_read ap privileged
permission_grants ap xn Store privileged = may_write ap privileged
permission_grants ap xn Push privileged = may_write ap privileged
permission_grants ap xn Pop privileged = may_read ap privileged
permission_grants ap xn Vector privileged = may_read ap privileged
permission_grants ap xn Probe privileged = may_write ap privileged

-- what the attributes of a region grant
abbrev pub grants : ℕ → Kind → Bool → Bool
grants attributes kind privileged =
    permission_grants (permission attributes) (never_executes attributes) kind privileged

-- The regions, and the rules after them

-- privileged code has the default map where no region matches and MPU_CTRL.PRIVDEFENA is 1
abbrev pub is_background : ℕ → Bool → Bool
is_background control privileged = privileged && has_background control

-- what decides where no region matches
abbrev pub after_regions : ℕ → ℕ → Kind → Bool → Decision
after_regions control a kind privileged =
    if is_background control privileged
    then record { rule = Background; granted = default_map a kind }
    else record { rule = NoRegion; granted = false }

-- the region that the address belongs to decides; where it belongs to none, the rules after them
abbrev pub by_owner : Mpu → Kind → ℕ → Bool → Option ℕ → Decision
by_owner m kind a privileged (Some k) =
    record { rule = Region k; granted = grants (region m k).attributes kind privileged }
by_owner m kind a privileged None = after_regions m.control a kind privileged

-- the first decision, or the second where there is no first
abbrev pub first_of_two : Option Decision → Decision → Decision
first_of_two (Some decision) other = decision
first_of_two None other = other

-- the rule that decides an access of that kind to an address, by code of that privilege, and whether it grants it;
-- `below_zero` says whether the execution priority is below 0
unfoldable pub decision_of : Mpu → ℕ → Kind → Bool → Bool → Decision
decision_of m a kind privileged below_zero =
    first_of_two (before_regions m.control a kind below_zero) (by_owner m kind a privileged (owner m a))

-- The same as a table: the first case that fits decides

-- an access that is to be decided
pub record AccessQuery : Type 0 where
  pub address : ℕ
  pub kind : Kind
  pub privileged : Bool
  pub below_zero : Bool

-- a rule's rank in the table: how many cases are above its own
abbrev pub rank : Rule → ℕ
rank ExecuteNever = 0
rank VectorRead = 1
rank PrivatePeripheralBus = 2
rank MpuOff = 3
rank NegativePriority = 4
rank (Region k) = 5
rank Background = 6
rank NoRegion = 7

-- whether the case of a rule fits, whatever cases come before it (`rank` has their order)
abbrev pub Fits : Mpu → AccessQuery → Rule → Type 0
Fits m q ExecuteNever = is_fetch_from_system q.address q.kind ≡ true
Fits m q VectorRead = is_vector q.kind ≡ true
Fits m q PrivatePeripheralBus = is_ppb_data q.address q.kind ≡ true
Fits m q MpuOff = is_on m.control ≡ false
Fits m q NegativePriority = is_off_below_zero m.control q.below_zero ≡ true
Fits m q (Region k) = IsOwner m q.address (Some k)
Fits m q Background = is_background m.control q.privileged ≡ true
Fits m q NoRegion = ⊤

-- what a rule grants, where it decides
abbrev pub rule_grants : Mpu → AccessQuery → Rule → Bool
rule_grants m q ExecuteNever = false
rule_grants m q VectorRead = true
rule_grants m q PrivatePeripheralBus = true
rule_grants m q MpuOff = default_map q.address q.kind
rule_grants m q NegativePriority = default_map q.address q.kind
rule_grants m q (Region k) = grants (region m k).attributes q.kind q.privileged
rule_grants m q Background = default_map q.address q.kind
rule_grants m q NoRegion = false

-- a decision names the first case that fits, and grants what that case grants
pub record IsFirstFit (m : Mpu) (q : AccessQuery) (d : Decision) : Type 0 where
  pub fits : Fits m q d.rule
  pub first : (r : Rule) → rank r < rank d.rule → Fits m q r → ⊥
  pub granted : d.granted ≡ rule_grants m q d.rule
