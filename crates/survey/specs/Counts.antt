-- How many accesses there were of each rule, privilege, kind and outcome.
use Rattle.std.specs.Prelude.{ℕ, ◌+◌, ◌*◌, ◌^◌, ◌-◌, min, Bool, true, false, List, Option, Some, None, slice_index}
use Rattle.std.specs.Prelude.{slice_set}
use Rattle.platform.specs.declared.access.Cause.{Cause}
use Rattle.platform.specs.declared.access.Cause.TheVariants.{Mpu, Bus}
use Rattle.platform.specs.declared.access.DecidedAccess.{DecidedAccess}
use Rattle.platform.specs.declared.access.Kind.{Kind}
use Rattle.platform.specs.declared.access.Kind.TheVariants.{Fetch, Load, Store, Push, Pop, Vector, Probe}
use Rattle.platform.specs.declared.access.Rule.{Rule}
use Rattle.platform.specs.declared.access.Rule.TheVariants.{ExecuteNever, VectorRead, PrivatePeripheralBus, MpuOff}
use Rattle.platform.specs.declared.access.Rule.TheVariants.{NegativePriority, Region, Background, NoRegion}

-- the number of a rule: the rules that are no region from 0 to 6, and then the regions by their numbers
abbrev pub rule_number : Rule → ℕ
rule_number ExecuteNever = 0
rule_number VectorRead = 1
rule_number PrivatePeripheralBus = 2
rule_number MpuOff = 3
rule_number NegativePriority = 4
rule_number Background = 5
rule_number NoRegion = 6
rule_number (Region number) = 7 + number

-- the number of a privilege
abbrev pub privilege_number : Bool → ℕ
privilege_number false = 0
privilege_number true = 1

-- the number of a kind
abbrev pub kind_number : Kind → ℕ
kind_number Fetch = 0
kind_number Load = 1
kind_number Store = 2
kind_number Push = 3
kind_number Pop = 4
kind_number Vector = 5
kind_number Probe = 6

-- the number of an outcome: granted and carried out, refused by the MPU, refused by the bus
abbrev pub outcome_number : Option Cause → ℕ
outcome_number None = 0
outcome_number (Some Mpu) = 1
outcome_number (Some Bus) = 2

-- the place of the counter of a privilege, kind and outcome, of 42
abbrev pub way_of : Bool → Kind → Option Cause → ℕ
way_of privileged kind refused = (privilege_number privileged * 7 + kind_number kind) * 3 + outcome_number refused

-- the place of the counter of a rule, privilege, kind and outcome
abbrev pub place_of : Rule → Bool → Kind → Option Cause → ℕ
place_of rule privileged kind refused = rule_number rule * 42 + way_of privileged kind refused

-- the place of the counter of an access
abbrev pub place_of_access : DecidedAccess → ℕ
place_of_access d = place_of d.rule d.access.privileged d.access.kind d.refused

-- a counter after one more: it stays at its highest value
abbrev pub one_more : ℕ → ℕ
one_more n = min (n + 1) (2 ^ 64 - 1)

-- counters, of which the one at a place counts one more
abbrev pub counted_at : List ℕ → ℕ → List ℕ
counted_at counters place = slice_set counters place (one_more (slice_index counters place))

-- the number that is counted for a rule, privilege, kind and outcome
abbrev pub number_of : List ℕ → Rule → Bool → Kind → Option Cause → ℕ
number_of counters rule privileged kind refused = slice_index counters (place_of rule privileged kind refused)

-- the counters after an access
abbrev pub with_access : List ℕ → DecidedAccess → List ℕ
with_access counters d = counted_at counters (place_of_access d)
