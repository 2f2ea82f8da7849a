-- The ends of the lines of accesses that were done, as they are kept for later lines.
use Rattle.std.specs.Prelude.{ℕ, zero, suc, ◌==◌, Bool, true, List, ◌++◌, codes}
use Rattle.platform.specs.declared.access.Rule.{Rule}
use Rattle.platform.specs.declared.access.Rule.TheVariants.{ExecuteNever, VectorRead, PrivatePeripheralBus, MpuOff}
use Rattle.platform.specs.declared.access.Rule.TheVariants.{NegativePriority, Region, Background, NoRegion}
use Rattle.platform.specs.Text.{line_feed, privilege_text, rule_text}

-- from the space before the outcome on
abbrev pub end_text : Rule → List ℕ
end_text rule = codes " ok " ++ (rule_text rule ++ line_feed)

-- of a fetch by code of one privilege: all of the line after the address. A fetch is of a halfword, 2 bytes
abbrev pub fetch_end : Bool → Rule → List ℕ
fetch_end privileged rule = codes " 2 " ++ (privilege_text privileged ++ end_text rule)

-- the rule of a rank; that of a region has the number
abbrev pub rule_of : ℕ → ℕ → Rule
rule_of zero number = ExecuteNever
rule_of (suc zero) number = VectorRead
rule_of (suc (suc zero)) number = PrivatePeripheralBus
rule_of (suc (suc (suc zero))) number = MpuOff
rule_of (suc (suc (suc (suc zero)))) number = NegativePriority
rule_of (suc (suc (suc (suc (suc zero))))) number = Region number
rule_of (suc (suc (suc (suc (suc (suc zero)))))) number = Background
rule_of (suc (suc (suc (suc (suc (suc (suc rest))))))) number = NoRegion

-- whether a rule is that of the region with a number, or of no region
abbrev pub fits_number : ℕ → Rule → Bool
fits_number number ExecuteNever = true
fits_number number VectorRead = true
fits_number number PrivatePeripheralBus = true
fits_number number MpuOff = true
fits_number number NegativePriority = true
fits_number number (Region its) = number == its
fits_number number Background = true
fits_number number NoRegion = true
