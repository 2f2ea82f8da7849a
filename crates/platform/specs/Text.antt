-- The words of the trace (profile): of accesses, rules, outcomes and faults, and the line of the stop. The lines of
-- events are in `Events`. Each line ends with a line feed.
-- Ticks, sizes, and the numbers of regions, exceptions and breakpoints are decimal, all other numbers hexadecimal, in
-- upper case.
use Rattle.std.specs.Prelude.{ℕ, ◌+◌, ◌/◌, ◌%◌, nat_lt, Bool, true, false, if◌then◌else◌, List, [], ◌∷◌, ◌++◌, Option}
use Rattle.std.specs.Prelude.{Some, None, codes, decimal}
use Rattle.instruction_set.specs.declared.unpredictable.UnpredictableCase.{UnpredictableCase}
use Rattle.instruction_set.specs.declared.unpredictable.UnpredictableCase.TheVariants.{Encoding, ItBlock, FewRegisters}
use Rattle.instruction_set.specs.declared.unpredictable.UnpredictableCase.TheVariants.{Registers, StoredBase, Immediate}
use Rattle.instruction_set.specs.declared.unpredictable.UnpredictableCase.TheVariants.{BitField, SpecialRegister}
use Rattle.instruction_set.specs.declared.unpredictable.UnpredictableCase.TheVariants.{LoadPc, LiteralPc, MpuRegion}
use Rattle.instruction_set.specs.declared.unpredictable.UnpredictableCase.TheVariants.{MpuControl, Icsr}
use Rattle.instruction_set.specs.declared.unpredictable.UnpredictableCase.TheVariants.{ExceptionReturn, PoppedPc}
use Rattle.instruction_set.specs.Sizes.{bytes_in}
use Rattle.platform.specs.declared.access.Access.{Access}
use Rattle.platform.specs.declared.access.Cause.{Cause}
use Rattle.platform.specs.declared.access.Cause.TheVariants.{Mpu, Bus}
use Rattle.platform.specs.declared.access.DecidedAccess.{DecidedAccess}
use Rattle.platform.specs.declared.access.Kind.{Kind}
use Rattle.platform.specs.declared.access.Kind.TheVariants.{Fetch, Load, Store, Push, Pop, Vector, Probe}
use Rattle.platform.specs.declared.access.Rule.{Rule}
use Rattle.platform.specs.declared.access.Rule.TheVariants.{ExecuteNever, VectorRead, PrivatePeripheralBus, MpuOff}
use Rattle.platform.specs.declared.access.Rule.TheVariants.{NegativePriority, Region, Background, NoRegion}
use Rattle.platform.specs.declared.event.RecordedFault.{RecordedFault}
use Rattle.platform.specs.declared.stop.Unsupported.{Unsupported}
use Rattle.platform.specs.declared.stop.Unsupported.TheVariants.{ExclusiveDevice, UnalignedDevice, RegisterWidth}
use Rattle.platform.specs.declared.stop.Unsupported.TheVariants.{ActiveBit, IgnoredBusFaults, SleepOnExit, ResetControl}
use Rattle.platform.specs.declared.stop.Unsupported.TheVariants.{ClockEnd}
use Rattle.platform.specs.declared.stop.Stop.{Stop}
use Rattle.platform.specs.declared.stop.Stop.TheVariants.{StepLimit, Breakpoint, Lockup, Unpredictable, OutOfProfile}
use Rattle.platform.specs.declared.stop.Stop.TheVariants.{ResetRequested}

-- the digit of a number below 16
abbrev pub hex_digit : ℕ → ℕ
hex_digit n = if nat_lt n 10 then 48 + n else 55 + n

-- two digits
abbrev pub hex_byte : ℕ → List ℕ
hex_byte n = hex_digit (n / 16) ∷ hex_digit (n % 16) ∷ []

-- eight digits
abbrev pub hex_word : ℕ → List ℕ
hex_word n = ((hex_byte (n / 0x100_0000) ++ hex_byte (n / 0x1_0000 % 256)) ++ hex_byte (n / 0x100 % 256))
    ++ hex_byte (n % 256)

abbrev pub line_feed : List ℕ
line_feed = 10 ∷ []

abbrev pub kind_text : Kind → List ℕ
kind_text Fetch = codes "F"
kind_text Load = codes "L"
kind_text Store = codes "S"
kind_text Push = codes "K"
kind_text Pop = codes "U"
kind_text Vector = codes "V"
kind_text Probe = codes "P"

abbrev pub privilege_text : Bool → List ℕ
privilege_text true = codes "p"
privilege_text false = codes "u"

-- what refused an access, or `ok`
abbrev pub outcome_text : Option Cause → List ℕ
outcome_text None = codes "ok"
outcome_text (Some Mpu) = codes "mpu"
outcome_text (Some Bus) = codes "bus"

abbrev pub rule_text : Rule → List ℕ
rule_text ExecuteNever = codes "xn"
rule_text VectorRead = codes "vec"
rule_text PrivatePeripheralBus = codes "ppb"
rule_text MpuOff = codes "off"
rule_text NegativePriority = codes "neg"
rule_text (Region number) = codes "r" ++ decimal number
rule_text Background = codes "bg"
rule_text NoRegion = codes "none"

-- kind, address, size and privilege
abbrev pub access_text : Access → List ℕ
access_text a =
    (((((kind_text a.kind ++ codes " ") ++ hex_word a.address) ++ codes " ") ++ decimal (bytes_in a.size)) ++ codes " ")
    ++ privilege_text a.privileged

-- the access, what became of it, and the rule
abbrev pub decided_text : DecidedAccess → List ℕ
decided_text d =
    (((access_text d.access ++ codes " ") ++ outcome_text d.refused) ++ codes " ") ++ rule_text d.rule

-- the exception, CFSR and HFSR
abbrev pub fault_text : RecordedFault → List ℕ
fault_text f = (((decimal f.exception ++ codes " ") ++ hex_word f.cfsr) ++ codes " ") ++ hex_word f.hfsr

abbrev pub unpredictable_text : UnpredictableCase → List ℕ
unpredictable_text Encoding = codes "encoding"
unpredictable_text ItBlock = codes "it-block"
unpredictable_text FewRegisters = codes "empty-list"
unpredictable_text Registers = codes "registers"
unpredictable_text StoredBase = codes "stored-base"
unpredictable_text Immediate = codes "immediate"
unpredictable_text BitField = codes "bit-field"
unpredictable_text SpecialRegister = codes "special-register"
unpredictable_text LoadPc = codes "load-pc"
unpredictable_text LiteralPc = codes "literal-pc"
unpredictable_text MpuRegion = codes "mpu-region"
unpredictable_text MpuControl = codes "mpu-ctrl"
unpredictable_text Icsr = codes "icsr"
unpredictable_text ExceptionReturn = codes "exc-return"
unpredictable_text PoppedPc = codes "popped-pc"

abbrev pub unsupported_text : Unsupported → List ℕ
unsupported_text ExclusiveDevice = codes "exclusive-device"
unsupported_text UnalignedDevice = codes "unaligned-device"
unsupported_text RegisterWidth = codes "register-width"
unsupported_text ActiveBit = codes "active-bit"
unsupported_text IgnoredBusFaults = codes "bfhfnmign"
unsupported_text SleepOnExit = codes "sleeponexit"
unsupported_text ResetControl = codes "aircr"
unsupported_text ClockEnd = codes "clock-end"

abbrev pub stop_text : Stop → List ℕ
stop_text StepLimit = codes "steps"
stop_text (Breakpoint number) = codes "breakpoint " ++ decimal number
stop_text Lockup = codes "lockup"
stop_text (Unpredictable why) = codes "unpredictable " ++ unpredictable_text why
stop_text (OutOfProfile why) = codes "outofprofile " ++ unsupported_text why
stop_text ResetRequested = codes "reset"

-- the line of a stop
unfoldable pub stop_line : Stop → List ℕ
stop_line s = (codes "stop " ++ stop_text s) ++ line_feed
