-- Texts in plain words: the answers to `monitor help` and `monitor why`, and the second line of `monitor explain`
-- (profile).
use Rattle.std.specs.Prelude.{ℕ, Bool, true, false, List, ◌++◌, codes, decimal, Option, Some, None}
use Rattle.platform.specs.declared.access.Decision.{Decision}
use Rattle.platform.specs.declared.access.Rule.{Rule}
use Rattle.platform.specs.declared.access.Rule.TheVariants as rule
use Rattle.platform.specs.Text.{line_feed}
use Rattle.gdb_texts.specs.declared.replies.ErrorCode.{ErrorCode}
use Rattle.gdb_texts.specs.declared.replies.ErrorCode.TheVariants as code
use Rattle.gdb_texts.specs.declared.texts.TheConstants.{HELP}

-- a line for each command
unfoldable pub monitor_help : List ℕ
monitor_help = HELP.now

-- the line of a refusal
abbrev pub refusal_text : ErrorCode → List ℕ
refusal_text code.NoAnnex = codes "E00: there is no description but target.xml" ++ line_feed
refusal_text code.NotAligned = codes "E01: a system register is written by a whole word at its address" ++ line_feed
refusal_text code.NoSuchPlace = codes "E02: no register or memory that can be written" ++ line_feed
refusal_text code.Stopped = codes "E03: not now: stopped, in a handler, or entering an exception" ++ line_feed
refusal_text code.Refused = codes "E04: the write would stop the machine" ++ line_feed
refusal_text code.Malformed = codes "E05: a packet not of its form" ++ line_feed
refusal_text code.NoRoom = codes "E06: no room for another breakpoint or watchpoint" ++ line_feed
refusal_text code.TooLong = codes "E07: a packet of more than 4096 bytes" ++ line_feed
refusal_text code.NotReadable = codes "E08: no byte can be read there" ++ line_feed

-- the answer to `why`, for the last packet that was refused
abbrev pub why_text : Option ErrorCode → List ℕ
why_text None = codes "no packet was refused" ++ line_feed
why_text (Some error) = refusal_text error

-- what a rule means
abbrev pub rule_words : Rule → List ℕ
rule_words rule.ExecuteNever = codes "no code is fetched from e0000000 on"
rule_words rule.VectorRead = codes "vectors are read without asking the MPU"
rule_words rule.PrivatePeripheralBus = codes "the Private Peripheral Bus is for privileged code"
rule_words rule.MpuOff = codes "the MPU is off, so the default memory map decides"
rule_words rule.NegativePriority =
    codes "the priority is below 0 and HFNMIENA is 0, so the default memory map decides"
rule_words (rule.Region number) = codes "the highest region with this address is " ++ decimal number
rule_words rule.Background = codes "no region has this address, so the default memory map decides"
rule_words rule.NoRegion = codes "no region has this address"

abbrev pub verdict_text : Bool → List ℕ
verdict_text true = codes ": granted" ++ line_feed
verdict_text false = codes ": refused" ++ line_feed

-- what the rule of a decision means, and whether it grants the access
abbrev pub explanation : Decision → List ℕ
explanation d = rule_words d.rule ++ verdict_text d.granted
