-- The texts of answers (profile).
use Rattle.std.specs.Prelude.{ℕ, zero, suc, Bool, true, false, List, [], ◌++◌, slice_index, codes, decimal, Option}
use Rattle.std.specs.Prelude.{Some, None}
use Rattle.debugger_commands.specs.declared.commands.LineError.{LineError}
use Rattle.debugger_commands.specs.declared.commands.LineError.TheVariants as error
use Rattle.debugger_commands.specs.declared.help.TheConstants.{HELP}
use Rattle.instruction_set.specs.Words.{word_sum}
use Rattle.platform.specs.declared.access.Decision.{Decision}
use Rattle.platform.specs.declared.stop.Stop.{Stop}
use Rattle.reference.specs.Peek.{peek_memory_or_device}
use Rattle.reference.specs.State.{Bus}
use Rattle.platform.specs.Regions.{Mpu, region_registers}
use Rattle.platform.specs.Text.{hex_byte, hex_word, line_feed, rule_text, stop_line}

-- ---- regs: a line for each register

abbrev pub spaced : ℕ → List ℕ
spaced word = codes " " ++ hex_word word

-- a value after the name of its register
abbrev pub value_text : ℕ → List ℕ
value_text value = spaced value ++ line_feed

abbrev pub register_line : List ℕ → ℕ → List ℕ
register_line name value = name ++ value_text value

-- the lines of the general registers below n
unfoldable pub general_lines : List ℕ → ℕ → List ℕ
general_lines values zero = []
general_lines values (suc n) =
    general_lines values n ++ register_line (codes "R" ++ decimal n) (slice_index values n)

-- ---- mem a n: the address, and each byte

abbrev pub byte_text : Option ℕ → List ℕ
byte_text None = codes " --"
byte_text (Some byte) = codes " " ++ hex_byte byte

-- the first n bytes from an address on, which wraps at 2^32
unfoldable pub bytes_text : Bus → ℕ → ℕ → List ℕ
bytes_text b a zero = []
bytes_text b a (suc n) = bytes_text b a n ++ byte_text (peek_memory_or_device b (word_sum a n))

abbrev pub memory_text : Bus → ℕ → ℕ → List ℕ
memory_text b a n = ((hex_word a ++ codes ":") ++ bytes_text b a n) ++ line_feed

-- ---- regions: a line for each region that the board has

abbrev pub region_name : ℕ → List ℕ
region_name k = codes "r" ++ decimal k

abbrev pub words_line : ℕ → ℕ → ℕ → List ℕ
words_line k rbar rasr = (region_name k ++ spaced rbar) ++ value_text rasr

abbrev pub region_line : ℕ → Option (ℕ × ℕ) → List ℕ
region_line k None = []
region_line k (Some words) = words_line k words.0 words.1

unfoldable pub region_lines : Mpu → ℕ → List ℕ
region_lines m zero = []
region_lines m (suc k) = region_lines m k ++ region_line k (region_registers m k)

-- ---- explain: the rule that would decide, and whether it would grant the access

abbrev pub grant_text : Bool → List ℕ
grant_text true = codes " ok"
grant_text false = codes " mpu"

abbrev pub decision_text : Decision → List ℕ
decision_text d = (rule_text d.rule ++ grant_text d.granted) ++ line_feed

-- ---- the ends of a run and of a wrong line

-- where the machine is: its stop, or the address of the next instruction
abbrev pub end_text : ℕ → Option Stop → List ℕ
end_text pc None = (codes "at " ++ hex_word pc) ++ line_feed
end_text pc (Some why) = stop_line why

abbrev pub error_text : LineError → List ℕ
error_text error.Command = codes "error 1" ++ line_feed
error_text error.Word = codes "error 2" ++ line_feed

-- ---- help: a line for each command

unfoldable pub help_text : List ℕ
help_text = HELP.now
