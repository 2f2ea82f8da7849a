-- What a session keeps beside the machine and the line: which lines steps have, and what ends a run (profile).
use Rattle.std.specs.Prelude.{ℕ, Bool, true, false, List, [], ◌++◌, codes, decimal, Option, Some, None}
use Rattle.std.specs.Prelude.{Result, Ok, Err}
use Rattle.debugger_commands.specs.declared.commands.Command.{Command}
use Rattle.debugger_commands.specs.declared.commands.Command.TheVariants as command
use Rattle.debugger_commands.specs.declared.commands.LineError.{LineError}
use Rattle.debugger_commands.specs.declared.conditions.Condition.{Condition}
use Rattle.debugger_commands.specs.declared.conditions.Condition.TheVariants as condition
use Rattle.debugger_commands.specs.declared.conditions.LineSelection.{LineSelection}
use Rattle.debugger_commands.specs.declared.conditions.LineSelection.TheVariants as lines
use Rattle.debugger_commands.specs.declared.watchpoints.Watchpoint.{Watchpoint}
use Rattle.debugger_commands.specs.Breakpoints.{breakpoint_text, with_breakpoint}
use Rattle.debugger_commands.specs.Texts.{error_text}
use Rattle.debugger_commands.specs.Watchpoints.{watchpoint_text, with_watchpoint}
use Rattle.platform.specs.Boards.{Numbers, RamSpan}
use Rattle.platform.specs.Map.{ram_base}
use Rattle.platform.specs.Text.{hex_word, line_feed}

pub record Settings : Type 0 where
  -- the board's numbers, which `script 1` answers
  pub board : Numbers
  -- how many states of the machine can be saved
  pub slots : ℕ
  -- what ends a run
  pub breakpoints : List ℕ
  pub watchpoints : List Watchpoint
  pub refused : Bool
  pub faults : Bool
  pub exceptions : Bool
  -- which lines steps have
  pub selection : LineSelection
  -- whether `script 1` was read
  pub is_script : Bool

-- before the first line
abbrev pub opened_settings : Numbers → ℕ → Settings
opened_settings board slots = record {
  board = board;
  slots = slots;
  breakpoints = [];
  watchpoints = [];
  refused = false;
  faults = false;
  exceptions = false;
  selection = lines.All;
  is_script = false;
}

-- nothing but a stop of the machine ends a run
abbrev pub without_conditions : Settings → Settings
without_conditions k =
    record k { breakpoints = []; watchpoints = []; refused = false; faults = false; exceptions = false }

abbrev pub with_condition : Settings → Condition → Bool → Settings
with_condition k condition.Refused on = record k { refused = on }
with_condition k condition.Faults on = record k { faults = on }
with_condition k condition.Exceptions on = record k { exceptions = on }

-- the settings after a line
abbrev pub settings_after : Settings → Result Command LineError → Settings
settings_after k (Err why) = k
settings_after k (Ok (command.Run n)) = k
settings_after k (Ok (command.Task n)) = k
settings_after k (Ok (command.Break a)) = record k { breakpoints = with_breakpoint k.breakpoints a }
settings_after k (Ok (command.Show what)) = k
settings_after k (Ok command.Quit) = k
settings_after k (Ok (command.Trace selection)) = record k { selection = selection }
settings_after k (Ok (command.Watch w)) = record k { watchpoints = with_watchpoint k.watchpoints w }
settings_after k (Ok (command.Stop what on)) = with_condition k what on
settings_after k (Ok command.Clear) = without_conditions k
settings_after k (Ok command.Script) = record k { is_script = true }
settings_after k (Ok (command.Change what)) = k

-- ---- the answers of the commands that change settings

abbrev pub ok_text : List ℕ
ok_text = codes "ok" ++ line_feed

-- where a block of memory begins, and how many bytes it has
abbrev pub block_line : List ℕ → ℕ → ℕ → List ℕ
block_line name base size = ((name ++ hex_word base) ++ codes " ") ++ (decimal size ++ line_feed)

abbrev pub number_line : List ℕ → ℕ → List ℕ
number_line name number = name ++ (decimal number ++ line_feed)

-- the second RAM, where the board has one
abbrev pub second_ram_line : Option RamSpan → List ℕ
second_ram_line None = []
second_ram_line (Some second) = block_line (codes "second_ram ") second.base second.size

-- the blocks of memory of the board
unfoldable pub memory_lines : Numbers → List ℕ
memory_lines board =
    block_line (codes "flash ") board.flash_base board.flash_size
    ++ (block_line (codes "ram ") ram_base board.ram_size ++ second_ram_line board.second_ram)

-- the numbers of the board, and how many states of the machine can be saved
unfoldable pub facts_text : Numbers → ℕ → List ℕ
facts_text board slots =
    number_line (codes "script ") 1 ++ (memory_lines board
    ++ (number_line (codes "priority_bits ") board.priority_bits ++ (number_line (codes "lines ") board.interrupts
    ++ (number_line (codes "regions ") board.regions ++ number_line (codes "slots ") slots))))

-- the text for a line that neither makes a step, nor shows or changes the machine; `quit` has none
abbrev pub settings_text : Settings → Result Command LineError → List ℕ
settings_text k (Err why) = error_text why
settings_text k (Ok (command.Run n)) = []
settings_text k (Ok (command.Task n)) = []
settings_text k (Ok (command.Break a)) = breakpoint_text k.breakpoints a
settings_text k (Ok (command.Show what)) = []
settings_text k (Ok command.Quit) = []
settings_text k (Ok (command.Trace selection)) = ok_text
settings_text k (Ok (command.Watch w)) = watchpoint_text k.watchpoints w
settings_text k (Ok (command.Stop what on)) = ok_text
settings_text k (Ok command.Clear) = ok_text
settings_text k (Ok command.Script) = facts_text k.board k.slots
settings_text k (Ok (command.Change what)) = []
