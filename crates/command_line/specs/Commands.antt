-- The command line of the program: its commands, and the arguments that each takes.
use Rattle.std.specs.Prelude.{Some, ◌^◌, codes, true}
use Rattle.clap.specs.Simple.{App, Shape, new_app, new_rule, on_top, with_rule, with_subcommand}
use Rattle.clap.specs.Walk.{Rule, Text}
use Rattle.clap.specs.declared.builder.action.ArgAction.TheVariants.{Append, Set, SetTrue}
use Rattle.clap.specs.declared.builder.value_parser.ValueParser.TheVariants.{Unsigned}

-- an argument by its place, with one value
abbrev pub operand : Text → Rule
operand id = record (new_rule id) { value_names = 1; action = Some Set }

-- an argument by its name, as --board FILE, with one value
abbrev pub option : Text → Rule
option id = record (operand id) { long = Some id }

abbrev pub board : Rule
board = record (option (codes "board")) { required = true }

-- a decimal number from 0 to 2^32, which may be left out
abbrev pub limit : Rule
limit = record (option (codes "steps")) { parser = Some (Unsigned 0 (2 ^ 32)) }

-- the same, which has to be there
abbrev pub steps : Rule
steps = record limit { required = true }

abbrev pub image : Rule
image = record (operand (codes "image")) { required = true }

-- marm run --board FILE --steps N
abbrev pub run_in_steps : App
run_in_steps = with_rule (with_rule (new_app (codes "run")) board) steps

-- an option that may be there several times
abbrev pub dump : Rule
dump = record (option (codes "dump")) { action = Some Append }

-- and then [--trace WHICH] [--expect STOP]
abbrev pub run_with_ends : App
run_with_ends = with_rule (with_rule run_in_steps (option (codes "trace"))) (option (codes "expect"))

-- and then [--state FILE] [--dump ADDR:LENGTH=FILE]..
abbrev pub run_with_options : App
run_with_options = with_rule (with_rule run_with_ends (option (codes "state"))) dump

-- and then IMAGE
abbrev pub run : App
run = with_rule run_with_options image

-- marm report --board FILE --steps N IMAGE
abbrev pub report : App
report = with_rule (with_rule (with_rule (new_app (codes "report")) board) steps) image

-- marm tasks --board FILE --steps N
abbrev pub tasks_in_steps : App
tasks_in_steps = with_rule (with_rule (new_app (codes "tasks")) board) steps

-- an option without a value
abbrev pub expect_apart : Rule
expect_apart = record (new_rule (codes "expect-apart")) {
  long = Some (codes "expect-apart");
  action = Some SetTrue;
}

-- an option that may be there several times
abbrev pub allow : Rule
allow = record (option (codes "allow")) { action = Some Append }

-- and then [--expect-apart] [--allow A-B].. IMAGE
abbrev pub tasks : App
tasks = with_rule (with_rule (with_rule tasks_in_steps expect_apart) allow) image

-- marm debug --board FILE [--slots N] IMAGE
abbrev pub debug : App
debug = with_rule (with_rule (with_rule (new_app (codes "debug")) board) (option (codes "slots"))) image

-- marm gdb --board FILE [--steps N] IMAGE
abbrev pub gdb : App
gdb = with_rule (with_rule (with_rule (new_app (codes "gdb")) board) limit) image

-- marm has a version, and needs one of its commands
abbrev pub with_version : Shape → Shape
with_version s = record s { has_version = true; subcommand_required = true }

abbrev pub marm_of_runs : App
marm_of_runs =
    with_subcommand (with_subcommand (on_top with_version (new_app (codes "marm"))) run.top) report.top

abbrev pub marm_with_tasks : App
marm_with_tasks = with_subcommand marm_of_runs tasks.top

abbrev pub marm_with_debug : App
marm_with_debug = with_subcommand marm_with_tasks debug.top

abbrev pub marm : App
marm = with_subcommand marm_with_debug gdb.top
