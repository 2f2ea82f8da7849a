-- What the program says of arguments that ask for no subcommand.
use Rattle.std.specs.Prelude.{◌≡◌, ◌⊎◌, List, [], Result, Ok, Err}
use Rattle.clap.specs.Faults.{fault_of}
use Rattle.clap.specs.Kinds.{IsAmong}
use Rattle.clap.specs.Simple.{subcommand_of}
use Rattle.clap.specs.Walk.{Text}
use Rattle.clap.specs.declared.error.kind.ErrorKind.{ErrorKind}
use Rattle.clap.specs.declared.error.kind.ErrorKind.TheVariants as kind
use Rattle.command_line.specs.Commands.{marm}
use Rattle.command_line.specs.Subcommands.{IsAsked}
use Rattle.command_line.specs.declared.subcommands.Subcommand.{Subcommand}
use Rattle.command_line.specs.declared.words.ArgsError.{ArgsError}
use Rattle.command_line.specs.declared.words.ArgsError.TheVariants.{Wrong, Help, Version, OutOfMemory}

-- what the program prints for arguments that it doesn't take
pub data Notice : Type 0 where
  usage : Notice
  help : Notice
  version : Notice
  memory : Notice

-- the notice for each kind of error of `clap`
abbrev pub notice_for : ErrorKind → Notice
notice_for kind.InvalidValue = usage
notice_for kind.UnknownArgument = usage
notice_for kind.InvalidSubcommand = usage
notice_for kind.NoEquals = usage
notice_for kind.ValueValidation = usage
notice_for kind.TooManyValues = usage
notice_for kind.TooFewValues = usage
notice_for kind.WrongNumberOfValues = usage
notice_for kind.ArgumentConflict = usage
notice_for kind.MissingRequiredArgument = usage
notice_for kind.MissingSubcommand = usage
notice_for kind.Io = usage
notice_for kind.Format = usage
notice_for kind.DisplayHelp = help
notice_for kind.DisplayHelpOnMissingArgumentOrSubcommand = help
notice_for kind.DisplayVersion = version
notice_for kind.OutOfMemory = memory

-- the notice that an error leads to
abbrev pub notice_of : ArgsError → Notice
notice_of (Wrong text) = usage
notice_of (Help text) = help
notice_of (Version text) = version
notice_of OutOfMemory = memory

-- the notice for an error, or out of memory for its text
abbrev pub Refuses : ErrorKind → ArgsError → Type 0
Refuses k error = (notice_of error ≡ notice_for k) ⊎ (notice_of error ≡ memory)

-- a value that fits; or a usage error exactly where none fits, or out of memory for its message
abbrev pub ReadsValue : {V : Type 0} → (V → Type 0) → Result V ArgsError → Type 0
ReadsValue Fits (Ok value) = Fits value
ReadsValue {V = V} Fits (Err error) =
    ((notice_of error ≡ usage) × ((value : V) → ¬ Fits value)) ⊎ (notice_of error ≡ memory)

-- `clap` takes the arguments
abbrev pub IsTaken : List Text → Type 0
IsTaken words = fault_of marm words ≡ []

-- the notice is that for one of the errors that `clap` finds in the arguments
abbrev pub IsRefused : List Text → ArgsError → Type 0
IsRefused words error = (k : ErrorKind) × IsAmong k (fault_of marm words) × (notice_of error ≡ notice_for k)

-- The program's arguments, its name before them: those that `clap` takes are read as its matches say, and are a usage
-- error exactly where these have no subcommand. Others get the notice for one of the errors that `clap` finds. Out of
-- memory may come in place of all.
abbrev pub TakesArguments : List Text → Result Subcommand ArgsError → Type 0
TakesArguments words (Ok subcommand) = IsTaken words × IsAsked (subcommand_of marm words) subcommand
TakesArguments words (Err error) =
    (notice_of error ≡ memory)
    ⊎ (IsRefused words error
    ⊎ (IsTaken words × (notice_of error ≡ usage)
    × ((subcommand : Subcommand) → ¬ IsAsked (subcommand_of marm words) subcommand)))
