-- From a parse of `clap` to what the program makes of it.
use Rattle.std.proofs.Common.{◌≡◌, ◌∙◌, inl, inr, true, List, [], Option, Result, Ok, Err, ap, refl, subst}
use Rattle.clap.specs.Faults.{fault_of, is_simple_and_free}
use Rattle.clap.specs.Kinds.{HasKind, IsAmong}
use Rattle.clap.specs.Simple.{App, is_simple, subcommand_of}
use Rattle.clap.specs.Values.{kind_of}
use Rattle.clap.specs.Walk.{Row, Text}
use Rattle.clap.specs.declared.error.Error.{Error}
use Rattle.clap.specs.declared.error.kind.ErrorKind.{ErrorKind}
use Rattle.clap.specs.declared.error.kind.ErrorKind.TheVariants as kind
use Rattle.command_line.specs.Notices.{ReadsValue, Refuses, TakesArguments, notice_for}
use Rattle.command_line.specs.Commands.{marm}
use Rattle.command_line.specs.Subcommands.{IsAsked}
use Rattle.command_line.specs.declared.subcommands.Subcommand.{Subcommand}
use Rattle.command_line.specs.declared.words.ArgsError.{ArgsError}

pub simple : is_simple marm ≡ true
simple = refl

pub simple_and_free : is_simple_and_free marm ≡ true
simple_and_free = refl

pub taken : (words : List Text) (rows : Option (Text × List Row)) (result : Result Subcommand ArgsError)
    → fault_of marm words ≡ [] → rows ≡ subcommand_of marm words → ReadsValue (IsAsked rows) result
    → TakesArguments words result
taken words rows (Ok subcommand) none same h =
    (none, subst (λ (met : Option (Text × List Row)). IsAsked met subcommand) same h)
taken words rows (Err error) none same (inl wrong) =
    let NoneIsAsked : Option (Text × List Row) → Type 0 = λ met. (s : Subcommand) → ¬ IsAsked met s in
    inr (inr (none, wrong.0, subst NoneIsAsked same wrong.1))
taken words rows (Err error) none same (inr wanting) = inl wanting

pub taken_as : (words : List Text) (app : App) (rows : Option (Text × List Row)) (found wanted : List Row)
    (result : Result Subcommand ArgsError) → app ≡ marm
    → (is_simple app ≡ true → (found ≡ wanted) × (rows ≡ subcommand_of app words))
    → (is_simple_and_free app ≡ true → fault_of app words ≡ []) → ReadsValue (IsAsked rows) result
    → TakesArguments words result
taken_as words app rows found wanted result is matches none h =
    let met : rows ≡ subcommand_of app words = (matches (ap is_simple is ∙ simple)).1 in
    let free : fault_of app words ≡ [] = none (ap is_simple_and_free is ∙ simple_and_free) in
    taken words rows result (subst (λ (a : App). fault_of a words ≡ []) is free)
    (subst (λ (a : App). rows ≡ subcommand_of a words) is met) h

by_kind : (words : List Text) (k : ErrorKind) (error : ArgsError) → IsAmong k (fault_of marm words) → Refuses k error
    → TakesArguments words (Err error)
by_kind words k error among (inl same) = inr (inl (k, among, same))
by_kind words k error among (inr wanting) = inl wanting

by_memory : (words : List Text) (k : ErrorKind) (error : ArgsError) → k ≡ kind.OutOfMemory → Refuses k error
    → TakesArguments words (Err error)
by_memory words k error e (inl same) = inl (same ∙ ap notice_for e)
by_memory words k error e (inr wanting) = inl wanting

by_kinds : (words : List Text) (e : Error) (error : ArgsError) → HasKind (fault_of marm words) e
    → Refuses (kind_of e) error → TakesArguments words (Err error)
by_kinds words e error (inl wanting) h = by_memory words (kind_of e) error wanting h
by_kinds words e error (inr among) h = by_kind words (kind_of e) error among h

pub refused : (words : List Text) (app : App) (e : Error) (error : ArgsError) → app ≡ marm
    → (is_simple_and_free app ≡ true → HasKind (fault_of app words) e) → Refuses (kind_of e) error
    → TakesArguments words (Err error)
refused words app e error is fails h =
    let failed : HasKind (fault_of app words) e = fails (ap is_simple_and_free is ∙ simple_and_free) in
    by_kinds words e error (subst (λ (a : App). HasKind (fault_of a words) e) is failed) h
