-- Texts that are the words of no stop.
use Rattle.std.proofs.Common.{◌≢◌, ◌<◌, ℕ, List}
use Rattle.command_line.specs.Stops.{IsPossible, IsStopText}
use Rattle.instruction_set.specs.declared.unpredictable.UnpredictableCase.{UnpredictableCase}
use Rattle.platform.specs.declared.stop.Unsupported.{Unsupported}
use Rattle.platform.specs.declared.stop.Stop.{Stop}
use Rattle.platform.specs.declared.stop.Stop.TheVariants as stop
use Rattle.platform.specs.Text.{stop_text}

-- no stop of any kind has these words
pub record NoneHas (words : List ℕ) : Type 0 where
  pub steps : stop_text stop.StepLimit ≢ words
  pub lockup : stop_text stop.Lockup ≢ words
  pub reset : stop_text stop.ResetRequested ≢ words
  pub breakpoint : (number : ℕ) → number < 256 → stop_text (stop.Breakpoint number) ≢ words
  pub unpredictable : (case : UnpredictableCase) → stop_text (stop.Unpredictable case) ≢ words
  pub unsupported : (case : Unsupported) → stop_text (stop.OutOfProfile case) ≢ words

by_kind : (words : List ℕ) → NoneHas words → (why : Stop) → IsPossible why → stop_text why ≢ words
by_kind words none stop.StepLimit possible = none.steps
by_kind words none (stop.Breakpoint number) possible = none.breakpoint number possible
by_kind words none stop.Lockup possible = none.lockup
by_kind words none (stop.Unpredictable case) possible = none.unpredictable case
by_kind words none (stop.OutOfProfile case) possible = none.unsupported case
by_kind words none stop.ResetRequested possible = none.reset

pub no_stop : (words : List ℕ) → NoneHas words → ¬ IsStopText words
no_stop words none found = by_kind words none found.0 found.1 found.2
