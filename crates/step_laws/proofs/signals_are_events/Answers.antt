use Rattle.step_laws.proofs.Signals.{signal_is_event}
use Rattle.step_laws.proofs.signals_are_events.Goals as goal

pub returns : goal.returns
returns c = signal_is_event
