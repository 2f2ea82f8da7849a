use Rattle.step_laws.proofs.Reaching.{word_stays}
use Rattle.step_laws.proofs.words_of_devices_change_by_accesses_and_pokes.Goals as goal

pub returns : goal.returns
returns c = word_stays
