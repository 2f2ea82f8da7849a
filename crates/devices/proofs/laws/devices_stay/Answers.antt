use Rattle.devices.proofs.Copying.{same_after_load, same_after_poke, same_after_store}
use Rattle.devices.proofs.laws.devices_stay.Goals as goal
use Rattle.devices.specs.Devices.{word_at}

pub returns-clause-poke : goal.returns-clause-poke
returns-clause-poke c ds es ticks a content s = same_after_poke ds es ticks a content s

pub returns-clause-load : goal.returns-clause-load
returns-clause-load c ds es ticks a s = same_after_load ds es ticks (word_at ds a) s

pub returns-clause-store : goal.returns-clause-store
returns-clause-store c ds es ticks a size v s = same_after_store ds es ticks a size v (word_at ds a) s
