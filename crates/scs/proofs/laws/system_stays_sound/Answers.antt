use Rattle.scs.proofs.Sound.{access_sound, device_sound, signal_sound, tick_sound, msr_sound, cps_sound}
use Rattle.scs.proofs.Sound.{deactivated_sound, reset_sound}
use Rattle.scs.proofs.laws.system_stays_sound.Goals as goal

pub returns-clause-reset : goal.returns-clause-reset
returns-clause-reset c = reset_sound

pub returns-clause-access : goal.returns-clause-access
returns-clause-access c = access_sound

pub returns-clause-device : goal.returns-clause-device
returns-clause-device c = device_sound

pub returns-clause-signal : goal.returns-clause-signal
returns-clause-signal c = signal_sound

pub returns-clause-tick : goal.returns-clause-tick
returns-clause-tick c = tick_sound

pub returns-clause-msr : goal.returns-clause-msr
returns-clause-msr c = msr_sound

pub returns-clause-cps : goal.returns-clause-cps
returns-clause-cps c = cps_sound

pub returns-clause-deactivation : goal.returns-clause-deactivation
returns-clause-deactivation c = deactivated_sound
