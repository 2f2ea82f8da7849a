use Rattle.std.proofs.Common.{◌≡◌, sym, refl, false}
use Rattle.std.proofs.KnownBytes.{Appends-nil}
use Rattle.machine.proofs.ManySteps.{texts_by_kinds}
use Rattle.machine.proofs.Running.{none_made}
use Rattle.machine.proofs.Selecting.{none_shown}
use Rattle.trace.specs.Selection.{has_faulty_steps}
use Rattle.machine.proofs.run.select_quiet_steps.Goals as goal

pub returns-then-has_faulty_steps-clause-state : goal.returns-then-has_faulty_steps-clause-state
returns-then-has_faulty_steps-clause-state g c = sym (none_made c.args.core.now)

pub returns-then-has_faulty_steps-clause-text : goal.returns-then-has_faulty_steps-clause-text
returns-then-has_faulty_steps-clause-text g c =
    rw (none_shown g.V.View.SELECTION c.args.core.now) (Appends-nil _, refl)

pub returns-else-has_faulty_steps-clause-text : goal.returns-else-has_faulty_steps-clause-text
returns-else-has_faulty_steps-clause-text g c =
    let none : has_faulty_steps g.V.View.SELECTION ≡ false = cc in
    rw (texts_by_kinds g.V.View.SELECTION c.make_quiet_steps.result c.args.core.now none)
    c.make_quiet_steps.ensures.text
