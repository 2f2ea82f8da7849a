-- How a session that failed ended.
use Rattle.std.proofs.Common.{◌≡◌, Err, inl, inr, refl, subst}
use Rattle.command.specs.declared.error.Error.TheVariants.{Io}
use Rattle.command.specs.Sessions.{RunsSession}
use Rattle.machine.specs.MachineModel.{MachineModel}
use Rattle.output.specs.Input.{Reading}
use Rattle.output.specs.Output.{Writing}
use Rattle.serving.specs.declared.sessions.SessionError.{SessionError}
use Rattle.serving.specs.declared.sessions.SessionError.TheVariants.{Read, Write}
use Rattle.serving.specs.Sessions.{Course, NothingWaits, Sessions}

pub failed_session : (t : Course) (first last : MachineModel) (before after : Reading) (out out' : Writing)
    (error : SessionError)
    → Sessions t first last before after out out' (Err error) → NothingWaits out' (Err error)
    → RunsSession t first last before after out out' (Err Io)
failed_session t first last before after out out' Read sessions waits = (refl, inl (sessions, waits))
failed_session t first last before after out out' Write sessions waits = (refl, inr sessions)

-- the same where what was learnt is of an equal value on which the course depends
pub failed_talk_of : {A : Type 0} (t : A → Course) (a b : A) → a ≡ b
    → (first last : MachineModel) (before after : Reading) (out out' : Writing) (error : SessionError)
    → Sessions (t a) first last before after out out' (Err error) → NothingWaits out' (Err error)
    → RunsSession (t b) first last before after out out' (Err Io)
failed_talk_of t a b e first last before after out out' error sessions waits =
    subst (λ x. RunsSession (t x) first last before after out out' (Err Io)) e
    (failed_session (t a) first last before after out out' error sessions waits)
