use Rattle.std.proofs.Common.{◌+◌, ◌∙◌, ap, arith, subst, sym}
use Rattle.gdb_past.proofs.Following.{after_more, same_step}
use Rattle.gdb_past.specs.Places.{AreOfOneMachine}
use Rattle.reference.specs.State.{State}
use Rattle.reference.specs.Step.{step}
use Rattle.gdb_past.proofs.position.Position.follow.Goals as goal

pub take-requires : goal.take-requires
take-requires g c =
    subst (λ (s : State). AreOfOneMachine c.args.self.now s) (sym c.requires) (same_step c.args.self.now)

pub returns-then-self-lt-MAX_STEPS : goal.returns-then-self-lt-MAX_STEPS
returns-then-self-lt-MAX_STEPS g c =
    after_more c.self.inside.steps (c.self.inside.steps + 1) c.self.inside.saved (omega arith)
    ∙ (ap (λ (s : State). (step s).state) c.self.view_is ∙ sym c.requires)
