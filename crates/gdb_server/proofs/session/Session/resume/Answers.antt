use Rattle.std.proofs.Common.{◌≡◌, ◌∙◌, ap, refl, sym}
use Rattle.gdb_past.proofs.Following.{same_sym, same_trans}
use Rattle.gdb_server.proofs.Ahead.{now_ahead, resumed_past}
use Rattle.gdb_server.specs.Conduct.{resumed}
use Rattle.gdb_server.specs.Sessions.{Session}
use Rattle.reference.specs.State.{State}
use Rattle.gdb_server.proofs.session.Session.resume.Goals as goal

pub returns-in-Ok-clause-delivers : goal.returns-in-Ok-clause-delivers
returns-in-Ok-clause-delivers g c = rw (← c.self.view_is) c.in-Ok.ensures.delivers

pub returns-in-Ok-clause-kept : goal.returns-in-Ok-clause-kept
returns-in-Ok-clause-kept g c =
    rw (← c.self.view_is)
    (rw (c.in-Ok.ensures.outcome, c.in-Ok.ensures.sent, c.in-Ok.ensures.past) at c.keep_turn.ensures)

pub returns-in-Err-clause-delivers : goal.returns-in-Err-clause-delivers
returns-in-Err-clause-delivers g c = rw (← c.self.view_is) c.in-Err.ensures.delivers

pub run_turn-requires-clause-fits : goal.run_turn-requires-clause-fits
run_turn-requires-clause-fits g c =
    same_trans c.self.inside.position c.self.inside.past.start c.args.machine.now.state
    (same_sym c.self.inside.past.start c.self.inside.position c.self.invariant.0)
    (rw (← c.self.view_is) at c.requires.fits)

pub invariant_of-self : goal.invariant_of-self
invariant_of-self g c =
    let made = c.in-Ok.ensures in (
      same_trans c.run_turn.new.past.start c.run_turn.new.machine.state c.run_turn.new.position made.ahead.fits
          (same_sym c.run_turn.new.position c.run_turn.new.machine.state made.fits),
      c.self.invariant.1,
    )

pub invariant_of-self-in-Err : goal.invariant_of-self-in-Err
invariant_of-self-in-Err g c =
    let made = c.in-Err.ensures in (
      same_trans c.run_turn.new.past.start c.run_turn.new.machine.state c.run_turn.new.position made.ahead.fits
          (same_sym c.run_turn.new.position c.run_turn.new.machine.state made.fits),
      c.self.invariant.1,
    )

pub run_turn-requires-clause-ahead : goal.run_turn-requires-clause-ahead
run_turn-requires-clause-ahead g c = rw (← c.self.view_is) at c.requires

pub returns-in-Ok-clause-ahead : goal.returns-in-Ok-clause-ahead
returns-in-Ok-clause-ahead g c =
    let k : Session = c.args.self.now in
    let s : State = c.args.machine.now.state in
    let kept : c.keep_turn.new.self ≡ (resumed k s c.args.run).session = returns-in-Ok-clause-kept g c in
    let same : c.run_turn.new.past ≡ k.past = c.in-Ok.ensures.past ∙ ap (λ (q : Session). q.past) c.self.view_is in
    now_ahead c.keep_turn.new.self c.run_turn.new.machine c.run_turn.new.past c.run_turn.new.machine.state
    (ap (λ (q : Session). q.past) kept ∙ (resumed_past k s c.args.run ∙ sym same)) refl c.in-Ok.ensures.ahead
