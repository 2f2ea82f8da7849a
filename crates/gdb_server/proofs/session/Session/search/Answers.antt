use Rattle.std.proofs.Common.{◌≡◌, ◌∙◌, ap, refl, sym}
use Rattle.gdb.specs.Returns.{return}
use Rattle.gdb_past.proofs.Following.{same_sym, same_trans}
use Rattle.gdb_server.proofs.Ahead.{now_ahead, searched_past}
use Rattle.gdb_server.specs.Conduct.{searched}
use Rattle.gdb_server.specs.Sessions.{Session}
use Rattle.reference.specs.State.{State}
use Rattle.gdb_server.proofs.session.Session.search.Goals as goal

pub returns-in-Ok-clause-delivers : goal.returns-in-Ok-clause-delivers
returns-in-Ok-clause-delivers g c = rw (← c.self.view_is) c.in-Ok.ensures.returns.delivers

pub returns-in-Ok-clause-kept : goal.returns-in-Ok-clause-kept
returns-in-Ok-clause-kept g c =
    let made = c.in-Ok.ensures.returns in
    rw (← c.self.view_is) (rw (made.outcome, made.remembered, made.kept) at c.keep_return.ensures)

pub returns-in-Err-clause-delivers : goal.returns-in-Err-clause-delivers
returns-in-Err-clause-delivers g c = rw (← c.self.view_is) c.in-Err.ensures.returns

pub go_back-requires-clause-ahead : goal.go_back-requires-clause-ahead
go_back-requires-clause-ahead g c = rw (← c.self.view_is) at c.requires

pub go_back-requires-clause-fits : goal.go_back-requires-clause-fits
go_back-requires-clause-fits g c =
    same_trans c.self.inside.position c.self.inside.past.start c.args.machine.now.state
    (same_sym c.self.inside.past.start c.self.inside.position c.self.invariant.0)
    (rw (← c.self.view_is) at c.requires.fits)

pub invariant_of-self : goal.invariant_of-self
invariant_of-self g c =
    let made = c.in-Ok.ensures in (
      same_trans c.go_back.new.past.start c.go_back.new.machine.state c.go_back.new.position made.ahead.fits
          (same_sym c.go_back.new.position c.go_back.new.machine.state made.fits),
      c.self.invariant.1,
    )

pub invariant_of-self-in-Err : goal.invariant_of-self-in-Err
invariant_of-self-in-Err g c =
    let made = c.in-Err.ensures in (
      same_trans c.go_back.new.past.start c.go_back.new.machine.state c.go_back.new.position made.ahead.fits
          (same_sym c.go_back.new.position c.go_back.new.machine.state made.fits),
      c.self.invariant.1,
    )

pub returns-in-Ok-clause-ahead : goal.returns-in-Ok-clause-ahead
returns-in-Ok-clause-ahead g c =
    let k : Session = c.args.self.now in
    let s : State = c.args.machine.now.state in
    let kept : c.keep_return.new.self ≡ (searched k s c.args.search).session = returns-in-Ok-clause-kept g c in
    let same : c.go_back.new.past ≡ (return k.settings k.points k.features k.past c.args.search s).past =
    rw (← c.self.view_is) c.in-Ok.ensures.returns.kept in
    now_ahead c.keep_return.new.self c.go_back.new.machine c.go_back.new.past c.go_back.new.machine.state
    (ap (λ (q : Session). q.past) kept ∙ (searched_past k s c.args.search ∙ sym same)) refl c.in-Ok.ensures.ahead
