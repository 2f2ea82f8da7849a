use Rattle.std.proofs.Common.{subst}
use Rattle.debugger.proofs.Rooms.{session_is}
use Rattle.serving.specs.Sessions.{Course, Sessions}
use Rattle.debugger.proofs.sessions.session.Goals as goal

pub serve-requires-clause-ready : goal.serve-requires-clause-ready
serve-requires-clause-ready g c = rw c.new-debugger.ensures c.requires

pub returns-clause-held : goal.returns-clause-held
returns-clause-held g c =
    subst
    (λ (t : Course). Sessions t (g.T.Target.model c.args.machine.now) (g.T.Target.model c.serve.new.machine)
    (g.I.In.reading c.args.reader.now) (g.I.In.reading c.serve.new.reader) (g.W.Out.writing c.args.out.now)
    (g.W.Out.writing c.serve.new.out) c.serve.result) (session_is _ _ _ _ c.new-debugger.ensures) c.serve.ensures.held
