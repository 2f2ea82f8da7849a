use Rattle.serving.proofs.Answering.{HasAnswered}
use Rattle.serving.proofs.sessions.serve.Given as goal

-- the session after `call` bytes
abbrev pub invariant-calls : goal.invariant-calls
invariant-calls g l =
    HasAnswered g.P.Protocol.conduct g.P.Protocol.ready l.fn.protocol (g.T.Target.model l.fn.machine).state l.call
    l.protocol (g.T.Target.model l.fn.machine) (g.T.Target.model l.machine) (g.I.In.reading l.fn.reader)
    (g.I.In.reading l.reader)
    (g.W.Out.writing l.fn.out) (g.W.Out.writing l.out)
