use Rattle.std.proofs.Common.{take}
use Rattle.gdb.specs.Consoles.{Shown}
use Rattle.gdb.proofs.console.Console.put.Given as goal

-- the bytes so far were put
abbrev pub invariant-bytes : goal.invariant-bytes
invariant-bytes g l =
    Shown (g.W.Out.writing l.fn.out) (g.W.Out.writing l.out) l.fn.self l.self (take l.byte-index l.text)
