use Rattle.std.proofs.Common.{sym}
use Rattle.trace.proofs.Selecting.{last_on}
use Rattle.trace.proofs.selection.TraceSelection.last_after.Goals as goal

pub returns-in-Console : goal.returns-in-Console
returns-in-Console c =
    rw c.in-Console.is
    (λ events before. rw (c.or.ensures, c.byte.ensures, before) (sym (last_on events c.args.event.now)))
