use Rattle.std.proofs.Common.{sym}
use Rattle.trace.proofs.Selecting.{last_joined}
use Rattle.trace.proofs.selection.TraceSelection.last_of.Goals as goal

pub returns-in-Console : goal.returns-in-Console
returns-in-Console c =
    rw c.in-Console.is (λ events more first then. rw (c.or.ensures, first, then) (sym (last_joined events more)))
