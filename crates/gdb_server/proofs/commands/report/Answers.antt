use Rattle.std.proofs.Common.{None}
use Rattle.gdb.specs.Consoles.{console_after, console_from, flush_text, sent_by}
use Rattle.gdb.proofs.Showing.{cut_before}
use Rattle.gdb_server.proofs.Putting.{put_on}
use Rattle.gdb_server.proofs.commands.report.Goals as goal

pub returns-in-Err : goal.returns-in-Err
returns-in-Err g c =
    let text = c.args.text.now in
    let cut = rw c.new-console.ensures at c.in-Err.ensures in (
      cut_before _ _ (sent_by (console_from None) text) (flush_text (console_after (console_from None) text)) cut.0,
      cut.1,
    )

pub returns : goal.returns
returns g c =
    let text = c.args.text.now in
    let shown = rw c.new-console.ensures at c.in-Ok.ensures in
    let flushed = rw shown.1 at c.flush.ensures.put in
    put_on (g.W.Out.writing c.args.out.now) (g.W.Out.writing c.put.new.out) (g.W.Out.writing c.flush.new.out)
    (sent_by (console_from None) text) (flush_text (console_after (console_from None) text)) c.flush.result shown.0
    flushed
