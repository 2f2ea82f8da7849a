use Rattle.gdb_server.proofs.Marking.{history_ends}
use Rattle.gdb_server.proofs.commands.history_text.Goals as goal

pub returns : goal.returns
returns g c =
    history_ends c.args.past.now c.args.machine.now.state c.ticks.result c.mark_lines-page.result c.put.new.self
    c.put_tick.new.page c.mark_lines-page.ensures.text c.put.ensures c.ticks.ensures c.put_tick.ensures.text
