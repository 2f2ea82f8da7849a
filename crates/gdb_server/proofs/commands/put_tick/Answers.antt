use Rattle.std.specs.Fmt.{decimal}
use Rattle.gdb_server.proofs.Marking.{line_put}
use Rattle.gdb_server.proofs.commands.put_tick.Goals as goal

pub returns-clause-text : goal.returns-clause-text
returns-clause-text c =
    line_put c.args.page.now (decimal c.args.tick) c.put_decimal.new.self c.put.new.self c.put_decimal.ensures.text
    c.put.ensures
