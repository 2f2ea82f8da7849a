use Rattle.std.proofs.Common.{◌≡◌, false}
use Rattle.gdb.proofs.Showing.{shown_none}
use Rattle.gdb.proofs.whys.put_whys.Goals as goal

pub returns : goal.returns
returns g c =
    let none : c.args.settings.now.has_lines ≡ false = cc in
    rw none (shown_none (g.W.Out.writing c.args.out.now) c.args.console.now)
