use Rattle.std.proofs.Common.{◌≡◌, ℕ, List, true, sym, subst, ◌∙◌}
use Rattle.gdb.proofs.Showing.{shown_none}
use Rattle.gdb.proofs.NeededLines.{none_needed, needed_one}
use Rattle.gdb.specs.Consoles.{ShowsText}
use Rattle.gdb.specs.Whys.{needs_line}
use Rattle.platform.specs.Events.{line}
use Rattle.gdb.proofs.whys.put_line_if_needed.Goals as goal

pub returns-then-needs_line : goal.returns-then-needs_line
returns-then-needs_line g c =
    let told : needs_line c.args.settings.now c.args.watchpoints.now c.args.event.now.what ≡ true = cc in
    let same : c.as_slice.result.now ≡ line c.args.event.now = c.as_slice.ensures ∙ c.event_line.ensures in
    subst (λ (text : List ℕ). ShowsText (g.W.Out.writing c.args.out.now) (g.W.Out.writing c.put.new.out)
    c.args.console.now c.put.new.self text c.put.result)
    (same ∙ sym (needed_one c.args.settings.now c.args.watchpoints.now c.args.event.now told)) c.put.ensures

pub returns : goal.returns
returns g c =
    rw (none_needed c.args.settings.now c.args.watchpoints.now c.args.event.now cc)
    (shown_none (g.W.Out.writing c.args.out.now) c.args.console.now)
