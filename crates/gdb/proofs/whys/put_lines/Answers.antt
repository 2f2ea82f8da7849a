use Rattle.std.proofs.Common.{◌≡◌, ℕ, Bool, List, Option, ap, subst, ◌∙◌}
use Rattle.gdb.proofs.Showing.{part_before, part_on, shows_on}
use Rattle.gdb.specs.Consoles.{Shown, ShownInPart}
use Rattle.gdb.specs.Whys.{has_line, line_begun}
use Rattle.gdb.proofs.whys.put_lines.Goals as goal

pub returns-in-Err : goal.returns-in-Err
returns-in-Err g c =
    let begun : c.line_begun.result.now
    ≡ line_begun (has_line c.args.settings.now c.args.watchpoints.now c.args.events.now c.args.stop)
    c.args.console.now.last =
    c.line_begun.ensures ∙ (ap (λ (b : Bool). line_begun b c.last.result) c.has_line-follows.ensures
    ∙ ap (λ (o : Option ℕ). line_begun
    (has_line c.args.settings.now c.args.watchpoints.now c.args.events.now c.args.stop) o)
    c.last.ensures) in
    part_before (g.W.Out.writing c.args.out.now) (g.W.Out.writing c.put.new.out) c.args.console.now _ _
    (subst (λ (text : List ℕ). ShownInPart (g.W.Out.writing c.args.out.now) (g.W.Out.writing c.put.new.out)
    c.args.console.now text) begun c.in-Err.ensures)

pub returns-in-Err-put_needed_lines : goal.returns-in-Err-put_needed_lines
returns-in-Err-put_needed_lines g c =
    let begun : c.line_begun.result.now
    ≡ line_begun (has_line c.args.settings.now c.args.watchpoints.now c.args.events.now c.args.stop)
    c.args.console.now.last =
    c.line_begun.ensures ∙ (ap (λ (b : Bool). line_begun b c.last.result) c.has_line-follows.ensures
    ∙ ap (λ (o : Option ℕ). line_begun
    (has_line c.args.settings.now c.args.watchpoints.now c.args.events.now c.args.stop) o)
    c.last.ensures) in
    part_on (g.W.Out.writing c.args.out.now) (g.W.Out.writing c.put.new.out)
    (g.W.Out.writing c.put_needed_lines.new.out)
    c.args.console.now c.put.new.self _ _
    (subst (λ (text : List ℕ). Shown (g.W.Out.writing c.args.out.now) (g.W.Out.writing c.put.new.out)
    c.args.console.now c.put.new.self text) begun c.in-Ok.ensures)
    (part_before (g.W.Out.writing c.put.new.out) (g.W.Out.writing c.put_needed_lines.new.out) c.put.new.self _ _
    c.in-Err-put_needed_lines.ensures)

pub returns : goal.returns
returns g c =
    let begun : c.line_begun.result.now
    ≡ line_begun (has_line c.args.settings.now c.args.watchpoints.now c.args.events.now c.args.stop)
    c.args.console.now.last =
    c.line_begun.ensures ∙ (ap (λ (b : Bool). line_begun b c.last.result) c.has_line-follows.ensures
    ∙ ap (λ (o : Option ℕ). line_begun
    (has_line c.args.settings.now c.args.watchpoints.now c.args.events.now c.args.stop) o)
    c.last.ensures) in
    shows_on (g.W.Out.writing c.args.out.now) (g.W.Out.writing c.put.new.out) (g.W.Out.writing c.put_stop.new.out)
    c.args.console.now c.put.new.self c.put_stop.new.console _ _ c.put_stop.result
    (subst (λ (text : List ℕ). Shown (g.W.Out.writing c.args.out.now) (g.W.Out.writing c.put.new.out)
    c.args.console.now c.put.new.self text) begun c.in-Ok.ensures)
    (shows_on (g.W.Out.writing c.put.new.out) (g.W.Out.writing c.put_needed_lines.new.out)
    (g.W.Out.writing c.put_stop.new.out) c.put.new.self c.put_needed_lines.new.console c.put_stop.new.console _ _
    c.put_stop.result c.in-Ok-put_needed_lines.ensures c.put_stop.ensures)
