use Rattle.std.proofs.Common.{◌≡◌, ℕ, List, true, false, Some, None, sym, subst, ◌∙◌}
use Rattle.gdb.proofs.Showing.{shown_none}
use Rattle.gdb.specs.Consoles.{ShowsText}
use Rattle.platform.specs.Events.{byte_of, line}
use Rattle.trace.proofs.Selecting.{byte_selected, line_selected}
use Rattle.trace.specs.Selection.{selects, writes_bytes}
use Rattle.gdb.proofs.steps.put_selected.Goals as goal

pub returns-in-Some : goal.returns-in-Some
returns-in-Some g c =
    let chosen : selects c.args.selection c.args.event.now.what ≡ true = c.requires in
    let bare : writes_bytes c.args.selection ≡ true = cc in
    let is : byte_of c.args.event.now.what ≡ Some c.in-Some.byte = sym c.byte.ensures ∙ c.in-Some.is in
    rw (byte_selected c.args.selection c.args.event.now (Some c.in-Some.byte) chosen bare is) c.put.ensures

pub returns-in-None : goal.returns-in-None
returns-in-None g c =
    let chosen : selects c.args.selection c.args.event.now.what ≡ true = c.requires in
    let bare : writes_bytes c.args.selection ≡ true = cc in
    let is : byte_of c.args.event.now.what ≡ None = sym c.byte.ensures ∙ c.in-None.is in
    rw (byte_selected c.args.selection c.args.event.now None chosen bare is)
    (shown_none (g.W.Out.writing c.args.out.now) c.args.console.now)

pub returns : goal.returns
returns g c =
    let chosen : selects c.args.selection c.args.event.now.what ≡ true = c.requires in
    let lined : writes_bytes c.args.selection ≡ false = cc in
    let same : c.as_slice.result.now ≡ line c.args.event.now = c.as_slice.ensures ∙ c.event_line.ensures in
    subst (λ (text : List ℕ). ShowsText (g.W.Out.writing c.args.out.now) (g.W.Out.writing c.put-2.new.out)
    c.args.console.now c.put-2.new.self text c.put-2.result)
    (same ∙ sym (line_selected c.args.selection c.args.event.now chosen lined)) c.put-2.ensures
