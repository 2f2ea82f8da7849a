use Rattle.std.proofs.Common.{◌≡◌, true, false, Some, None, refl, sym, ◌∙◌}
use Rattle.std.proofs.KnownBytes.{Appends-nil}
use Rattle.platform.specs.Events.{byte_of}
use Rattle.trace.proofs.Selecting.{byte_selected, line_selected, not_selected}
use Rattle.trace.specs.Selection.{selects, writes_bytes}
use Rattle.output.proofs.quiet_lines.put_within.Goals as goal

pub returns-then-not-selects-clause-put : goal.returns-then-not-selects-clause-put
returns-then-not-selects-clause-put g c =
    rw (not_selected c.args.selection c.args.event.now cc) (Appends-nil _, refl)

pub returns-then-not-writes_bytes-clause-put : goal.returns-then-not-writes_bytes-clause-put
returns-then-not-writes_bytes-clause-put g c =
    let chosen : selects c.args.selection c.args.event.now.what ≡ true = cc in
    let lined : writes_bytes c.args.selection ≡ false = cc in
    rw (line_selected c.args.selection c.args.event.now chosen lined) (c.put_within.ensures.put c.requires.gathers)

pub returns-in-Some-clause-put : goal.returns-in-Some-clause-put
returns-in-Some-clause-put g c =
    let chosen : selects c.args.selection c.args.event.now.what ≡ true = cc in
    let bare : writes_bytes c.args.selection ≡ true = cc in
    let is : byte_of c.args.event.now.what ≡ Some c.in-Some.byte = sym c.byte.ensures ∙ c.in-Some.is in
    rw (byte_selected c.args.selection c.args.event.now (Some c.in-Some.byte) chosen bare is)
    (c.put_byte_within.ensures.put c.requires.gathers)

pub returns-in-None-clause-put : goal.returns-in-None-clause-put
returns-in-None-clause-put g c =
    let chosen : selects c.args.selection c.args.event.now.what ≡ true = cc in
    let bare : writes_bytes c.args.selection ≡ true = cc in
    let is : byte_of c.args.event.now.what ≡ None = sym c.byte.ensures ∙ c.in-None.is in
    rw (byte_selected c.args.selection c.args.event.now None chosen bare is) (Appends-nil _, refl)
