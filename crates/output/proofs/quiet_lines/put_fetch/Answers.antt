use Rattle.std.proofs.Common.{◌≡◌, true, false, None, refl}
use Rattle.std.proofs.KnownBytes.{Appends-nil}
use Rattle.reference.specs.Accesses.{accessed}
use Rattle.reference.specs.LoadStore.{fetch_at}
use Rattle.trace.proofs.Selecting.{line_selected, not_selected}
use Rattle.trace.specs.declared.selection.TraceSelection.TheVariants as which
use Rattle.trace.specs.Selection.{selects, writes_bytes}
use Rattle.output.proofs.quiet_lines.put_fetch.Goals as goal

pub returns-then-has_done_accesses-clause-put : goal.returns-then-has_done_accesses-clause-put
returns-then-has_done_accesses-clause-put g c =
    let all : c.args.selection ≡ which.All = c.has_done_accesses.ensures.some (cc) in
    let event = accessed c.args.tick (fetch_at c.args.address c.args.end.now.privileged) c.args.end.now.rule None in
    let chosen : selects c.args.selection event.what ≡ true = rw all refl in
    let lined : writes_bytes c.args.selection ≡ false = rw all refl in
    rw (line_selected c.args.selection event chosen lined)
    (c.put_fetch.ensures.put c.requires.gathers c.args.address c.requires.digits)

pub returns-else-has_done_accesses-clause-put : goal.returns-else-has_done_accesses-clause-put
returns-else-has_done_accesses-clause-put g c =
    let event = accessed c.args.tick (fetch_at c.args.address c.args.end.now.privileged) c.args.end.now.rule None in
    let not_chosen : selects c.args.selection event.what ≡ false = c.has_done_accesses.ensures.none (cc) event refl in
    rw (not_selected c.args.selection event not_chosen) (Appends-nil _, refl)
