use Rattle.std.proofs.Common.{arith, [], ◌∷◌}
use Rattle.output.specs.Output.{WritesAll}
use Rattle.trace.specs.Selection.{kinds_text}
use Rattle.output.proofs.Emitting.{fits_more, one_byte_more, one_more, text_within}
use Rattle.output.proofs.quiet_lines.QuietLinesSink.emit_fetch.Goals as goal

pub put_fetch-requires-clause-room : goal.put_fetch-requires-clause-room
put_fetch-requires-clause-room g c = omega (arith, c.args.self.now.fits, c.requires.room)

pub invariant_of-self : goal.invariant_of-self
invariant_of-self g c =
    let put :
    WritesAll (g.O.Out.writing c.args.self.now.out.now) (g.O.Out.writing c.put_fetch.new.out)
    (kinds_text g.V.View.SELECTION (c.fetch_event-event.result ∷ [])) =
    rw c.fetch_event-event.ensures (rw c.SELECTION.ensures at c.put_fetch.ensures.put) in record {
      gathers = c.args.self.now.gathers;
      writes =
          text_within g.V.View.SELECTION g.O.Out.writing c.args.self.now.out.ghost_name _ _ _ _ _
          c.and-history.ensures c.args.self.now.writes put;
      ends =
          one_byte_more g.V.View.SELECTION g.O.Out.writing c.args.self.now.out.ghost_name _ _ _ _ _ _
          c.and-history.ensures ((rw c.SELECTION-2.ensures at c.last_after-self.ensures) _ c.args.self.now.ends);
      fits =
          fits_more g.O.Out.writing c.args.self.now.out.ghost_name _ _ _ _ _ _ _ c.and-history.ensures
          c.args.self.now.fits c.put_fetch.ensures.room;
    }

pub returns : goal.returns
returns g c =
    rw (c.and-history.ensures, ← c.fetch_event-event.ensures) (one_more g.O.Out.writing c.args.self.now.out.ghost_name _
    _ c.args.self.now.history.items _)
