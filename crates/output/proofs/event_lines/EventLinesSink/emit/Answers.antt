use Rattle.output.proofs.Emitting.{one_byte_more, one_more, one_text_more}
use Rattle.output.proofs.event_lines.EventLinesSink.emit.Goals as goal

pub invariant_of-self : goal.invariant_of-self
invariant_of-self g c = record {
  writes =
      one_text_more g.V.View.SELECTION g.O.Out.writing c.args.self.now.out.ghost_name _ _ _ _ _ _ _
      c.and-history.ensures c.args.self.now.writes (rw c.SELECTION.ensures at c.put_unless-self.ensures);
  ends =
      one_byte_more g.V.View.SELECTION g.O.Out.writing c.args.self.now.out.ghost_name _ _ _ _ _ _
      c.and-history.ensures ((rw c.SELECTION-2.ensures at c.last_after-self.ensures) _ c.args.self.now.ends);
}

pub returns : goal.returns
returns g c =
    rw c.and-history.ensures (one_more g.O.Out.writing c.args.self.now.out.ghost_name _ _
    c.args.self.now.history.items _)
