use Rattle.std.proofs.Common.{Option, ap, ◌∙◌}
use Rattle.gdb.proofs.Turning.{ends_all, ends_first, ends_second, ends_third, puts_whys_as}
use Rattle.gdb.specs.declared.turns.Turn.TheVariants.{Ends}
use Rattle.gdb.specs.Whys.{stop_with_line}
use Rattle.gdb_texts.specs.declared.stops.Signal.{Signal}
use Rattle.platform.specs.declared.stop.Stop.{Stop}
use Rattle.gdb.proofs.turns.end_run.Goals as goal

pub returns-in-Err : goal.returns-in-Err
returns-in-Err g c =
    ends_first c.args.plan.now.settings c.args.watchpoints.now c.args.features c.args.reason c.args.progress.now
    c.args.machine.now
    (g.W.Out.writing c.args.out.now) (g.W.Out.writing c.put_whys.new.out) c.stop_with_line.result
    (c.stop_with_line.ensures ∙ ap (λ (o : Option Stop). stop_with_line c.args.reason o) c.stop.ensures)
    c.in-Err.ensures.shows

pub returns-in-Err-flush : goal.returns-in-Err-flush
returns-in-Err-flush g c =
    ends_second c.args.plan.now.settings c.args.watchpoints.now c.args.features c.args.reason c.args.progress.now
    c.put_whys.new.self
    c.args.machine.now (g.W.Out.writing c.args.out.now) (g.W.Out.writing c.put_whys.new.out)
    (g.W.Out.writing c.flush.new.out)
    (puts_whys_as c.args.plan.now.settings c.args.watchpoints.now c.args.reason c.args.progress.now c.put_whys.new.self
    c.args.machine.now
    (g.W.Out.writing c.args.out.now) (g.W.Out.writing c.put_whys.new.out) c.stop_with_line.result
    (c.stop_with_line.ensures ∙ ap (λ (o : Option Stop). stop_with_line c.args.reason o) c.stop.ensures)
    c.in-Ok.ensures.shows)
    c.in-Err-flush.ensures.put.0 c.in-Err-flush.ensures.put.1

pub returns-in-Err-send_stop_reply : goal.returns-in-Err-send_stop_reply
returns-in-Err-send_stop_reply g c =
    ends_third c.args.plan.now.settings c.args.watchpoints.now c.args.features c.args.reason c.args.progress.now
    c.put_whys.new.self
    c.args.machine.now (g.W.Out.writing c.args.out.now) (g.W.Out.writing c.put_whys.new.out)
    (g.W.Out.writing c.flush.new.out) (g.W.Out.writing c.send_stop_reply.new.out)
    (puts_whys_as c.args.plan.now.settings c.args.watchpoints.now c.args.reason c.args.progress.now c.put_whys.new.self
    c.args.machine.now
    (g.W.Out.writing c.args.out.now) (g.W.Out.writing c.put_whys.new.out) c.stop_with_line.result
    (c.stop_with_line.ensures ∙ ap (λ (o : Option Stop). stop_with_line c.args.reason o) c.stop.ensures)
    c.in-Ok.ensures.shows)
    c.in-Ok-flush.ensures.put c.in-Err-send_stop_reply.ensures.put.0 c.in-Err-send_stop_reply.ensures.put.1

pub returns-in-Ok-send_stop_reply : goal.returns-in-Ok-send_stop_reply
returns-in-Ok-send_stop_reply g c = record {
  delivers = ends_all c.args.plan.now.settings c.args.watchpoints.now c.args.features c.args.reason c.args.progress.now
      c.put_whys.new.self
      c.args.machine.now (g.W.Out.writing c.args.out.now) (g.W.Out.writing c.put_whys.new.out)
      (g.W.Out.writing c.flush.new.out) (g.W.Out.writing c.send_stop_reply.new.out)
      (puts_whys_as c.args.plan.now.settings c.args.watchpoints.now c.args.reason c.args.progress.now
      c.put_whys.new.self
      c.args.machine.now
      (g.W.Out.writing c.args.out.now) (g.W.Out.writing c.put_whys.new.out) c.stop_with_line.result
      (c.stop_with_line.ensures ∙ ap (λ (o : Option Stop). stop_with_line c.args.reason o) c.stop.ensures)
      c.in-Ok.ensures.shows)
      c.in-Ok-flush.ensures.put c.in-Ok-send_stop_reply.ensures.put;
  outcome = ap (λ (s : Signal). Ends s) c.signal_of.ensures;
  remembered = c.send_stop_reply.ensures.sent;
}
