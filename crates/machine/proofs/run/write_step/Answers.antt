use Rattle.std.proofs.Common.{◌≡◌, ◌∙◌, [], ap, arith, sym}
use Rattle.machine.proofs.Writing.{over, puts_step, writer_is}
use Rattle.reference.specs.Step.{step}
use Rattle.trace.proofs.Selecting.{all_lines}
use Rattle.trace.specs.declared.selection.TraceSelection.TheVariants as which
use Rattle.output.specs.Emitting.{emission}
use Rattle.output.specs.Output.{Put}
use Rattle.trace.specs.Emission.{Emission}
use Rattle.platform.specs.Events.{lines}
use Rattle.machine.proofs.run.write_step.Goals as goal

pub returns-clause-put : goal.returns-clause-put
returns-clause-put g c =
    let start :
    emission g.W.Out.writing c.new-events.result.out.ghost_name c.new-events.result.out.now
    c.new-events.result.history.items
    ≡ over (g.W.Out.writing c.args.out.now) c.new-events.result.out.ghost_name [] =
    c.new-events.ensures.empty
    ∙ ap (λ o. emission g.W.Out.writing c.new-events.result.out.ghost_name o []) c.new-events.ensures.now in
    let put :
    Put (g.W.Out.writing c.args.out.now) (g.W.Out.writing c.step.new.events.out.now)
    (lines (step c.args.core.now).events) c.end.result =
    rw (all_lines (step c.args.core.now).events) at
    (puts_step which.All (g.W.Out.writing c.args.out.now) (g.W.Out.writing c.step.new.events.out.now)
    c.new-events.result.out.ghost_name
    (emission g.W.Out.writing c.new-events.result.out.ghost_name c.new-events.result.out.now
    c.new-events.result.history.items)
    (emission g.W.Out.writing c.step.new.events.out.ghost_name c.step.new.events.out.now
    c.step.new.events.history.items)
    (step c.args.core.now).events c.end.result start c.step.ensures.step.events c.end.ensures) in
    let went = c.step.ensures.step.events in
    let named : c.new-events.result.out.ghost_name ≡ c.step.new.events.out.ghost_name =
    sym (ap (λ (e : Emission). e.writer) start)
    ∙ sym (ap (λ (e : Emission). e.writer) went)
    ∙ writer_is g.W.Out.writing _ _ c.step.new.events.history.items in
    grind (arith, named, c.new-events.ensures.same_writer, put)
