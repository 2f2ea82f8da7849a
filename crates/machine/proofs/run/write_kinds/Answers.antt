use Rattle.std.proofs.Common.{◌≡◌, ◌∙◌, [], ap, arith, sym}
use Rattle.machine.proofs.Writing.{over, puts_step, writer_is}
use Rattle.reference.specs.Step.{step}
use Rattle.output.specs.Emitting.{emission}
use Rattle.output.specs.Output.{Put}
use Rattle.trace.specs.Emission.{Emission}
use Rattle.trace.specs.Selection.{kinds_text}
use Rattle.machine.proofs.run.write_kinds.Goals as goal

pub returns-clause-put : goal.returns-clause-put
returns-clause-put g c =
    let start :
    emission g.W.Out.writing c.new-lines.result.out.ghost_name c.new-lines.result.out.now
    c.new-lines.result.history.items
    ≡ over (g.W.Out.writing c.args.out.now) c.new-lines.result.out.ghost_name [] =
    c.new-lines.ensures.empty
    ∙ ap (λ o. emission g.W.Out.writing c.new-lines.result.out.ghost_name o []) c.new-lines.ensures.now in
    let put :
    Put (g.W.Out.writing c.args.out.now) (g.W.Out.writing c.whole_step.new.events.out.now)
    (kinds_text g.V.View.SELECTION (step c.args.core.now).events) c.end.result =
    puts_step g.V.View.SELECTION (g.W.Out.writing c.args.out.now) (g.W.Out.writing c.whole_step.new.events.out.now)
    c.new-lines.result.out.ghost_name
    (emission g.W.Out.writing c.new-lines.result.out.ghost_name c.new-lines.result.out.now
    c.new-lines.result.history.items)
    (emission g.W.Out.writing c.whole_step.new.events.out.ghost_name c.whole_step.new.events.out.now
    c.whole_step.new.events.history.items)
    (step c.args.core.now).events c.end.result start c.whole_step.ensures.events c.end.ensures in
    let went = c.whole_step.ensures.events in
    let named : c.new-lines.result.out.ghost_name ≡ c.whole_step.new.events.out.ghost_name =
    sym (ap (λ (e : Emission). e.writer) start)
    ∙ sym (ap (λ (e : Emission). e.writer) went)
    ∙ writer_is g.W.Out.writing _ _ c.whole_step.new.events.history.items in
    grind (arith, named, c.new-lines.ensures.same_writer, put)
