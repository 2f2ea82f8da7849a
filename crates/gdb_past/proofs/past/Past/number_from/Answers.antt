use Rattle.std.proofs.Common.{◌<◌, ◌∙◌, arith, length, sym}
use Rattle.gdb_past.proofs.Rooms.{kept_below, passed_below}
use Rattle.gdb_past.proofs.past.Past.number_from.Goals as goal

pub returns-then-tick-clause-rest : goal.returns-then-tick-clause-rest
returns-then-tick-clause-rest g c =
    let marks = c.args.self.now.marks in
    let there : c.marks.number < length marks = omega (arith, c.marks-test.true, c.count-count.ensures.count) in
    sym (kept_below c.args.tick c.tick.result marks c.marks.number c.args.self.now.start there
    (c.tick.ensures c.args.self.now.start) c.if-tick.true)
    ∙ c.marks.invariant

pub marks-preserved : goal.marks-preserved
marks-preserved g c =
    let marks = c.args.self.now.marks in
    let there : c.marks.number < length marks = omega (arith, c.marks-test.true, c.count-count.ensures.count) in
    passed_below c.args.tick c.tick.result marks c.marks.number c.args.self.now.start there
    (c.tick.ensures c.args.self.now.start) c.if-tick.false
    ∙ c.marks.invariant
