use Rattle.std.proofs.Common.{◌≡◌, ◌-◌, ◌∙◌, suc, ap, arith, drop}
use Rattle.gdb_server.proofs.Marking.{no_lines, one_more_line}
use Rattle.gdb_server.specs.Commands.{mark_lines}
use Rattle.gdb_server.proofs.commands.mark_lines.Goals as goal

pub marks-init : goal.marks-init
marks-init g c = record {
  lines = c.new-page.ensures ∙ no_lines c.args.past.now.marks c.count-left.result c.count-left.ensures.count;
  few = omega (arith, c.count-left.ensures.count);
  room = rw c.new-page.ensures (omega (arith, c.count-left.ensures.few));
}

pub marks-preserved : goal.marks-preserved
marks-preserved g c =
    let left = c.marks.left in
    let next : left ≡ suc (left - 1) = omega (arith, c.marks-test.true) in
    record {
      lines = c.put_tick.ensures.text
          ∙ one_more_line c.args.past.now.marks left (left - 1) c.tick.result c.args.past.now.start c.marks.page
          (omega (arith, c.marks.invariant.few, c.marks-test.true)) next (c.tick.ensures c.args.past.now.start)
          c.marks.invariant.lines;
      few = omega (arith, c.marks.invariant.few);
      room = omega (arith, c.marks.invariant.room, c.put_tick.ensures.short, c.marks-test.true);
    }

pub returns-clause-text : goal.returns-clause-text
returns-clause-text g c =
    let none : c.marks.left ≡ 0 = omega (arith, c.marks-test.false) in
    c.marks.invariant.lines ∙ ap (λ i. mark_lines (drop i c.args.past.now.marks)) none
