use Rattle.std.proofs.Common.{◌<◌, ◌≤◌, drop, sym, ◌∙◌, arith}
use Rattle.exec.proofs.Listed.{first_given, next_given, last_given, first_counted, next_counted, last_counted}
use Rattle.exec.proofs.load_store_multiple.load_list.Goals as goal

pub registers-init : goal.registers-init
registers-init c =
    let first = c.next_listed-number.ensures in
    let next = c.next_listed-number.result in record {
      rest = first_given c.args.list next c.args.values.now c.args.regs.now first;
      count = omega (arith, first_counted c.args.list next first);
      few = omega arith;
      within = first.within;
      listed = first.listed;
    }

pub registers-preserved : goal.registers-preserved
registers-preserved c =
    let next = c.next_listed-number-in-registers.ensures in
    let number = c.next_listed-number-in-registers.result in
    let below : c.registers.number < 16 = omega (arith, c.registers-test.true) in
    let has = c.registers.invariant.listed below in record {
      rest = rw (c.set.ensures, c.value_at.ensures, c.new.ensures)
          (next_given c.args.list c.registers.number number c.registers.place c.args.values.now c.registers.regs
          c.registers-test.true has next
          ∙ c.registers.invariant.rest);
      count = omega (
        arith,
        next_counted c.args.list c.registers.number number c.registers-test.true has next,
        c.registers.invariant.count,
      );
      few = omega (arith, c.registers.invariant.few, next.above);
      within = next.within;
      listed = next.listed;
    }

pub returns-clause-registers : goal.returns-clause-registers
returns-clause-registers c =
    let above : 15 ≤ c.registers.number = omega arith in
    sym (last_given c.args.list c.registers.number (drop c.registers.place c.args.values.now) c.registers.regs above)
    ∙ c.registers.invariant.rest

pub returns-clause-count : goal.returns-clause-count
returns-clause-count c =
    let above : 15 ≤ c.registers.number = omega arith in
    omega (arith, last_counted c.args.list c.registers.number above, c.registers.invariant.count)
