use Rattle.std.proofs.Common.{◌≡◌, ap, ◌∙◌, length, arith}
use Rattle.reference.specs.LoadStoreMultiple.{registers_of, word_requests}
use Rattle.exec.proofs.Listed.{first_asked, next_asked}
use Rattle.exec.proofs.Lists.{last_request}
use Rattle.exec.proofs.load_store_multiple.ask_for_list.Goals as goal

pub registers-init : goal.registers-init
registers-init c =
    let first = c.next_listed-number.ensures in
    let none : length c.args.requests.now.items ≡ 0 = ap length c.requires in record {
      rest = rw c.requires
          (first_asked c.args.kind c.args.address c.args.list c.next_listed-number.result c.args.regs.now first);
      few = omega (arith, none);
      within = first.within;
      listed = first.listed;
    }

pub registers-preserved : goal.registers-preserved
registers-preserved c =
    let next = c.next_listed-number-in-registers.ensures in record {
      rest = rw (c.push.ensures.items, c.word_request.ensures, c.new.ensures)
          (next_asked c.args.kind c.registers.at c.args.list c.registers.number
          c.next_listed-number-in-registers.result c.args.regs.now c.registers.requests.items c.registers-test.true
          (c.registers.invariant.listed c.registers-test.true) next
          ∙ c.registers.invariant.rest);
      few = omega (arith, c.push.ensures.len, c.registers.invariant.few, next.above);
      within = next.within;
      listed = next.listed;
    }

pub returns : goal.returns
returns c =
    let end : c.registers.number ≡ 16 = omega arith in
    last_request c.args.kind c.registers.at c.args.list c.registers.number c.args.regs.now c.registers.requests.items
    (word_requests c.args.kind c.args.address (registers_of c.args.list) c.args.regs.now) end c.registers.invariant.rest
