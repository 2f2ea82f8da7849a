use Rattle.std.proofs.Common.{◌∙◌, ap, sym, arith}
use Rattle.gdb_server.proofs.Writing.{registers_all, registers_end, registers_on}
use Rattle.machine.specs.MachineModel.{MachineModel}
use Rattle.gdb_server.proofs.writes.put_registers.Goals as goal

pub returns-then-is_some : goal.returns-then-is_some
returns-then-is_some g c =
    registers_end c.args.machine.now c.registers.machine c.put_register-refused.new.machine c.args.digits.now
    c.registers.index c.put_register-refused.result c.registers-test.true c.registers.invariant.left
    c.registers.invariant.same c.put_register-refused.ensures (sym c.is_some.ensures ∙ c.if-is_some.true)

pub registers-preserved : goal.registers-preserved
registers-preserved g c = record {
  left = registers_on c.args.machine.now c.registers.machine c.put_register-refused.new.machine c.args.digits.now
      c.registers.index c.put_register-refused.result c.registers-test.true c.registers.invariant.left
      c.put_register-refused.ensures (sym c.is_some.ensures ∙ c.if-is_some.false);
  same = ap (λ (m : MachineModel). m.broken) c.put_register-refused.ensures.0 ∙ c.registers.invariant.same;
}

pub returns : goal.returns
returns g c =
    registers_all c.args.machine.now c.registers.machine c.args.digits.now c.registers.index (omega arith)
    c.registers.invariant.left c.registers.invariant.same
