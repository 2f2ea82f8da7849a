use Rattle.std.proofs.Common.{◌≡◌, ◌+◌, ◌-◌, ◌<◌, ◌≤◌, true, drop, length}
use Rattle.instruction_set.specs.Words.{is_bit}
use Rattle.reference.specs.LoadStoreMultiple.{registers_below, loaded}
use Rattle.exec.proofs.Lists.{registers_between}
use Rattle.exec.proofs.load_store_multiple.load_list.Given as goal

-- the registers from the number on are still to be given the values from the place on
abbrev pub invariant-registers : goal.invariant-registers
invariant-registers l = record {
  rest : loaded (registers_between l.list l.number 15) (drop l.place l.values) l.regs
      ≡ loaded (registers_below 15 l.list) l.values l.fn.regs;
  count : l.place + length (registers_between l.list l.number 15) ≡ length (registers_below 15 l.list);
  few : l.place ≤ l.number;
  within : l.number ≤ 16;
  listed : l.number < 16 → is_bit l.list l.number ≡ true;
}

abbrev pub decreases-registers : goal.decreases-registers
decreases-registers l = 16 - l.number
