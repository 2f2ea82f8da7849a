use Rattle.std.proofs.Common.{◌≡◌, ◌-◌, ◌<◌, ◌≤◌, ◌++◌, true, length}
use Rattle.instruction_set.specs.Words.{is_bit}
use Rattle.reference.specs.LoadStoreMultiple.{registers_of, word_requests}
use Rattle.exec.proofs.Lists.{registers_between}
use Rattle.exec.proofs.load_store_multiple.ask_for_list.Given as goal

-- the accesses of the registers from the number on are still to come
abbrev pub invariant-registers : goal.invariant-registers
invariant-registers l = record {
  rest : l.requests.items ++ word_requests l.kind l.at (registers_between l.list l.number 16) l.regs
      ≡ word_requests l.kind l.address (registers_of l.list) l.regs;
  few : length l.requests.items ≤ l.number;
  within : l.number ≤ 16;
  listed : l.number < 16 → is_bit l.list l.number ≡ true;
}

abbrev pub decreases-registers : goal.decreases-registers
decreases-registers l = 16 - l.number
