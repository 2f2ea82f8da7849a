-- What the core runs.
use Rattle.instruction_set.specs.Registers.{is_privileged}
use Rattle.machine.specs.declared.readers.Execution.{Execution}
use Rattle.reference.specs.State.{State}

abbrev pub execution_of : State → Execution
execution_of s = record {
  pc = s.registers.pc;
  exception = s.registers.exception;
  privileged = is_privileged s.registers;
  asleep = s.asleep;
}
