-- Steps over handlers and other tasks: where one comes to a Stack step, it ends when the code that was interrupted goes
-- on (profile).
use Rattle.std.specs.Prelude.{◌==◌, ◌&&◌, Bool, true, false, not, if◌then◌else◌, Option, Some, None}
use Rattle.gdb.specs.declared.over.ReturnPoint.{ReturnPoint}
use Rattle.instruction_set.specs.Registers.{sp, uses_psp}
use Rattle.machine.specs.NextStep.{is_instruction_next, next_kind_of}
use Rattle.reference.specs.State.{State}
use Rattle.task_laws.specs.declared.next_step.StepKind.{StepKind}
use Rattle.task_laws.specs.declared.next_step.StepKind.TheVariants as kind

-- the code that a step interrupts: its exception, the stack in use, SP, and the next instruction
abbrev pub return_point : State → ReturnPoint
return_point s = record {
  exception = s.registers.exception;
  uses_psp = uses_psp s.registers;
  sp = sp s.registers;
  pc = s.registers.pc;
}

abbrev pub is_stack : Option StepKind → Bool
is_stack None = false
is_stack (Some kind.Vector) = false
is_stack (Some kind.Stack) = true
is_stack (Some kind.Sleep) = false
is_stack (Some kind.Instruction) = false

-- whether two points are in the same code: of the same exception, on the same stack, with the same SP
abbrev pub is_same_code : ReturnPoint → ReturnPoint → Bool
is_same_code a b =
    (a.exception == b.exception) && ((a.sp == b.sp) && (if a.uses_psp then b.uses_psp else not b.uses_psp))

-- whether the next step is an instruction of the code that was interrupted
abbrev pub is_back : State → ReturnPoint → Bool
is_back s point = is_same_code (return_point s) point && is_instruction_next s

-- what is remembered after the next step: the point before the first Stack step, up to the first instruction of its
-- code
abbrev pub remembered_after : Bool → Option ReturnPoint → State → Option ReturnPoint
remembered_after over None s = if over && is_stack (next_kind_of s) then Some (return_point s) else None
remembered_after over (Some point) s = if is_back s point then None else Some point
