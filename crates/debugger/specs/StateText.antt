-- The state of a machine as text (profile).
use Rattle.std.specs.Prelude.{ℕ, zero, suc, Bool, if◌then◌else◌, List, [], ◌++◌, codes, decimal}
use Rattle.debugger_commands.specs.Texts.{general_lines, region_lines, register_line}
use Rattle.target.specs.declared.values.RegValues.{RegValues}
use Rattle.target.specs.Values.{values_of}
use Rattle.platform.specs.declared.exception.TheConstants.{EXCEPTIONS}
use Rattle.platform.specs.declared.mpu.TheConstants.{MAX_REGIONS}
use Rattle.platform.specs.Priorities.{is_in}
use Rattle.reference.specs.State.{State}
use Rattle.platform.specs.Status.{Status}
use Rattle.platform.specs.Text.{line_feed}

-- ---- regs: a line for each register

-- the lines of the stack pointers, LR, PC and XPSR
unfoldable pub core_lines : RegValues → List ℕ
core_lines v =
    register_line (codes "MSP") v.msp ++ (register_line (codes "PSP") v.psp ++ (register_line (codes "LR") v.lr
    ++ (register_line (codes "PC") v.pc ++ register_line (codes "XPSR") v.xpsr)))

-- the lines of CONTROL and the masks
unfoldable pub mask_lines : RegValues → List ℕ
mask_lines v =
    register_line (codes "CONTROL") v.control ++ (register_line (codes "PRIMASK") v.primask
    ++ (register_line (codes "FAULTMASK") v.faultmask ++ register_line (codes "BASEPRI") v.basepri))

abbrev pub registers_text : RegValues → List ℕ
registers_text v = (general_lines v.general 13 ++ core_lines v) ++ mask_lines v

-- ---- the state

-- the clock: how many ticks have gone by, in decimal
abbrev pub clock_line : ℕ → List ℕ
clock_line ticks = (codes "CLOCK " ++ decimal ticks) ++ line_feed

-- what faults left, and the registers of configuration
unfoldable pub status_lines : Status → List ℕ
status_lines st =
    register_line (codes "CFSR") st.cfsr ++ (register_line (codes "HFSR") st.hfsr
    ++ (register_line (codes "MMFAR") st.mmfar ++ (register_line (codes "BFAR") st.bfar
    ++ (register_line (codes "VTOR") st.vtor ++ register_line (codes "CCR") st.ccr))))

-- a number, where it's in the set
abbrev pub number_if : ℕ → Bool → List ℕ
number_if x there = if there then codes " " ++ decimal x else []

-- the numbers below n that are in a set, in ascending order
unfoldable pub numbers_below : List Bool → ℕ → List ℕ
numbers_below set zero = []
numbers_below set (suc x) = numbers_below set x ++ number_if x (is_in set x)

-- a set of exceptions
abbrev pub set_line : List ℕ → List Bool → List ℕ
set_line name set = (name ++ numbers_below set EXCEPTIONS) ++ line_feed

-- the registers, the clock, the status registers, the regions of the MPU, and which exceptions are pending and active
abbrev pub state_text : State → List ℕ
state_text s =
    registers_text (values_of s.registers s.bus.system.nvic.masks) ++ (clock_line s.bus.system.time.ticks
    ++ (status_lines s.bus.system.status ++ (region_lines s.bus.system.mpu MAX_REGIONS
    ++ (set_line (codes "PENDING") s.bus.system.nvic.pending ++ set_line (codes "ACTIVE") s.bus.system.nvic.active))))
