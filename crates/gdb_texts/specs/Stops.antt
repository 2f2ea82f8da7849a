-- Stop replies (GDB manual, "Stop Reply Packets", T).
use Rattle.std.specs.Prelude.{ℕ, ◌+◌, ◌/◌, ◌%◌, if◌then◌else◌, List, [], ◌∷◌, ◌++◌, codes}
use Rattle.platform.specs.declared.access.Cause.{Cause}
use Rattle.platform.specs.declared.access.Cause.TheVariants as cause
use Rattle.platform.specs.declared.stop.Stop.{Stop}
use Rattle.platform.specs.declared.stop.Stop.TheVariants as stop
use Rattle.gdb_packets.specs.Digits.{two_digits}
use Rattle.gdb_texts.specs.Registers.{word_digits}
use Rattle.gdb_texts.specs.declared.features.Features.{Features}
use Rattle.gdb_texts.specs.declared.points.BreakpointKind.{BreakpointKind}
use Rattle.gdb_texts.specs.declared.points.BreakpointKind.TheVariants as breakpoint
use Rattle.gdb_texts.specs.declared.points.WatchKind.{WatchKind}
use Rattle.gdb_texts.specs.declared.points.WatchKind.TheVariants as watch
use Rattle.gdb_texts.specs.declared.stops.Signal.{Signal}
use Rattle.gdb_texts.specs.declared.stops.Signal.TheVariants as signal
use Rattle.gdb_texts.specs.declared.stops.StopReason.{StopReason}
use Rattle.gdb_texts.specs.declared.stops.StopReason.TheVariants as reason

-- ---- signals: which one stands for which reason is a choice (profile), their numbers are GDB's

-- a signal by its number, two digits
abbrev pub signal_digits : Signal → List ℕ
signal_digits signal.Interrupt = codes "02"  -- SIGINT
signal_digits signal.Illegal = codes "04"  -- SIGILL
signal_digits signal.Trap = codes "05"  -- SIGTRAP
signal_digits signal.Abort = codes "06"  -- SIGABRT
signal_digits signal.BusError = codes "0a"  -- SIGBUS
signal_digits signal.Segmentation = codes "0b"  -- SIGSEGV
signal_digits signal.BadSystemCall = codes "0c"  -- SIGSYS
signal_digits signal.Termination = codes "0f"  -- SIGTERM
signal_digits signal.CpuLimit = codes "18"  -- SIGXCPU
signal_digits signal.User = codes "1e"  -- SIGUSR1

-- the signal of a machine that stopped, or whose clock has reached the limit
abbrev pub stop_signal : Stop → Signal
stop_signal stop.StepLimit = signal.CpuLimit
stop_signal (stop.Breakpoint n) = signal.Trap
stop_signal stop.Lockup = signal.Abort
stop_signal (stop.Unpredictable case) = signal.Illegal
stop_signal (stop.OutOfProfile case) = signal.BadSystemCall
stop_signal stop.ResetRequested = signal.Termination

abbrev pub refused_signal : Cause → Signal
refused_signal cause.Mpu = signal.Segmentation
refused_signal cause.Bus = signal.BusError

-- the signal of a reason
abbrev pub signal_of : StopReason → Signal
signal_of reason.Done = signal.Trap
signal_of (reason.Breakpoint kind) = signal.Trap
signal_of (reason.Watchpoint kind address) = signal.Trap
signal_of reason.PastBegins = signal.Trap
signal_of (reason.Stopped s) = stop_signal s
signal_of reason.StoppedBefore = signal.Trap
signal_of (reason.Refused c) = refused_signal c
signal_of reason.Fault = signal.Illegal
signal_of reason.Entered = signal.User
signal_of reason.Interrupted = signal.Interrupt

-- ---- reasons

-- only to a client that takes it
abbrev pub breakpoint_text : Features → BreakpointKind → List ℕ
breakpoint_text features breakpoint.Software = if features.takes_swbreak then codes "swbreak:;" else []
breakpoint_text features breakpoint.Hardware = if features.takes_hwbreak then codes "hwbreak:;" else []

abbrev pub watch_text : WatchKind → List ℕ
watch_text watch.Write = codes "watch:"
watch_text watch.Read = codes "rwatch:"
watch_text watch.Access = codes "awatch:"

-- a word as a number: eight digits, the highest first
abbrev pub number_digits : ℕ → List ℕ
number_digits word =
    ((two_digits (word / 0x100_0000) ++ two_digits (word / 0x1_0000 % 256)) ++ two_digits (word / 0x100 % 256))
    ++ two_digits (word % 256)

-- the kind of a watchpoint, and the address of the byte
abbrev pub watchpoint_text : WatchKind → ℕ → List ℕ
watchpoint_text kind address = (watch_text kind ++ number_digits address) ++ codes ";"

-- a reason, or nothing where the signal says enough
abbrev pub reason_text : Features → StopReason → List ℕ
reason_text features reason.Done = []
reason_text features (reason.Breakpoint kind) = breakpoint_text features kind
reason_text features (reason.Watchpoint kind address) = watchpoint_text kind address
reason_text features reason.PastBegins = codes "replaylog:begin;"
reason_text features (reason.Stopped s) = []
reason_text features reason.StoppedBefore = codes "replaylog:end;"
reason_text features (reason.Refused c) = []
reason_text features reason.Fault = []
reason_text features reason.Entered = []
reason_text features reason.Interrupted = []

-- ---- the registers, each with its number

abbrev pub numbered_register : ℕ → ℕ → List ℕ
numbered_register number value = ((two_digits number ++ codes ":") ++ word_digits value) ++ codes ";"

-- registers from a number on
unfoldable pub numbered_from : ℕ → List ℕ → List ℕ
numbered_from number [] = []
numbered_from number (value ∷ values) = numbered_register number value ++ numbered_from (number + 1) values

-- ---- the reply: the signal, the one thread, the reason, and the registers

abbrev pub reply_with : Signal → List ℕ → List ℕ → List ℕ
reply_with s text registers =
    (((codes "T" ++ signal_digits s) ++ codes "thread:1;") ++ text) ++ numbered_from 0 registers

-- the reply when the machine stops
unfoldable pub stop_reply : StopReason → Features → List ℕ → List ℕ
stop_reply r features registers = reply_with (signal_of r) (reason_text features r) registers

-- the reply to `?`: the last signal, and no reason (profile)
unfoldable pub signal_reply : Signal → List ℕ → List ℕ
signal_reply s registers = reply_with s [] registers
