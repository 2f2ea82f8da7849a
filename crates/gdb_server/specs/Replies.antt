-- The data of the replies that change neither the machine nor the session (GDB manual, "Packets", "General Query
-- Packets").
use Rattle.std.specs.Prelude.{ℕ, ◌/◌, min, nat_lt, Bool, true, false, not, ◌==◌, if◌then◌else◌, List, [], ◌++◌, length}
use Rattle.std.specs.Prelude.{codes, slice_index, Option, Some, None, Result, Ok, Err}
use Rattle.devices.specs.declared.device.Device.{Device}
use Rattle.gdb.specs.MemoryReads.{memory_read}
use Rattle.gdb.specs.Targets.{target_values}
use Rattle.gdb_server.specs.declared.purposes.Constant.{Constant}
use Rattle.gdb_server.specs.declared.purposes.Constant.TheVariants as constant
use Rattle.gdb_server.specs.declared.purposes.Reading.{Reading}
use Rattle.gdb_server.specs.declared.purposes.Reading.TheVariants as reading
use Rattle.gdb_texts.specs.Bytes.{bytes_text, first_bytes}
use Rattle.gdb_texts.specs.Regions.{region_at}
use Rattle.gdb_texts.specs.Registers.{registers_text, word_digits}
use Rattle.gdb_texts.specs.Stops.{signal_reply}
use Rattle.gdb_texts.specs.Threads.{thread_reply}
use Rattle.gdb_texts.specs.Transfers.{description, memory_map, piece_text}
use Rattle.gdb_texts.specs.declared.replies.ErrorCode.{ErrorCode}
use Rattle.gdb_texts.specs.declared.replies.ErrorCode.TheVariants.{Malformed, NoSuchPlace, NotReadable}
use Rattle.gdb_texts.specs.declared.stops.Signal.{Signal}
use Rattle.gdb_texts.specs.declared.threads.Activity.{Activity}
use Rattle.gdb_texts.specs.declared.threads.Activity.TheVariants as activity
use Rattle.instruction_set.specs.Registers.{is_privileged}
use Rattle.machine.specs.NextStep.{next_kind_of}
use Rattle.platform.specs.Boards.{Numbers}
use Rattle.platform.specs.declared.stop.Stop.{Stop}
use Rattle.reference.specs.State.{State}
use Rattle.task_laws.specs.declared.next_step.StepKind.{StepKind}
use Rattle.task_laws.specs.declared.next_step.StepKind.TheVariants as kind

-- ---- replies that are always the same

abbrev pub constant_text : Constant → List ℕ
constant_text constant.Empty = []
constant_text constant.Done = codes "OK"
constant_text constant.ResumeActions = codes "vCont;c;C;s;S;r"
constant_text constant.Attached = codes "1"  -- so that GDB's `quit` detaches (profile)
constant_text constant.CurrentThread = codes "QC1"
constant_text constant.FirstThreads = codes "m1"
constant_text constant.MoreThreads = codes "l"

-- what this server takes, beside GDB's usual packets
abbrev pub server_features : List ℕ
server_features =
    codes "PacketSize=1000;QStartNoAckMode+;qXfer:features:read+;qXfer:memory-map:read+;"
    ++ codes "vContSupported+;ReverseStep+;ReverseContinue+;swbreak+;hwbreak+"

-- ---- digits as bytes: two for each, at most as many bytes as a packet has

abbrev pub bytes_in : List ℕ → List ℕ
bytes_in digits = first_bytes digits (min (length digits / 2) 4096)

-- ---- registers, memory, and texts that are read in pieces

abbrev pub register_data : State → ℕ → Result (List ℕ) ErrorCode
register_data s n = if nat_lt n 23 then Ok (word_digits (slice_index (target_values s) n)) else Err NoSuchPlace

abbrev pub unless_none : List ℕ → Result (List ℕ) ErrorCode
unless_none digits = if length digits == 0 then Err NotReadable else Ok digits

-- the bytes that can be seen, as many as follow without a gap
abbrev pub memory_data : State → ℕ → ℕ → Result (List ℕ) ErrorCode
memory_data s a n = unless_none (bytes_text (memory_read s a n))

abbrev pub piece_data : List ℕ → ℕ → ℕ → Result (List ℕ) ErrorCode
piece_data text offset count =
    if nat_lt (length text) offset then Err Malformed else Ok (piece_text text offset count)

-- ---- what the thread is at

-- whether the next step takes a vector: an exception is being entered
abbrev pub is_entering : Option StepKind → Bool
is_entering None = false
is_entering (Some kind.Vector) = true
is_entering (Some kind.Stack) = false
is_entering (Some kind.Sleep) = false
is_entering (Some kind.Instruction) = false

abbrev pub activity_unless_stopped : State → Option Stop → Activity
activity_unless_stopped s (Some why) = activity.Stopped why
activity_unless_stopped s None =
    if is_entering (next_kind_of s) then activity.Entry
    else if not (s.registers.exception == 0) then activity.Handler s.registers.exception
    else if is_privileged s.registers then activity.Privileged
    else activity.Unprivileged

abbrev pub activity_of : State → Activity
activity_of s = activity_unless_stopped s s.stop

-- ---- all of these

-- what a packet reads, after the last signal of a session on a board with these devices
abbrev pub data_read : Signal → Numbers → List Device → State → Reading → Result (List ℕ) ErrorCode
data_read signal board devices s reading.StopReason = Ok (signal_reply signal (target_values s))
data_read signal board devices s reading.Registers = Ok (registers_text (target_values s))
data_read signal board devices s (reading.Register n) = register_data s n
data_read signal board devices s (reading.Memory a n) = memory_data s a n
data_read signal board devices s (reading.Description at n) = piece_data description at n
data_read signal board devices s (reading.MemoryMap at n) = piece_data (memory_map board devices) at n
data_read signal board devices s (reading.Region a) = Ok (region_at board devices a)
data_read signal board devices s reading.Thread = Ok (thread_reply (activity_of s) s.asleep)
