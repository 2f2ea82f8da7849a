-- What a packet asks of a server at rest (GDB manual, "Packets", "General Query Packets").
use Rattle.std.specs.Prelude.{ℕ, Bool, true, false, List, Option, Some, None}
use Rattle.gdb.specs.declared.searches.Way.TheVariants as way
use Rattle.gdb_packets.specs.declared.packets.PointKind.{PointKind}
use Rattle.gdb_packets.specs.declared.packets.PointKind.TheVariants as point
use Rattle.gdb_packets.specs.declared.packets.Request.{Request}
use Rattle.gdb_packets.specs.declared.packets.Request.TheVariants as request
use Rattle.gdb_server.specs.declared.purposes.Constant.TheVariants as constant
use Rattle.gdb_server.specs.declared.purposes.MachineChange.TheVariants as change
use Rattle.gdb_server.specs.declared.purposes.Purpose.{Purpose}
use Rattle.gdb_server.specs.declared.purposes.Purpose.TheVariants as purpose
use Rattle.gdb_server.specs.declared.purposes.Reading.TheVariants as reading
use Rattle.gdb_server.specs.declared.purposes.SessionChange.{SessionChange}
use Rattle.gdb_server.specs.declared.purposes.SessionChange.TheVariants as setting
use Rattle.gdb_texts.specs.Actions.{actions_of}
use Rattle.gdb_texts.specs.declared.actions.Resume.{Resume}
use Rattle.gdb_texts.specs.declared.actions.Resume.TheVariants as resume
use Rattle.gdb_texts.specs.declared.points.BreakpointKind.TheVariants.{Software, Hardware}
use Rattle.gdb_texts.specs.declared.points.WatchKind.{WatchKind}
use Rattle.gdb_texts.specs.declared.points.WatchKind.TheVariants as watch
use Rattle.gdb_texts.specs.declared.replies.ErrorCode.TheVariants as code
use Rattle.gdb_texts.specs.declared.watchpoints.Watchpoint.{Watchpoint}

abbrev pub watchpoint : WatchKind → ℕ → ℕ → Watchpoint
watchpoint kind a n = record { kind = kind; address = a; length = n }

-- Z kind,address,length. A breakpoint has no length (profile)
abbrev pub insertion_of : PointKind → ℕ → ℕ → SessionChange
insertion_of point.SoftwareBreakpoint a n = setting.Insert (record { kind = Software; address = a })
insertion_of point.HardwareBreakpoint a n = setting.Insert (record { kind = Hardware; address = a })
insertion_of point.WriteWatchpoint a n = setting.Watch (watchpoint watch.Write a n)
insertion_of point.ReadWatchpoint a n = setting.Watch (watchpoint watch.Read a n)
insertion_of point.AccessWatchpoint a n = setting.Watch (watchpoint watch.Access a n)

-- z kind,address,length
abbrev pub removal_of : PointKind → ℕ → ℕ → SessionChange
removal_of point.SoftwareBreakpoint a n = setting.Remove (record { kind = Software; address = a })
removal_of point.HardwareBreakpoint a n = setting.Remove (record { kind = Hardware; address = a })
removal_of point.WriteWatchpoint a n = setting.Unwatch (watchpoint watch.Write a n)
removal_of point.ReadWatchpoint a n = setting.Unwatch (watchpoint watch.Read a n)
removal_of point.AccessWatchpoint a n = setting.Unwatch (watchpoint watch.Access a n)

-- vCont with its actions
abbrev pub resumption : Option Resume → Purpose
resumption None = purpose.Refuse code.Malformed
resumption (Some how) = purpose.Resume how

-- what a packet asks for, with the bytes after its fields
unfoldable pub purpose_of : Request → List ℕ → Purpose
purpose_of request.Unknown tail = purpose.Say constant.Empty
purpose_of request.Malformed tail = purpose.Refuse code.Malformed
purpose_of request.Supported tail = purpose.Set setting.Features
purpose_of request.StartNoAckMode tail = purpose.Set setting.NoAcknowledgement
purpose_of request.StopReason tail = purpose.Read reading.StopReason
purpose_of request.ReadRegisters tail = purpose.Read reading.Registers
purpose_of request.WriteRegisters tail = purpose.Write change.Registers
purpose_of (request.ReadRegister n) tail = purpose.Read (reading.Register n)
purpose_of (request.WriteRegister n) tail = purpose.Write (change.Register n)
purpose_of (request.ReadMemory a n) tail = purpose.Read (reading.Memory a n)
purpose_of (request.WriteMemory a n) tail = purpose.Write (change.Digits a)
purpose_of (request.WriteBinary a n) tail = purpose.Write (change.Bytes a)
purpose_of request.Continue tail = purpose.Resume resume.Continue
purpose_of request.Step tail = purpose.Resume resume.Step
purpose_of request.ResumeActions tail = purpose.Say constant.ResumeActions
purpose_of request.Resume tail = resumption (actions_of tail)
purpose_of request.ReverseStep tail = purpose.Back way.Step
purpose_of request.ReverseContinue tail = purpose.Back way.Continue
purpose_of (request.Insert k a n) tail = purpose.Set (insertion_of k a n)
purpose_of (request.Remove k a n) tail = purpose.Set (removal_of k a n)
purpose_of (request.ReadDescription at n) tail = purpose.Read (reading.Description at n)
purpose_of request.NoAnnex tail = purpose.Refuse code.NoAnnex
purpose_of (request.ReadMemoryMap at n) tail = purpose.Read (reading.MemoryMap at n)
purpose_of request.Monitor tail = purpose.Command
purpose_of (request.MemoryRegion a) tail = purpose.Read (reading.Region a)
purpose_of request.Attached tail = purpose.Say constant.Attached
purpose_of request.SelectThread tail = purpose.Say constant.Done
purpose_of request.CurrentThread tail = purpose.Say constant.CurrentThread
purpose_of request.FirstThreads tail = purpose.Say constant.FirstThreads
purpose_of request.MoreThreads tail = purpose.Say constant.MoreThreads
purpose_of request.ThreadDescription tail = purpose.Read reading.Thread
purpose_of request.ThreadAlive tail = purpose.Say constant.Done
purpose_of request.ExtendedMode tail = purpose.Set setting.Extended
purpose_of request.Run tail = purpose.Run
purpose_of request.Restart tail = purpose.Restart
purpose_of request.Detach tail = purpose.Set setting.End
purpose_of request.Kill tail = purpose.Kill
purpose_of request.KillProcess tail = purpose.Set setting.End
purpose_of request.FileReply tail = purpose.Nothing  -- there was no question

-- whether a packet is the reply to a question
abbrev pub is_file_reply : Request → Bool
is_file_reply request.Unknown = false
is_file_reply request.Malformed = false
is_file_reply request.Supported = false
is_file_reply request.StartNoAckMode = false
is_file_reply request.StopReason = false
is_file_reply request.ReadRegisters = false
is_file_reply request.WriteRegisters = false
is_file_reply (request.ReadRegister n) = false
is_file_reply (request.WriteRegister n) = false
is_file_reply (request.ReadMemory a n) = false
is_file_reply (request.WriteMemory a n) = false
is_file_reply (request.WriteBinary a n) = false
is_file_reply request.Continue = false
is_file_reply request.Step = false
is_file_reply request.ResumeActions = false
is_file_reply request.Resume = false
is_file_reply request.ReverseStep = false
is_file_reply request.ReverseContinue = false
is_file_reply (request.Insert k a n) = false
is_file_reply (request.Remove k a n) = false
is_file_reply (request.ReadDescription at n) = false
is_file_reply request.NoAnnex = false
is_file_reply (request.ReadMemoryMap at n) = false
is_file_reply request.Monitor = false
is_file_reply (request.MemoryRegion a) = false
is_file_reply request.Attached = false
is_file_reply request.SelectThread = false
is_file_reply request.CurrentThread = false
is_file_reply request.FirstThreads = false
is_file_reply request.MoreThreads = false
is_file_reply request.ThreadDescription = false
is_file_reply request.ThreadAlive = false
is_file_reply request.ExtendedMode = false
is_file_reply request.Run = false
is_file_reply request.Restart = false
is_file_reply request.Detach = false
is_file_reply request.Kill = false
is_file_reply request.KillProcess = false
is_file_reply request.FileReply = true
