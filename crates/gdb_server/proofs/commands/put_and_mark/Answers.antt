use Rattle.std.proofs.Common.{sym, subst, true}
use Rattle.gdb.specs.Targets.{altered_if}
use Rattle.gdb_past.proofs.Following.{same_sym, same_trans}
use Rattle.gdb_past.specs.Places.{AreOfOneMachine}
use Rattle.gdb_server.proofs.Marking.{keeps_written, marks_written}
use Rattle.gdb_server.proofs.Sizes.{put_stays}
use Rattle.gdb_server.specs.Writes.{Written, after_place}
use Rattle.machine.specs.MachineModel.{MachineModel}
use Rattle.reference.specs.State.{State}
use Rattle.gdb_server.proofs.commands.put_and_mark.Goals as goal

pub mark-requires : goal.mark-requires
mark-requires g c =
    let s : State = c.args.machine.now.state in
    let start : State = c.args.past.now.start in
    subst (λ (m : MachineModel). AreOfOneMachine start m.state) (sym c.put.ensures.0)
    (same_trans start s (after_place s (altered_if s c.args.place)).state (same_sym s start c.requires)
    (put_stays s c.args.place))

pub returns-in-Some-clause-past : goal.returns-in-Some-clause-past
returns-in-Some-clause-past g c =
    let s : State = c.args.machine.now.state in
    let w : Written = after_place s (altered_if s c.args.place) in
    keeps_written c.args.past.now true w c.args.machine.now c.put.new.machine c.put.result c.in-Some.error
    c.put.ensures c.in-Some.is

pub returns-in-None-clause-past : goal.returns-in-None-clause-past
returns-in-None-clause-past g c =
    let s : State = c.args.machine.now.state in
    let w : Written = after_place s (altered_if s c.args.place) in
    marks_written c.args.past.now c.mark.new.self w c.args.machine.now c.put.new.machine c.put.result
    c.put.ensures c.in-None.is c.mark.ensures
