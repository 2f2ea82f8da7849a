use Rattle.std.proofs.Common.{◌≡◌, ◌∙◌, ◌<◌, [], ◌∷◌, arith, length, replicate, take}
use Rattle.std.proofs.lemmas.List.{length-replicate}
use Rattle.gdb_past.proofs.Checkpointing.{marked_right}
use Rattle.gdb_past.proofs.Rooms.{first_mark, first_room, past_is}
use Rattle.reference.specs.State.{State}
use Rattle.gdb_past.proofs.past.Past.new.Goals as goal

pub invariant_of-result : goal.invariant_of-result
invariant_of-result g c =
    let all : c.marks.number ≡ c.args.room = omega (arith, c.marks-test.false, c.marks.auto.number-end) in
    let some : 0 < c.marks.number = omega (arith, all, c.requires.some) in (
      first_room c.in_ok-start.start c.args.machine.now.state c.marks.marks.items c.marks.number c.in_ok-start.ensures
          c.marks.invariant some (omega (arith, all, c.requires.few)),
      marked_right c.in_ok-start.start c.args.machine.now.state c.marks.marks.items c.marks.number _
          c.in_ok-checkpoints.checkpoints c.in_ok-start.ensures c.marks.invariant some (omega (arith, all))
          c.in_ok-checkpoints.ensures,
    )

pub returns : goal.returns
returns g c =
    let all : c.marks.number ≡ c.args.room = omega (arith, c.marks-test.false, c.marks.auto.number-end) in
    let s : State = c.args.machine.now.state in
    rw (c.marks.invariant, c.in_ok-start.ensures)
    (past_is s (take 1 (replicate c.marks.number s)) (s ∷ []) (length (replicate c.marks.number s)) c.args.room
    (first_mark s c.marks.number (omega (arith, all, c.requires.some)))
    (length-replicate c.marks.number s ∙ all))
