use Rattle.std.proofs.Common.{◌≡◌, ◌∙◌, ◌≤◌, List, length, refl, slice_index_or, take}
use Rattle.gdb_past.proofs.Checkpointing.{as_many_right}
use Rattle.gdb_past.proofs.Rooms.{as_many, few_used, mark_in_front, past_is, room_in_front, room_used}
use Rattle.gdb_past.specs.Places.{AreOfOneMachine}
use Rattle.reference.specs.State.{State}
use Rattle.gdb_past.proofs.past.Past.put_after.Goals as goal

pub set-requires : goal.set-requires
set-requires g c =
    let xs : List State = c.self.inside.marks.items in
    let few : c.args.count ≤ length (take c.self.inside.count xs) = rw (← c.self.view_is) at c.requires.few in
    let fits : AreOfOneMachine c.self.inside.start c.args.machine.now.state =
    rw (← c.self.view_is) at c.requires.fits in
    let less : c.args.count ≤ c.self.inside.count = few_used xs c.self.inside.count c.args.count few in
    room_used c.self.inside.start c.args.machine.now.state c.index_mut.result.now xs c.rotate_left.new.self.items
    c.rotate_right.new.self.items c.self.inside.count c.args.count c.rotate_left.new.self.len c.self.invariant.0 less
    fits (c.rotate_left.ensures.len ∙ c.self.inside.marks.ok.0)
    c.rotate_left.ensures.items c.rotate_right.ensures.items c.index_mut.ensures.value

pub invariant_of-self : goal.invariant_of-self
invariant_of-self g c =
    let start : State = c.self.inside.start in
    let xs : List State = c.self.inside.marks.items in
    let count = c.self.inside.count in
    let few : c.args.count ≤ length (take count xs) = rw (← c.self.view_is) at c.requires.few in
    let fits : AreOfOneMachine start c.args.machine.now.state = rw (← c.self.view_is) at c.requires.fits in
    let less : c.args.count ≤ count = few_used xs count c.args.count few in
    let len : c.rotate_left.new.self.len ≡ length xs = c.rotate_left.ensures.len ∙ c.self.inside.marks.ok.0 in (
      room_in_front start c.set.new.self xs c.rotate_left.new.self.items c.rotate_right.new.self.items count
          c.args.count c.len-room.result c.rotate_left.new.self.len c.min-self-inside.result c.self.invariant.0 less
          (rw (← c.set.ensures) at fits) (c.len-room.ensures ∙ c.self.inside.marks.ok.0) len c.rotate_left.ensures.items
          c.rotate_right.ensures.items c.min-self-inside.ensures,
      as_many_right start _ _ (length xs) _
          (as_many start c.set.new.self xs c.rotate_left.new.self.items c.rotate_right.new.self.items count
          c.args.count c.rotate_left.new.self.len c.self.invariant.0.few less len c.rotate_left.ensures.items
          c.rotate_right.ensures.items)
          (c.clear.ensures start (slice_index_or xs 0 start) _ _ c.self.invariant.1),
    )

pub returns : goal.returns
returns g c =
    let start : State = c.self.inside.start in
    let xs : List State = c.self.inside.marks.items in
    let count = c.self.inside.count in
    let s : State = c.args.machine.now.state in
    let few : c.args.count ≤ length (take count xs) = rw (← c.self.view_is) at c.requires.few in
    let less : c.args.count ≤ count = few_used xs count c.args.count few in
    let len : c.rotate_left.new.self.len ≡ length xs = c.rotate_left.ensures.len ∙ c.self.inside.marks.ok.0 in
    rw (
      ← c.self.view_is,
      c.set.ensures,
      c.min-self-inside.ensures,
      c.rotate_right.ensures.items,
      c.rotate_left.ensures.items,
    )
    (past_is start _ _ _ (length xs)
    (mark_in_front xs s count c.args.count c.len-room.result c.rotate_left.new.self.len c.self.invariant.0.some
    c.self.invariant.0.few less (c.len-room.ensures ∙ c.self.inside.marks.ok.0) len)
    (as_many start s xs _ _ count c.args.count c.rotate_left.new.self.len c.self.invariant.0.few less len refl refl))
