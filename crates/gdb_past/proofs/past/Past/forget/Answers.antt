use Rattle.std.proofs.Common.{◌≡◌, ◌∙◌, ◌-◌, ◌<◌, ◌≤◌, List, ap, arith, drop, length, min, slice_index_or, take}
use Rattle.std.proofs.lemmas.List.{length-take}
use Rattle.gdb_past.proofs.Checkpointing.{as_many_right}
use Rattle.gdb_past.proofs.Rooms.{as_many_left, marks_left, past_is, room_left}
use Rattle.reference.specs.State.{State}
use Rattle.gdb_past.proofs.past.Past.forget.Goals as goal

pub invariant_of-self : goal.invariant_of-self
invariant_of-self g c =
    let xs : List State = c.self.inside.marks.items in
    let ys : List State = c.rotate_left.new.self.items in
    let few : c.args.count < length (take c.self.inside.count xs) = rw (← c.self.view_is) at c.requires in (
      room_left c.self.inside.start xs ys c.self.inside.count c.args.count c.self.invariant.0
          c.rotate_left.ensures.items few,
      as_many_right c.self.inside.start _ (length ys) (length xs) _
          (as_many_left xs ys c.self.inside.count c.args.count c.self.invariant.0.few few c.rotate_left.ensures.items)
          (c.clear.ensures c.self.inside.start (slice_index_or xs 0 c.self.inside.start)
          (slice_index_or ys 0 c.self.inside.start) _ c.self.invariant.1),
    )

pub returns : goal.returns
returns g c =
    let xs : List State = c.self.inside.marks.items in
    let ys : List State = c.rotate_left.new.self.items in
    let count = c.self.inside.count in
    let few : c.args.count < length (take count xs) = rw (← c.self.view_is) at c.requires in
    let set : length (take count xs) ≡ min count (length xs) = length-take count xs in
    let less : c.args.count ≤ count = omega (arith, few, set) in
    rw (← c.self.view_is)
    (past_is c.self.inside.start (take (count - c.args.count) ys) (drop c.args.count (take count xs)) (length ys)
    (length xs) (ap (λ (ms : List State). take (count - c.args.count) ms) c.rotate_left.ensures.items
    ∙ marks_left xs count c.args.count c.self.invariant.0.few less)
    (as_many_left xs ys count c.args.count c.self.invariant.0.few few c.rotate_left.ensures.items))
