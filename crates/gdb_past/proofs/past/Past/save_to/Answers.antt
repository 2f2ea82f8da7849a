use Rattle.std.proofs.Common.{◌≡◌, ◌∙◌, ◌<◌, ℕ, List, ap, arith, length, slice_index_or, subst, sym, take}
use Rattle.gdb_past.proofs.Checkpointing.{all_fit, last_mark}
use Rattle.gdb_past.proofs.Following.{same_after, same_trans}
use Rattle.gdb_past.specs.Places.{AreOfOneMachine}
use Rattle.gdb_past.specs.Rooms.{HasRoom}
use Rattle.reference.specs.Run.{after}
use Rattle.reference.specs.State.{State}
use Rattle.gdb_past.proofs.past.Past.save_to.Goals as goal

-- the machine is this far after the mark that the checkpoints are of, and has the same board
here : (start s : State) (xs : List State) (count steps : ℕ) → HasRoom start xs count
    → ((m : State) → s ≡ after steps (slice_index_or (take count xs) 0 m))
    → (s ≡ after steps (slice_index_or xs 0 start)) × AreOfOneMachine start s
here start s xs count steps room is =
    let mark : State = slice_index_or xs 0 start in
    let any : 0 < length xs = omega (arith, room.some, room.few) in
    let there : s ≡ after steps mark =
    is start ∙ sym (ap (λ (m : State). after steps m) (last_mark xs count start start room.some any)) in (
      there,
      subst (λ (u : State). AreOfOneMachine start u) (sym there)
          (same_trans start mark (after steps mark) (room.fits 0 start any) (same_after steps mark)),
    )

pub save_to-requires-clause-fits : goal.save_to-requires-clause-fits
save_to-requires-clause-fits g c =
    let start : State = c.self.inside.start in
    let s : State = c.args.machine.now.state in
    let xs : List State = c.self.inside.marks.items in
    all_fit start (slice_index_or xs 0 start) s _ c.self.inside.checkpoints c.self.invariant.1
    (here start s xs c.self.inside.count c.args.steps c.self.invariant.0
    (rw (← c.self.view_is) at c.requires.state)).1

pub invariant_of-self : goal.invariant_of-self
invariant_of-self g c =
    let start : State = c.self.inside.start in
    let xs : List State = c.self.inside.marks.items in
    let facts = here start c.args.machine.now.state xs c.self.inside.count c.args.steps c.self.invariant.0
    (rw (← c.self.view_is) at c.requires.state) in (
      c.self.invariant.0,
      c.save_to.ensures start (slice_index_or xs 0 start) _ c.self.invariant.1 facts.0 facts.1,
    )
