use Rattle.std.proofs.Common.{◌≡◌, ◌∙◌, ◌<◌, List, ap, arith, length, slice_index_or, subst, sym, take}
use Rattle.gdb_past.proofs.Checkpointing.{at_mark, last_mark, used_mark}
use Rattle.gdb_past.proofs.Following.{same_after, same_trans}
use Rattle.gdb_past.specs.Places.{AreOfOneMachine}
use Rattle.machine.specs.MachineModel.{MachineModel}
use Rattle.reference.specs.Run.{after}
use Rattle.reference.specs.State.{State}
use Rattle.gdb_past.proofs.past.Past.restore_near.Goals as goal

pub returns-then-number-gt0-clause-state : goal.returns-then-number-gt0-clause-state
returns-then-number-gt0-clause-state g c = λ m.
    let xs : List State = c.self.inside.marks.items in
    let there : c.args.number < length (take c.self.inside.count xs) = rw (← c.self.view_is) at c.requires.number in
    rw (← c.self.view_is)
    (at_mark c.args.machine.now c.restore.new.machine c.index.result.now
    (slice_index_or (take c.self.inside.count xs) c.args.number m) c.restore.ensures
    (used_mark xs c.self.inside.count c.args.number c.index.result.now m there c.index.ensures))

pub returns-in-Some-clause-state : goal.returns-in-Some-clause-state
returns-in-Some-clause-state g c = λ m.
    let start : State = c.self.inside.start in
    let xs : List State = c.self.inside.marks.items in
    let none : c.args.number ≡ 0 = omega (arith, c.if-number-gt0.false) in
    let any : 0 < length xs = omega (arith, c.self.invariant.0.some, c.self.invariant.0.few) in
    rw (← c.self.view_is)
    (c.in-Some.ensures.state start (slice_index_or xs 0 start) _ c.self.invariant.1
    ∙ ap (λ (s : State). record c.args.machine.now { state = after c.in-Some.steps s })
    (last_mark xs c.self.inside.count m start c.self.invariant.0.some any
    ∙ ap (λ i. slice_index_or (take c.self.inside.count xs) i m) (sym none)))

pub returns-in-Some-clause-same : goal.returns-in-Some-clause-same
returns-in-Some-clause-same g c =
    let start : State = c.self.inside.start in
    let xs : List State = c.self.inside.marks.items in
    let mark : State = slice_index_or xs 0 start in
    let any : 0 < length xs = omega (arith, c.self.invariant.0.some, c.self.invariant.0.few) in
    let there : c.restore-2.new.machine.state ≡ after c.in-Some.steps mark =
    ap (λ (k : MachineModel). k.state) (c.in-Some.ensures.state start mark _ c.self.invariant.1) in
    rw (← c.self.view_is)
    (subst (λ (s : State). AreOfOneMachine start s) (sym there)
    (same_trans start mark (after c.in-Some.steps mark) (c.self.invariant.0.fits 0 start any)
    (same_after c.in-Some.steps mark)))

pub returns-in-None-clause-state : goal.returns-in-None-clause-state
returns-in-None-clause-state g c = λ m.
    let xs : List State = c.self.inside.marks.items in
    let none : c.args.number ≡ 0 = omega (arith, c.if-number-gt0.false) in
    let there : 0 < length (take c.self.inside.count xs) =
    (let few : c.args.number < length (take c.self.inside.count xs) = rw (← c.self.view_is) at c.requires.number in
    omega (arith, few)) in
    rw (← c.self.view_is)
    (at_mark c.args.machine.now c.restore-in-None.new.machine c.index-in-None.result.now
    (slice_index_or (take c.self.inside.count xs) c.args.number m)
    (c.restore-in-None.ensures ∙ ap (λ (k : MachineModel). record k { state = c.index-in-None.result.now })
    (c.restore-2.ensures.none c.in-None.is))
    (used_mark xs c.self.inside.count 0 c.index-in-None.result.now m there c.index-in-None.ensures
    ∙ ap (λ i. slice_index_or (take c.self.inside.count xs) i m) (sym none)))
