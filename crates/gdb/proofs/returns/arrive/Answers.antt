use Rattle.std.proofs.Common.{◌≡◌, ◌∙◌, ◌+◌, ◌-◌, ℕ, ap, arith, drop, length, slice_index_or}
use Rattle.std.proofs.lemmas.List.{get_or-drop, length-drop}
use Rattle.gdb.specs.Searches.{events_for}
use Rattle.gdb_past.specs.Places.{Past}
use Rattle.machine.specs.MachineModel.{MachineModel}
use Rattle.reference.specs.Run.{after}
use Rattle.reference.specs.State.{State}
use Rattle.gdb.proofs.returns.arrive.Goals as goal

pub reach-requires-clause-fits : goal.reach-requires-clause-fits
reach-requires-clause-fits g c = rw c.forget.ensures c.requires.fits

pub reach-requires-clause-some : goal.reach-requires-clause-some
reach-requires-clause-some g c =
    let left : length (drop c.args.target.number c.args.past.now.marks)
    ≡ length c.args.past.now.marks - c.args.target.number =
    length-drop c.args.target.number c.args.past.now.marks in
    rw c.forget.ensures (omega (arith, left, c.requires.number))

-- the mark that is the last one then
last_left : (past next : Past) (n : ℕ) (s : State) → next ≡ record past { marks = drop n past.marks }
    → slice_index_or next.marks 0 s ≡ slice_index_or past.marks n s
last_left past next n s is =
    ap (λ (p : Past). slice_index_or p.marks 0 s) is
    ∙ (get_or-drop n past.marks 0 s
    ∙ ap (λ i. slice_index_or past.marks i s) (let same : n + 0 ≡ n = omega arith in same))

pub returns-clause-past : goal.returns-clause-past
returns-clause-past g c = c.reach.ensures.past ∙ c.forget.ensures

pub returns-clause-events : goal.returns-clause-events
returns-clause-events g c = λ s.
    c.reach.ensures.events s
    ∙ ap (λ (u : State). record c.args.progress.now {
      events = events_for c.args.target.found.reason u c.args.target.found.steps;
    }) (last_left c.args.past.now c.forget.new.self c.args.target.number s c.forget.ensures)

pub returns-clause-state : goal.returns-clause-state
returns-clause-state g c = λ s.
    c.reach.ensures.state s
    ∙ ap (λ (u : State). record c.args.machine.now { state = after c.args.target.found.steps u })
    (last_left c.args.past.now c.forget.new.self c.args.target.number s c.forget.ensures)

pub returns-clause-same : goal.returns-clause-same
returns-clause-same g c = rw c.forget.ensures at c.reach.ensures.same

pub returns-clause-ahead : goal.returns-clause-ahead
returns-clause-ahead g c = record {
  fits = rw c.reach.ensures.past c.reach.ensures.same;
  steps = c.args.target.found.steps;
  there = λ m. rw c.reach.ensures.past (ap (λ (k : MachineModel). k.state) (c.reach.ensures.state m));
}
