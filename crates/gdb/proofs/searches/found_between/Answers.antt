use Rattle.std.proofs.Common.{◌≡◌, ◌∙◌, ap, arith, is_some, refl, slice_index_or, true, false}
use Rattle.gdb.proofs.Searching.{found_in_part, here_after, no_part, none_in_part}
use Rattle.gdb_past.proofs.Following.{same_trans}
use Rattle.gdb_past.specs.Places.{tick_of}
use Rattle.machine.specs.MachineModel.{MachineModel}
use Rattle.reference.specs.State.{State}
use Rattle.gdb.proofs.searches.found_between.Goals as goal

pub parts-init : goal.parts-init
parts-init g c = record {
  found = λ m. refl;
  few = omega arith;
  some = c.first_part-part.ensures;
  past = refl;
  same = c.requires.fits;
  kept = refl;
}

pub last_found-found-requires : goal.last_found-found-requires
last_found-found-requires g c =
    let s : State = c.args.machine.now.state in
    let at : c.tick-tick.result ≡ tick_of (slice_index_or c.args.past.now.marks c.args.number s) =
    c.tick-tick.ensures s in
    omega (arith, at, c.requires.room s, c.parts.invariant.few, c.go_near-from.ensures.most, c.parts-test.true)

pub returns-then-is_some-clause-found : goal.returns-then-is_some-clause-found
returns-then-is_some-clause-found g c = λ m.
    let mk : State = slice_index_or c.args.past.now.marks c.args.number m in
    let has : is_some c.last_found-found.result ≡ true = cc in
    found_in_part c.args.scope c.args.points.now c.args.settings.now mk c.args.low c.go_near-from.result c.parts.end
    c.last_found-found.result _ (omega (arith, c.go_near-from.ensures.least))
    (omega (arith, c.go_near-from.ensures.most, c.parts-test.true))
    (c.last_found-found.ensures.found mk (c.tick-tick.ensures m)
    (here_after c.parts.past c.args.past.now c.args.number c.go_near-from.result m c.parts.machine
    c.go_near-from.new.machine c.parts.invariant.past (c.go_near-from.ensures.state m)))
    has (c.parts.invariant.found m)

pub returns-then-is_some-clause-past : goal.returns-then-is_some-clause-past
returns-then-is_some-clause-past g c = c.go_near-from.ensures.past ∙ c.parts.invariant.past

pub returns-then-is_some-clause-same : goal.returns-then-is_some-clause-same
returns-then-is_some-clause-same g c =
    same_trans c.args.past.now.start c.go_near-from.new.machine.state c.last_found-found.new.machine.state
    (rw c.parts.invariant.past at c.go_near-from.ensures.same) c.last_found-found.ensures.same

pub returns-then-is_some-clause-kept : goal.returns-then-is_some-clause-kept
returns-then-is_some-clause-kept g c =
    c.last_found-found.ensures.kept
    ∙ (ap (λ (k : MachineModel). k.broken) (c.go_near-from.ensures.state c.args.machine.now.state)
    ∙ c.parts.invariant.kept)

pub parts-preserved : goal.parts-preserved
parts-preserved g c =
    let none : is_some c.last_found-found.result ≡ false = cc in
    record {
      found = λ m.
          let mk : State = slice_index_or c.args.past.now.marks c.args.number m in
          none_in_part c.args.scope c.args.points.now c.args.settings.now mk c.args.low c.go_near-from.result
          c.parts.end c.last_found-found.result _ (omega (arith, c.go_near-from.ensures.least))
          (omega (arith, c.go_near-from.ensures.most, c.parts-test.true))
          (c.last_found-found.ensures.found mk (c.tick-tick.ensures m)
          (here_after c.parts.past c.args.past.now c.args.number c.go_near-from.result m c.parts.machine
          c.go_near-from.new.machine c.parts.invariant.past (c.go_near-from.ensures.state m)))
          none (c.parts.invariant.found m);
      few = omega (arith, c.go_near-from.ensures.most, c.parts-test.true, c.parts.invariant.few);
      some = omega (arith, c.parts.invariant.some);
      past = c.go_near-from.ensures.past ∙ c.parts.invariant.past;
      same = same_trans c.args.past.now.start c.go_near-from.new.machine.state c.last_found-found.new.machine.state
          (rw c.parts.invariant.past at c.go_near-from.ensures.same) c.last_found-found.ensures.same;
      kept = c.last_found-found.ensures.kept
          ∙ (ap (λ (k : MachineModel). k.broken) (c.go_near-from.ensures.state c.args.machine.now.state)
          ∙ c.parts.invariant.kept);
    }

pub returns-clause-found : goal.returns-clause-found
returns-clause-found g c = λ m.
    no_part c.args.scope c.args.points.now c.args.settings.now (slice_index_or c.args.past.now.marks c.args.number m)
    c.args.low c.parts.end _ (omega (arith, c.parts-test.false)) (c.parts.invariant.found m)
