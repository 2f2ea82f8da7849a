use Rattle.std.proofs.Common.{◌≡◌, ◌+◌, ◌-◌, ◌<◌, ◌≤◌, ◌++◌, [], None, refl, sym, ◌∙◌}
use Rattle.std.proofs.Common.{ap, arith, is_some, subst, true, false}
use Rattle.gdb.proofs.Slicing.{all_delivered, before_is, continues, ended_before, ends_in, flow_made, has_pieces}
use Rattle.gdb.proofs.Slicing.{left_at}
use Rattle.gdb.proofs.Slicing.{more_delivered}
use Rattle.gdb.proofs.Slicing.{next_cut, none_left, not_before, nothing_yet, step_leaves}
use Rattle.gdb_past.proofs.Following.{same_refl, same_trans}
use Rattle.gdb_past.specs.Places.{Past}
use Rattle.gdb_past.specs.Ways.{IsAfterMark}
use Rattle.gdb.specs.Slices.{Flow, Progress, Sliced, before_step, flow, one_step, slice}
use Rattle.gdb.proofs.slices.run_slice.Goals as goal

pub steps-init : goal.steps-init
steps-init g c = record {
  slides = nothing_yet _ _ _;
  count = omega arith;
  ready = c.prepare.ensures.ready;
  fits = c.prepare.ensures.fits;
  same = same_refl c.args.machine.now.state;
  past = refl;
  ahead = c.requires.ahead;
}

-- the run ends before a step
pub returns-then-is_some-clause-delivers : goal.returns-then-is_some-clause-delivers
returns-then-is_some-clause-delivers g c =
    let f : Flow = flow c.steps.progress c.steps.machine.state in
    let p = c.args.plan.now in
    let points = c.args.points.now in
    let before : c.reason_before-before.result ≡ before_step p points f =
    before_is p points c.steps.progress c.steps.machine.state c.made.result c.returns_to.result
    c.reason_before-before.result c.reason_before-before.ensures c.made.ensures c.returns_to.ensures in
    let has : is_some c.reason_before-before.result ≡ true = cc in
    all_delivered _ _ _ _ _ _ c.steps.invariant.slides (ap (λ (r : Sliced). r.pieces)
    (ended_before p points c.steps.left f _ c.steps-test.true before has))

pub returns-then-is_some-clause-slices : goal.returns-then-is_some-clause-slices
returns-then-is_some-clause-slices g c =
    let f : Flow = flow c.steps.progress c.steps.machine.state in
    let p = c.args.plan.now in
    let points = c.args.points.now in
    let before : c.reason_before-before.result ≡ before_step p points f =
    before_is p points c.steps.progress c.steps.machine.state c.made.result c.returns_to.result
    c.reason_before-before.result c.reason_before-before.ensures c.made.ensures c.returns_to.ensures in
    let has : is_some c.reason_before-before.result ≡ true = cc in
    left_at _ _ _ _ _ _ _ [] f _ c.steps.invariant.slides
    (ended_before p points c.steps.left f _ c.steps-test.true before has) c.forget.ensures

pub make_step-requires-clause-room : goal.make_step-requires-clause-room
make_step-requires-clause-room g c =
    let some : 0 < c.steps.left = c.steps-test.true in
    omega (arith, some, c.steps.invariant.count, c.requires.room)

-- it ends in one, or before one that hits a watchpoint
pub returns-in-Ok-Some-clause-delivers : goal.returns-in-Ok-Some-clause-delivers
returns-in-Ok-Some-clause-delivers g c =
    let f : Flow = flow c.steps.progress c.steps.machine.state in
    let p = c.args.plan.now in
    let points = c.args.points.now in
    let before : c.reason_before-before.result ≡ before_step p points f =
    before_is p points c.steps.progress c.steps.machine.state c.made.result c.returns_to.result
    c.reason_before-before.result c.reason_before-before.ensures c.made.ensures c.returns_to.ensures in
    let none : is_some c.reason_before-before.result ≡ false = cc in
    let made = rw c.in-Ok-Some.field-0-is at c.in-Ok-Some.ensures in
    all_delivered _ _ _ _ _ _
    (more_delivered _ _ _ (one_step p points f).pieces _ _ _ _ _ _ c.steps.invariant.slides
    (has_pieces p points c.steps.left f c.steps-test.true (not_before _ _ before none)) made.delivers)
    (ap (λ (r : Sliced). r.pieces) (ends_in p points c.steps.left f c.in-Ok-Some.reason made.slices.0))

pub returns-in-Ok-Some-clause-slices : goal.returns-in-Ok-Some-clause-slices
returns-in-Ok-Some-clause-slices g c =
    let f : Flow = flow c.steps.progress c.steps.machine.state in
    let p = c.args.plan.now in
    let points = c.args.points.now in
    let before : c.reason_before-before.result ≡ before_step p points f =
    before_is p points c.steps.progress c.steps.machine.state c.made.result c.returns_to.result
    c.reason_before-before.result c.reason_before-before.ensures c.made.ensures c.returns_to.ensures in
    let none : is_some c.reason_before-before.result ≡ false = cc in
    let made = rw c.in-Ok-Some.field-0-is at c.in-Ok-Some.ensures in
    left_at _ _ _ _ _ _ _ _ (one_step p points f).flow _
    (more_delivered _ _ _ (one_step p points f).pieces _ _ _ _ _ _ c.steps.invariant.slides
    (has_pieces p points c.steps.left f c.steps-test.true (not_before _ _ before none)) made.delivers)
    (ends_in p points c.steps.left f c.in-Ok-Some.reason made.slices.0) made.slices.1

pub returns-in-Ok-Some-clause-same : goal.returns-in-Ok-Some-clause-same
returns-in-Ok-Some-clause-same g c =
    let made = rw c.in-Ok-Some.field-0-is at c.in-Ok-Some.ensures in
    same_trans c.args.machine.now.state c.steps.machine.state c.make_step.new.machine.state c.steps.invariant.same
    made.same

pub returns-in-Err-clause-same : goal.returns-in-Err-clause-same
returns-in-Err-clause-same g c =
    same_trans c.args.machine.now.state c.steps.machine.state c.make_step.new.machine.state c.steps.invariant.same
    c.in-Err.ensures.same

pub returns-in-Err-clause-delivers : goal.returns-in-Err-clause-delivers
returns-in-Err-clause-delivers g c =
    let f : Flow = flow c.steps.progress c.steps.machine.state in
    let p = c.args.plan.now in
    let points = c.args.points.now in
    let before : c.reason_before-before.result ≡ before_step p points f =
    before_is p points c.steps.progress c.steps.machine.state c.made.result c.returns_to.result
    c.reason_before-before.result c.reason_before-before.ensures c.made.ensures c.returns_to.ensures in
    let none : is_some c.reason_before-before.result ≡ false = cc in
    next_cut _ _ _ (one_step p points f).pieces _ _ _ _ _ _ c.steps.invariant.slides
    (has_pieces p points c.steps.left f c.steps-test.true (not_before _ _ before none)) c.in-Err.ensures.delivers

-- it stays after the last mark
pub returns-in-Ok-Some-clause-ahead : goal.returns-in-Ok-Some-clause-ahead
returns-in-Ok-Some-clause-ahead g c =
    let made = rw c.in-Ok-Some.field-0-is at c.in-Ok-Some.ensures in
    made.ahead c.steps.past c.steps.invariant.ahead

pub returns-in-Err-clause-ahead : goal.returns-in-Err-clause-ahead
returns-in-Err-clause-ahead g c = c.in-Err.ensures.ahead c.steps.past c.steps.invariant.ahead

pub follow-requires : goal.follow-requires
follow-requires g c =
    let made = rw c.in-Ok-None.field-0-is at c.in-Ok-None.ensures in
    made.ahead c.steps.past c.steps.invariant.ahead

-- it goes on
pub steps-preserved : goal.steps-preserved
steps-preserved g c =
    let f : Flow = flow c.steps.progress c.steps.machine.state in
    let p = c.args.plan.now in
    let points = c.args.points.now in
    let before : c.reason_before-before.result ≡ before_step p points f =
    before_is p points c.steps.progress c.steps.machine.state c.made.result c.returns_to.result
    c.reason_before-before.result c.reason_before-before.ensures c.made.ensures c.returns_to.ensures in
    let none : is_some c.reason_before-before.result ≡ false = cc in
    let made = rw c.in-Ok-None.field-0-is at c.in-Ok-None.ensures in
    let more : c.make_step.new.progress.made ≡ (one_step p points f).flow.made =
    ap (λ (q : Progress). q.made) made.slices.1 in
    let most : (one_step p points f).flow.made ≤ c.steps.progress.made + 1 = (step_leaves p points f).made in
    let some : 0 < c.steps.left = c.steps-test.true in
    record {
      slides = more_delivered _ _ _ (one_step p points f).pieces _ _ _ _ _ _ c.steps.invariant.slides
          (has_pieces p points c.steps.left f some (not_before _ _ before none)
          ∙ ap (λ (r : Sliced). record r { pieces = (one_step p points f).pieces ++ r.pieces })
          (continues p points c.steps.left f made.slices.0
          ∙ ap (λ (u : Flow). slice p points (c.steps.left - 1) u)
          (sym (flow_made p points f c.make_step.new.progress None c.steps.machine c.make_step.new.machine
          (g.W.Out.writing c.steps.out) (g.W.Out.writing c.make_step.new.out) refl made.delivers made.slices))))
          made.delivers;
      count = omega (arith, c.steps.invariant.count, more, most, some);
      ready = made.ready;
      fits = made.fits;
      same = same_trans c.args.machine.now.state c.steps.machine.state c.make_step.new.machine.state
          c.steps.invariant.same made.same;
      past = c.follow.ensures ∙ c.steps.invariant.past;
      ahead = subst (λ (p : Past). IsAfterMark p c.make_step.new.machine.state) (sym c.follow.ensures)
          (made.ahead c.steps.past c.steps.invariant.ahead);
    }

-- all steps were made
pub returns-clause-delivers : goal.returns-clause-delivers
returns-clause-delivers g c =
    let f : Flow = flow c.steps.progress c.steps.machine.state in
    let over : c.steps.left ≡ 0 = omega arith in
    all_delivered _ _ _ _ _ _ c.steps.invariant.slides (ap (λ (r : Sliced). r.pieces)
    (none_left c.args.plan.now c.args.points.now c.steps.left f over))

pub returns-clause-slices : goal.returns-clause-slices
returns-clause-slices g c =
    let f : Flow = flow c.steps.progress c.steps.machine.state in
    let over : c.steps.left ≡ 0 = omega arith in
    left_at _ _ _ _ _ _ None [] f _ c.steps.invariant.slides
    (none_left c.args.plan.now c.args.points.now c.steps.left f over) c.forget-2.ensures
