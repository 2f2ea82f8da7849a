use Rattle.std.proofs.Common.{◌≡◌, ◌+◌, ◌-◌, ◌%◌, ◌≤◌, ◌∙◌, suc, true, false, refl, arith, sym, ap}
use Rattle.gdb.proofs.Turning.{asks, asks_cut, asks_none, flush_cut, not_begun, past_flush, past_slice, rest_cut}
use Rattle.gdb.proofs.Slicing.{slice_leaves}
use Rattle.gdb_past.proofs.Following.{same_refl, same_trans}
use Rattle.gdb.proofs.Turning.{none_left, some_left, taken, taken_as, whole_end}
use Rattle.gdb.specs.Slices.{Progress, flow, slice}
use Rattle.gdb.specs.Turns.{all_slices, slices, max_slice_steps}
use Rattle.gdb.proofs.turns.make_slices.Goals as goal

pub slices-init : goal.slices-init
slices-init g c = record {
  goes = not_begun _ _ _;
  count = omega (arith, c.requires.room);
  fits = c.requires.fits;
  same = same_refl c.args.machine.now.state;
  past = refl;
  ahead = c.requires.ahead;
}

pub run_slice-requires-clause-room : goal.run_slice-requires-clause-room
run_slice-requires-clause-room g c = omega (arith, c.slices.invariant.count, c.slices-test.true)

pub returns-in-Err-clause-takes : goal.returns-in-Err-clause-takes
returns-in-Err-clause-takes g c =
    let f = flow c.slices.progress c.slices.machine.state in
    let p = c.args.plan.now in
    let points = c.args.context.now.points.now in
    let features = c.args.context.now.features in
    let some : c.slices.whole ≡ suc (c.slices.whole - 1) = omega (arith, c.slices-test.true) in
    rest_cut _ _ _ (slice p points max_slice_steps f).pieces _ _ _ _ _ _ c.slices.invariant.goes
    (some_left p points features c.slices.whole (c.slices.whole - 1) (c.args.left % max_slice_steps) f some)
    c.in-Err.ensures.delivers

pub returns-in-Ok-Some-clause-takes : goal.returns-in-Ok-Some-clause-takes
returns-in-Ok-Some-clause-takes g c =
    let f = flow c.slices.progress c.slices.machine.state in
    let p = c.args.plan.now in
    let points = c.args.context.now.points.now in
    let features = c.args.context.now.features in
    let some : c.slices.whole ≡ suc (c.slices.whole - 1) = omega (arith, c.slices-test.true) in
    let made = rw c.in-Ok-Some.field-0-is at c.in-Ok-Some.ensures in
    whole_end p points features c.slices.whole (c.slices.whole - 1) (c.args.left % max_slice_steps) f
    (all_slices p points features c.args.left (flow c.args.progress.now c.args.machine.now.state))
    c.run_slice.new.progress _ c.in-Ok-Some.reason c.args.machine.now c.slices.machine c.run_slice.new.machine
    (g.W.Out.writing c.args.out.now) (g.W.Out.writing c.slices.out) (g.W.Out.writing c.run_slice.new.out)
    (g.W.Out.writing c.end_run.new.out) c.end_run.new.sent.items c.end_run.result c.slices.invariant.goes some
    made.delivers made.slices refl refl c.end_run.ensures

pub returns-in-Err-flush-clause-takes : goal.returns-in-Err-flush-clause-takes
returns-in-Err-flush-clause-takes g c =
    let f = flow c.slices.progress c.slices.machine.state in
    let p = c.args.plan.now in
    let points = c.args.context.now.points.now in
    let features = c.args.context.now.features in
    let some : c.slices.whole ≡ suc (c.slices.whole - 1) = omega (arith, c.slices-test.true) in
    let made = rw c.in-Ok-None.field-0-is at c.in-Ok-None.ensures in
    flush_cut _ _ c.run_slice.new.progress c.args.machine.now c.run_slice.new.machine (g.W.Out.writing c.args.out.now)
    (g.W.Out.writing c.run_slice.new.out) (g.W.Out.writing c.flush.new.out)
    (past_slice p points features c.slices.whole (c.slices.whole - 1) (c.args.left % max_slice_steps) f
    (all_slices p points features c.args.left (flow c.args.progress.now c.args.machine.now.state))
    c.run_slice.new.progress _ c.args.machine.now c.slices.machine c.run_slice.new.machine
    (g.W.Out.writing c.args.out.now) (g.W.Out.writing c.slices.out) (g.W.Out.writing c.run_slice.new.out)
    c.slices.invariant.goes some made.delivers made.slices refl refl)
    c.in-Err-flush.ensures.put.0 c.in-Err-flush.ensures.put.1

pub returns-in-Ok-send_packet-clause-takes : goal.returns-in-Ok-send_packet-clause-takes
returns-in-Ok-send_packet-clause-takes g c =
    let f = flow c.slices.progress c.slices.machine.state in
    let p = c.args.plan.now in
    let points = c.args.context.now.points.now in
    let features = c.args.context.now.features in
    let some : c.slices.whole ≡ suc (c.slices.whole - 1) = omega (arith, c.slices-test.true) in
    let gdb : features.is_gdb ≡ true = cc in
    let made = rw c.in-Ok-None.field-0-is at c.in-Ok-None.ensures in
    asks features p (all_slices p points features c.args.left (flow c.args.progress.now c.args.machine.now.state)) _
    c.flush.new.self c.args.machine.now c.run_slice.new.machine (g.W.Out.writing c.args.out.now)
    (g.W.Out.writing c.flush.new.out) (g.W.Out.writing c.send_packet.new.out) c.send_packet.new.sent.items
    c.asked.result
    (past_flush p points features (c.slices.whole - 1) (c.args.left % max_slice_steps) _ c.run_slice.new.progress
    c.flush.new.self c.args.machine.now c.run_slice.new.machine (g.W.Out.writing c.args.out.now)
    (g.W.Out.writing c.run_slice.new.out) (g.W.Out.writing c.flush.new.out)
    (past_slice p points features c.slices.whole (c.slices.whole - 1) (c.args.left % max_slice_steps) f
    (all_slices p points features c.args.left (flow c.args.progress.now c.args.machine.now.state))
    c.run_slice.new.progress _ c.args.machine.now c.slices.machine c.run_slice.new.machine
    (g.W.Out.writing c.args.out.now) (g.W.Out.writing c.slices.out) (g.W.Out.writing c.run_slice.new.out)
    c.slices.invariant.goes some made.delivers made.slices refl refl)
    c.in-Ok.ensures.put c.in-Ok.ensures.kept)
    gdb c.in-Ok-send_packet.ensures.put (c.asked.ensures c.run_slice.new.machine.state) c.send_packet.ensures.sent

pub returns-in-Err-send_packet-clause-takes : goal.returns-in-Err-send_packet-clause-takes
returns-in-Err-send_packet-clause-takes g c =
    let f = flow c.slices.progress c.slices.machine.state in
    let p = c.args.plan.now in
    let points = c.args.context.now.points.now in
    let features = c.args.context.now.features in
    let some : c.slices.whole ≡ suc (c.slices.whole - 1) = omega (arith, c.slices-test.true) in
    let gdb : features.is_gdb ≡ true = cc in
    let made = rw c.in-Ok-None.field-0-is at c.in-Ok-None.ensures in
    asks_cut features p (all_slices p points features c.args.left (flow c.args.progress.now c.args.machine.now.state)) _
    c.flush.new.self c.args.machine.now c.run_slice.new.machine (g.W.Out.writing c.args.out.now)
    (g.W.Out.writing c.flush.new.out) (g.W.Out.writing c.send_packet.new.out)
    (past_flush p points features (c.slices.whole - 1) (c.args.left % max_slice_steps) _ c.run_slice.new.progress
    c.flush.new.self c.args.machine.now c.run_slice.new.machine (g.W.Out.writing c.args.out.now)
    (g.W.Out.writing c.run_slice.new.out) (g.W.Out.writing c.flush.new.out)
    (past_slice p points features c.slices.whole (c.slices.whole - 1) (c.args.left % max_slice_steps) f
    (all_slices p points features c.args.left (flow c.args.progress.now c.args.machine.now.state))
    c.run_slice.new.progress _ c.args.machine.now c.slices.machine c.run_slice.new.machine
    (g.W.Out.writing c.args.out.now) (g.W.Out.writing c.slices.out) (g.W.Out.writing c.run_slice.new.out)
    c.slices.invariant.goes some made.delivers made.slices refl refl)
    c.in-Ok.ensures.put c.in-Ok.ensures.kept)
    gdb c.in-Err-send_packet.ensures.put.0 c.in-Err-send_packet.ensures.put.1

-- memories keep their sizes
pub returns-in-Ok-Some-clause-same : goal.returns-in-Ok-Some-clause-same
returns-in-Ok-Some-clause-same g c =
    let made = rw c.in-Ok-Some.field-0-is at c.in-Ok-Some.ensures in
    same_trans c.args.machine.now.state c.slices.machine.state c.run_slice.new.machine.state
    c.slices.invariant.same made.same

pub returns-in-Err-clause-same : goal.returns-in-Err-clause-same
returns-in-Err-clause-same g c =
    let made = c.in-Err.ensures in
    same_trans c.args.machine.now.state c.slices.machine.state c.run_slice.new.machine.state
    c.slices.invariant.same made.same

pub returns-in-Err-flush-clause-same : goal.returns-in-Err-flush-clause-same
returns-in-Err-flush-clause-same g c =
    let made = rw c.in-Ok-None.field-0-is at c.in-Ok-None.ensures in
    same_trans c.args.machine.now.state c.slices.machine.state c.run_slice.new.machine.state
    c.slices.invariant.same made.same

pub returns-in-Ok-send_packet-clause-same : goal.returns-in-Ok-send_packet-clause-same
returns-in-Ok-send_packet-clause-same g c =
    let made = rw c.in-Ok-None.field-0-is at c.in-Ok-None.ensures in
    same_trans c.args.machine.now.state c.slices.machine.state c.run_slice.new.machine.state
    c.slices.invariant.same made.same

pub returns-in-Err-send_packet-clause-same : goal.returns-in-Err-send_packet-clause-same
returns-in-Err-send_packet-clause-same g c =
    let made = rw c.in-Ok-None.field-0-is at c.in-Ok-None.ensures in
    same_trans c.args.machine.now.state c.slices.machine.state c.run_slice.new.machine.state
    c.slices.invariant.same made.same

pub returns-clause-same : goal.returns-clause-same
returns-clause-same g c =
    same_trans c.args.machine.now.state c.slices.machine.state c.last_slice.new.machine.state c.slices.invariant.same
    c.last_slice.ensures.same

-- it goes on
pub slices-preserved : goal.slices-preserved
slices-preserved g c =
    let f = flow c.slices.progress c.slices.machine.state in
    let p = c.args.plan.now in
    let points = c.args.context.now.points.now in
    let features = c.args.context.now.features in
    let some : c.slices.whole ≡ suc (c.slices.whole - 1) = omega (arith, c.slices-test.true) in
    let other : features.is_gdb ≡ false = cc in
    let made = rw c.in-Ok-None.field-0-is at c.in-Ok-None.ensures in
    let same : c.flush.new.self.made ≡ c.run_slice.new.progress.made =
    ap (λ (q : Progress). q.made) c.in-Ok.ensures.kept in
    let steps : c.run_slice.new.progress.made ≡ (slice p points max_slice_steps f).flow.made =
    ap (λ (q : Progress). q.made) made.slices.1 in
    let most : (slice p points max_slice_steps f).flow.made ≤ c.slices.progress.made + max_slice_steps =
    (slice_leaves p points max_slice_steps f).made in
    record {
      goes = asks_none features p _ _ (flow c.flush.new.self c.run_slice.new.machine.state) c.args.machine.now
          c.run_slice.new.machine (g.W.Out.writing c.args.out.now) (g.W.Out.writing c.flush.new.out)
          (past_flush p points features (c.slices.whole - 1) (c.args.left % max_slice_steps) _ c.run_slice.new.progress
          c.flush.new.self c.args.machine.now c.run_slice.new.machine (g.W.Out.writing c.args.out.now)
          (g.W.Out.writing c.run_slice.new.out) (g.W.Out.writing c.flush.new.out)
          (past_slice p points features c.slices.whole (c.slices.whole - 1) (c.args.left % max_slice_steps) f
          (all_slices p points features c.args.left (flow c.args.progress.now c.args.machine.now.state))
          c.run_slice.new.progress _ c.args.machine.now c.slices.machine c.run_slice.new.machine
          (g.W.Out.writing c.args.out.now) (g.W.Out.writing c.slices.out) (g.W.Out.writing c.run_slice.new.out)
          c.slices.invariant.goes some made.delivers made.slices refl refl)
          c.in-Ok.ensures.put c.in-Ok.ensures.kept) other;
      count = omega (arith, c.slices.invariant.count, c.slices-test.true, same, steps, most);
      fits = made.fits;
      same = same_trans c.args.machine.now.state c.slices.machine.state c.run_slice.new.machine.state
          c.slices.invariant.same made.same;
      past = made.past ∙ c.slices.invariant.past;
      ahead = made.ahead;
    }

-- the last slice
pub returns-clause-takes : goal.returns-clause-takes
returns-clause-takes g c =
    let f = flow c.slices.progress c.slices.machine.state in
    let p = c.args.plan.now in
    let points = c.args.context.now.points.now in
    let features = c.args.context.now.features in
    let over : c.slices.whole ≡ 0 = omega arith in
    taken (all_slices p points features c.args.left (flow c.args.progress.now c.args.machine.now.state))
    (slices p points features c.slices.whole (c.args.left % max_slice_steps) f) c.args.machine.now c.slices.machine
    c.last_slice.new.machine (g.W.Out.writing c.args.out.now) (g.W.Out.writing c.slices.out)
    (g.W.Out.writing c.last_slice.new.out) c.last_slice.new.sent.items c.last_slice.result c.slices.invariant.goes
    (taken_as _ _ c.slices.machine c.last_slice.new.machine (g.W.Out.writing c.slices.out)
    (g.W.Out.writing c.last_slice.new.out) c.last_slice.new.sent.items c.last_slice.result
    (sym (none_left p points features c.slices.whole (c.args.left % max_slice_steps) f over))
    c.last_slice.ensures.takes)
