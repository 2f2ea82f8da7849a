use Rattle.std.proofs.Common.{◌≡◌, ◌+◌, ◌∙◌, ◌<◌, ◌∷◌, ap, arith, drop, false, length, slice_index_or, sym, List}
use Rattle.gdb.specs.declared.searches.SearchScope.{SearchScope}
use Rattle.gdb.proofs.Searching.{found_here, none_here, none_yet, passed_over, past_begins}
use Rattle.gdb.specs.Searches.{found_from, place_back}
use Rattle.gdb_past.specs.Places.{Past, tick_of}
use Rattle.machine.specs.MachineModel.{MachineModel}
use Rattle.reference.specs.State.{State}
use Rattle.gdb.proofs.searches.place_back.Goals as goal
use Rattle.gdb.proofs.searches.place_back.Goals.{then-tick-scope+in_default+else-tick-low, else-tick-scope}

pub found_from-requires-clause-number : goal.found_from-requires-clause-number
found_from-requires-clause-number g c =
    rw c.marks.invariant.past (omega (arith, c.marks-test.true, c.count-number-end.ensures.count))

pub found_from-requires-clause-fits : goal.found_from-requires-clause-fits
found_from-requires-clause-fits g c = rw c.marks.invariant.past c.marks.invariant.same

pub returns-in-Some-clause-place : goal.returns-in-Some-clause-place
returns-in-Some-clause-place g c = λ s.
    let marks : List State = c.args.past.now.marks in
    let n = c.marks.number in
    let there : n < length marks = omega (arith, c.marks-test.true, c.count-number-end.ensures.count) in
    let at : c.tick-tick.result ≡ tick_of (slice_index_or marks n s) =
    c.tick-tick.ensures s ∙ ap (λ (p : Past). tick_of (slice_index_or p.marks n s)) c.marks.invariant.past in
    found_here c.marks.scope c.args.points.now c.args.settings.now c.args.low n s marks c.in-Some.found there
    (omega (arith, at, c.if-tick-scope.true))
    (sym c.in-Some.is ∙ (c.found_from.ensures.found s
    ∙ ap (λ (p : Past). found_from c.marks.scope c.args.points.now c.args.settings.now c.args.low
    (slice_index_or p.marks n s)) c.marks.invariant.past))
    ∙ c.marks.invariant.place s

pub returns-in-Some-clause-same : goal.returns-in-Some-clause-same
returns-in-Some-clause-same g c =
    rw c.marks.invariant.past at c.found_from.ensures.same

pub returns-in-Some-clause-past : goal.returns-in-Some-clause-past
returns-in-Some-clause-past g c = c.found_from.ensures.past ∙ c.marks.invariant.past

pub returns-in-Some-clause-number : goal.returns-in-Some-clause-number
returns-in-Some-clause-number g c = omega (arith, c.marks-test.true, c.count-number-end.ensures.count)

pub returns-in-Some-clause-kept : goal.returns-in-Some-clause-kept
returns-in-Some-clause-kept g c =
    c.found_from.ensures.kept ∙ c.marks.invariant.kept

pub returns-then-tick-low-clause-place : goal.returns-then-tick-low-clause-place
returns-then-tick-low-clause-place g c = λ s.
    let marks : List State = c.args.past.now.marks in
    let n = c.marks.number in
    let there : n < length marks = omega (arith, c.marks-test.true, c.count-number-end.ensures.count) in
    let at : c.tick-tick.result ≡ tick_of (slice_index_or marks n s) =
    c.tick-tick.ensures s ∙ ap (λ (p : Past). tick_of (slice_index_or p.marks n s)) c.marks.invariant.past in
    none_here c.marks.scope c.args.points.now c.args.settings.now c.args.low n s marks there
    (omega (arith, at, c.if-tick-scope.true)) (omega (arith, at, c.if-tick-low.true))
    (sym c.in_default.is ∙ (c.found_from.ensures.found s
    ∙ ap (λ (p : Past). found_from c.marks.scope c.args.points.now c.args.settings.now c.args.low
    (slice_index_or p.marks n s)) c.marks.invariant.past))
    ∙ c.marks.invariant.place s

pub returns-then-tick-low-clause-past : goal.returns-then-tick-low-clause-past
returns-then-tick-low-clause-past g c = c.found_from.ensures.past ∙ c.marks.invariant.past

pub returns-then-tick-low-clause-same : goal.returns-then-tick-low-clause-same
returns-then-tick-low-clause-same g c =
    rw c.marks.invariant.past at c.found_from.ensures.same

pub returns-then-tick-low-clause-kept : goal.returns-then-tick-low-clause-kept
returns-then-tick-low-clause-kept g c =
    c.found_from.ensures.kept ∙ c.marks.invariant.kept

pub marks-preserved : goal.marks-preserved
marks-preserved g c =
    let marks : List State = c.args.past.now.marks in
    let n = c.marks.number in
    let there : n < length marks = omega (arith, c.marks-test.true, c.count-number-end.ensures.count) in
    elim c.if-tick-scope.branch [
      | then-tick-scope+in_default+else-tick-low w ↦ record {
        place = λ s.
            let at : c.tick-tick.result ≡ tick_of (slice_index_or marks n s) =
            c.tick-tick.ensures s ∙ ap (λ (p : Past). tick_of (slice_index_or p.marks n s)) c.marks.invariant.past in
            ap (λ (q : SearchScope). place_back q c.args.points.now c.args.settings.now c.args.low
            (slice_index_or (s ∷ marks) (n + 1) s) (drop (n + 1) marks))
            (w.scope-is ∙ ap (λ i. record c.marks.scope { end = i; continues = false }) at)
            ∙ (none_yet c.marks.scope c.args.points.now c.args.settings.now c.args.low n s marks there
            (omega (arith, at, w.if-tick-scope.true)) (omega (arith, at, w.if-tick-low.false))
            (sym w.in_default.is ∙ (w.found_from.ensures.found s
            ∙ ap (λ (p : Past). found_from c.marks.scope c.args.points.now c.args.settings.now c.args.low
            (slice_index_or p.marks n s)) c.marks.invariant.past))
            ∙ c.marks.invariant.place s);
        past = w.past-is ∙ (w.found_from.ensures.past ∙ c.marks.invariant.past);
        same = rw w.machine-is (rw c.marks.invariant.past at w.found_from.ensures.same);
        kept = ap (λ (m : MachineModel). m.broken) w.machine-is ∙ (w.found_from.ensures.kept
            ∙ c.marks.invariant.kept);
      }
      | else-tick-scope w ↦ record {
        place = λ s.
            let at : c.tick-tick.result ≡ tick_of (slice_index_or marks n s) =
            c.tick-tick.ensures s ∙ ap (λ (p : Past). tick_of (slice_index_or p.marks n s)) c.marks.invariant.past in
            ap (λ (q : SearchScope). place_back q c.args.points.now c.args.settings.now c.args.low
            (slice_index_or (s ∷ marks) (n + 1) s) (drop (n + 1) marks)) w.scope-is
            ∙ (passed_over c.marks.scope c.args.points.now c.args.settings.now c.args.low n s marks there
            (omega (arith, at, w.if-tick-scope.false))
            ∙ c.marks.invariant.place s);
        past = w.past-is ∙ c.marks.invariant.past;
        same = rw w.machine-is c.marks.invariant.same;
        kept = ap (λ (m : MachineModel). m.broken) w.machine-is ∙ c.marks.invariant.kept;
      }
    ]

pub returns-clause-place : goal.returns-clause-place
returns-clause-place g c = λ s.
    let whole : c.count.result ≡ length c.args.past.now.marks =
    c.count.ensures.count ∙ ap (λ (p : Past). length p.marks) c.marks.invariant.past in
    let all : c.marks.number ≡ c.count.result =
    omega (arith, c.marks-test.false, c.marks.auto.number-end, whole, c.count-number-end.ensures.count) in
    past_begins c.marks.scope c.args.points.now c.args.settings.now c.args.low c.count.result s c.args.past.now.marks
    whole c.count.ensures.some
    ∙ (ap (λ i. place_back c.marks.scope c.args.points.now c.args.settings.now c.args.low
    (slice_index_or (s ∷ c.args.past.now.marks) i s) (drop i c.args.past.now.marks)) (sym all)
    ∙ c.marks.invariant.place s)

pub returns-clause-number : goal.returns-clause-number
returns-clause-number g c =
    let whole : c.count.result ≡ length c.args.past.now.marks =
    c.count.ensures.count ∙ ap (λ (p : Past). length p.marks) c.marks.invariant.past in
    omega (arith, whole, c.count.ensures.some)
