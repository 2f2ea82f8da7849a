use Rattle.std.proofs.Common.{◌≡◌, ◌∙◌, ap, arith, is_some, slice_index_or, sym, true, false}
use Rattle.gdb.proofs.Searching.{after_tick, before_low, here_after, later_found, mark_only}
use Rattle.gdb.specs.Searches.{mark_found}
use Rattle.gdb_past.proofs.Following.{after_none}
use Rattle.gdb_past.specs.Places.{tick_of}
use Rattle.machine.specs.MachineModel.{MachineModel}
use Rattle.reference.specs.Run.{after}
use Rattle.reference.specs.State.{State}
use Rattle.gdb.proofs.searches.found_from.Goals as goal

pub returns-then-is_some-clause-found : goal.returns-then-is_some-clause-found
returns-then-is_some-clause-found g c = λ m.
    let mk : State = slice_index_or c.args.past.now.marks c.args.number m in
    let has : is_some c.found_between-later.result ≡ true = cc in
    later_found c.args.scope c.args.points.now c.args.settings.now c.args.low c.tick-tick.result
    mk c.found_between-later.result (c.tick-tick.ensures m)
    (after_tick c.args.scope c.args.points.now c.args.settings.now mk c.args.low
    c.tick-tick.result c.saturating_sub-skipped.result c.saturating_sub-count.result c.found_between-later.result
    c.saturating_sub-skipped.ensures c.saturating_sub-count.ensures (c.found_between-later.ensures.found m)) has

pub returns-then-tick-low-clause-found : goal.returns-then-tick-low-clause-found
returns-then-tick-low-clause-found g c = λ m.
    let mk : State = slice_index_or c.args.past.now.marks c.args.number m in
    before_low c.args.scope c.args.points.now c.args.settings.now c.args.low c.tick-tick.result
    mk c.found_between-later.result (c.tick-tick.ensures m)
    (after_tick c.args.scope c.args.points.now c.args.settings.now mk c.args.low
    c.tick-tick.result c.saturating_sub-skipped.result c.saturating_sub-count.result c.found_between-later.result
    c.saturating_sub-skipped.ensures c.saturating_sub-count.ensures (c.found_between-later.ensures.found m))
    c.if-tick-low.true

-- the mark itself
pub go_near-requires-clause-number : goal.go_near-requires-clause-number
go_near-requires-clause-number g c = rw c.found_between-later.ensures.past c.requires.number

pub go_near-requires-clause-fits : goal.go_near-requires-clause-fits
go_near-requires-clause-fits g c = rw c.found_between-later.ensures.past c.found_between-later.ensures.same

pub mark_found-requires : goal.mark_found-requires
mark_found-requires g c =
    let m : State = c.args.machine.now.state in
    let none : c.go_near.result ≡ 0 = omega (arith, c.go_near.ensures.most) in
    c.tick-tick.ensures m
    ∙ sym (ap tick_of (here_after c.found_between-later.new.past c.args.past.now c.args.number c.go_near.result m
    c.found_between-later.new.machine c.go_near.new.machine c.found_between-later.ensures.past
    (c.go_near.ensures.state m)
    ∙ (ap (λ i. after i (slice_index_or c.args.past.now.marks c.args.number m)) none
    ∙ after_none (slice_index_or c.args.past.now.marks c.args.number m))))

pub returns-clause-found : goal.returns-clause-found
returns-clause-found g c = λ m.
    let mk : State = slice_index_or c.args.past.now.marks c.args.number m in
    let none : c.go_near.result ≡ 0 = omega (arith, c.go_near.ensures.most) in
    let empty : is_some c.found_between-later.result ≡ false = cc in
    c.mark_found.ensures
    ∙ (ap (λ (s : State). mark_found c.args.scope c.args.points.now s)
    (here_after c.found_between-later.new.past c.args.past.now c.args.number c.go_near.result m
    c.found_between-later.new.machine c.go_near.new.machine c.found_between-later.ensures.past
    (c.go_near.ensures.state m)
    ∙ (ap (λ i. after i mk) none ∙ after_none mk))
    ∙ mark_only c.args.scope c.args.points.now c.args.settings.now c.args.low c.tick-tick.result mk
    c.found_between-later.result (c.tick-tick.ensures m)
    (after_tick c.args.scope c.args.points.now c.args.settings.now mk c.args.low
    c.tick-tick.result c.saturating_sub-skipped.result c.saturating_sub-count.result c.found_between-later.result
    c.saturating_sub-skipped.ensures c.saturating_sub-count.ensures (c.found_between-later.ensures.found m)) empty
    (omega (arith, c.if-tick-low.false)))

pub returns-clause-past : goal.returns-clause-past
returns-clause-past g c = c.go_near.ensures.past ∙ c.found_between-later.ensures.past

pub returns-clause-same : goal.returns-clause-same
returns-clause-same g c = rw c.found_between-later.ensures.past at c.go_near.ensures.same

pub returns-clause-kept : goal.returns-clause-kept
returns-clause-kept g c =
    ap (λ (k : MachineModel). k.broken) (c.go_near.ensures.state c.args.machine.now.state)
    ∙ c.found_between-later.ensures.kept
