use Rattle.std.proofs.Common.{◌∙◌, ap, drop, slice_index_or, List}
use Rattle.gdb.proofs.Returning.{asking_returns, found_returns, interrupted_returns, none_found, nothing_made}
use Rattle.gdb.proofs.Returning.{target_found}
use Rattle.gdb.proofs.Returning.{still_nothing}
use Rattle.gdb.specs.Returns.{low_of}
use Rattle.gdb.specs.Searches.{events_for, place_of}
use Rattle.gdb.specs.Slices.{Progress}
use Rattle.gdb_past.proofs.Following.{same_refl, same_sym, same_trans}
use Rattle.gdb_past.specs.Places.{Past}
use Rattle.machine.specs.MachineModel.{MachineModel}
use Rattle.reference.specs.State.{State}
use Rattle.gdb.proofs.returns.go_back.Goals as goal

pub end_return-requires : goal.end_return-requires
end_return-requires g c = nothing_made c.new-progress.result c.new-progress.ensures

-- GDB's user has interrupted
pub returns-then-search-clause-returns : goal.returns-then-search-clause-returns
returns-then-search-clause-returns g c =
    interrupted_returns c.args.context.now.settings c.args.context.now.points.now c.args.context.now.features
    c.args.past.now
    c.args.search c.args.machine.now c.new-progress.result.events (g.W.Out.writing c.args.out.now)
    (g.W.Out.writing c.end_return.new.out) c.end_return.new.sent.items c.end_return.result c.if-search.true
    (ap (λ (p : Progress). p.events) c.new-progress.ensures) c.end_return.ensures.delivers c.end_return.ensures.outcome
    c.end_return.ensures.sent

pub returns-then-search-clause-fits : goal.returns-then-search-clause-fits
returns-then-search-clause-fits g c = c.requires.fits

pub returns-then-search-clause-same : goal.returns-then-search-clause-same
returns-then-search-clause-same g c = same_refl c.args.machine.now.state

pub returns-then-search-clause-ahead : goal.returns-then-search-clause-ahead
returns-then-search-clause-ahead g c = c.requires.ahead

-- a place
pub end_return-requires-in-Some : goal.end_return-requires-in-Some
end_return-requires-in-Some g c =
    let s : State = c.args.machine.now.state in
    let target = c.in-Some.target in
    still_nothing c.new-progress.result c.arrive.new.progress
    (events_for target.found.reason (slice_index_or c.args.past.now.marks target.number s) target.found.steps)
    c.new-progress.ensures (rw c.place_back.ensures.past at c.arrive.ensures.events s)

pub returns-in-Some-clause-returns : goal.returns-in-Some-clause-returns
returns-in-Some-clause-returns g c =
    let s : State = c.args.machine.now.state in
    let target = c.in-Some.target in
    let marks : List State = c.args.past.now.marks in
    let k = c.args.context.now.settings in
    let points = c.args.context.now.points.now in
    let features = c.args.context.now.features in
    found_returns k points features c.args.past.now c.arrive.new.past c.args.search s
    (place_of (drop target.number marks) (slice_index_or marks target.number s) target.found) c.args.machine.now
    c.arrive.new.machine c.arrive.new.progress.events (g.W.Out.writing c.args.out.now)
    (g.W.Out.writing c.end_return-in-Some.new.out) c.end_return-in-Some.new.sent.items c.end_return-in-Some.result
    c.if-search.false
    (target_found c.args.search.scope points k c.low_of-low.result (low_of features c.args.search.scope.end) s marks
    c.place_back.result target (c.place_back.ensures.place s) c.in-Some.is c.low_of-low.ensures)
    (ap (λ (m : MachineModel). m.state) (rw c.place_back.ensures.past at c.arrive.ensures.state s))
    (ap (λ (p : Progress). p.events) (rw c.place_back.ensures.past at c.arrive.ensures.events s))
    (rw c.place_back.ensures.past at c.arrive.ensures.past)
    (ap (λ (m : MachineModel). m.broken) (rw c.place_back.ensures.past at c.arrive.ensures.state s)
    ∙ c.place_back.ensures.kept)
    c.end_return-in-Some.ensures.delivers c.end_return-in-Some.ensures.outcome c.end_return-in-Some.ensures.sent

pub returns-in-Some-clause-start : goal.returns-in-Some-clause-start
returns-in-Some-clause-start g c = ap (λ (p : Past). p.start) (rw c.place_back.ensures.past at c.arrive.ensures.past)

pub returns-in-Some-clause-fits : goal.returns-in-Some-clause-fits
returns-in-Some-clause-fits g c =
    let s : State = c.args.machine.now.state in
    let start : State = c.args.past.now.start in
    rw c.take.ensures
    (same_trans s start c.arrive.new.machine.state (same_sym start s c.requires.ahead.fits)
    (rw c.place_back.ensures.past at c.arrive.ensures.same))

pub returns-in-Some-clause-same : goal.returns-in-Some-clause-same
returns-in-Some-clause-same g c =
    let s : State = c.args.machine.now.state in
    let start : State = c.args.past.now.start in
    same_trans s start c.arrive.new.machine.state (same_sym start s c.requires.ahead.fits)
    (rw c.place_back.ensures.past at c.arrive.ensures.same)

-- GDB is asked
pub ask-requires : goal.ask-requires
ask-requires g c =
    let there : State = c.place_back.new.machine.state in
    let start : State = c.args.past.now.start in
    rw c.take.ensures
    (same_trans there start c.args.machine.now.state (same_sym start there c.place_back.ensures.same)
    c.requires.ahead.fits)

pub returns-in-None-clause-returns : goal.returns-in-None-clause-returns
returns-in-None-clause-returns g c =
    let s : State = c.args.machine.now.state in
    let marks : List State = c.args.past.now.marks in
    let k = c.args.context.now.settings in
    let points = c.args.context.now.points.now in
    let features = c.args.context.now.features in
    rw c.place_back.ensures.past
    (asking_returns k points features c.args.past.now c.args.search s c.take.new.self c.low_of-low.result
    c.args.machine.now c.place_back.new.machine c.ask.new.machine (g.W.Out.writing c.args.out.now)
    (g.W.Out.writing c.ask.new.out) c.ask.new.sent.items c.ask.result c.if-search.false
    (none_found c.args.search.scope points k c.low_of-low.result (low_of features c.args.search.scope.end) s marks
    c.place_back.result (c.place_back.ensures.place s) c.in-None.is c.low_of-low.ensures)
    c.low_of-low.ensures c.take.ensures c.place_back.ensures.kept c.ask.ensures.delivers c.ask.ensures.outcome
    c.ask.ensures.sent)

pub returns-in-None-clause-fits : goal.returns-in-None-clause-fits
returns-in-None-clause-fits g c = rw c.ask.ensures.state (same_refl c.take.new.self)

pub returns-in-None-clause-same : goal.returns-in-None-clause-same
returns-in-None-clause-same g c =
    rw c.ask.ensures.state (rw c.take.ensures (same_refl c.args.machine.now.state))

pub returns-in-None-clause-ahead : goal.returns-in-None-clause-ahead
returns-in-None-clause-ahead g c =
    rw c.place_back.ensures.past (rw c.ask.ensures.state (rw c.take.ensures c.requires.ahead))
