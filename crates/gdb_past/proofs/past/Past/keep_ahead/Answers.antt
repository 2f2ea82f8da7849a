use Rattle.std.proofs.Common.{◌≡◌, ◌-◌, ◌∙◌, ap, arith, None, slice_index_or, sym}
use Rattle.gdb_past.proofs.Ticks.{by_ticks}
use Rattle.gdb_past.specs.Places.{tick_of}
use Rattle.reference.specs.Run.{after}
use Rattle.reference.specs.State.{State}
use Rattle.gdb_past.proofs.past.Past.keep_ahead.Goals as goal

pub save_to-requires-clause-state : goal.save_to-requires-clause-state
save_to-requires-clause-state g c = λ m.
    let s : State = c.args.machine.now.state in
    let mark : State = slice_index_or c.args.self.now.marks 0 m in
    let runs : s.stop ≡ None = sym c.stop.ensures ∙ c.in-None.is in
    let first : c.tick.result ≡ tick_of mark = c.tick.ensures m in
    let count : tick_of s - tick_of mark ≡ c.saturating_sub-steps.result =
    omega (arith, first, c.requires.tick, c.saturating_sub-steps.ensures) in
    by_ticks c.a_step_takes_a_tick.ensures c.requires.ahead.steps mark s (c.requires.ahead.there m) runs
    ∙ ap (λ i. after i mark) count
