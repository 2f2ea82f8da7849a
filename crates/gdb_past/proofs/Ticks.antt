-- How many steps a machine that runs has made: as many as ticks have passed.
use Rattle.std.proofs.Common.{◌≡◌, ◌∙◌, ℕ, zero, suc, ◌+◌, ◌-◌, ◌<◌, nat_le, Bool, true, false, Option, Some, None, []}
use Rattle.std.proofs.Common.{ap, arith, refl, subst, sym}
use Rattle.std.proofs.lemmas.Bool.Decides.{nat_tests}
use Rattle.gdb_past.specs.Places.{tick_of}
use Rattle.platform.specs.declared.stop.Stop.{Stop}
use Rattle.platform.specs.declared.stop.Stop.TheVariants as stop
use Rattle.platform.specs.declared.stop.Unsupported.TheVariants.{ClockEnd}
use Rattle.platform.specs.Time.{last_tick}
use Rattle.reference.specs.Run.{after}
use Rattle.reference.specs.State.{State, stopped}
use Rattle.reference.specs.Step.{running, step, unless_stopped}
use Rattle.step_laws.specs.TickLaw.{TakesTick}

-- a machine that runs after a step ran before it, and the clock wasn't at its end
record Ran (s : State) : Type 0 where
  runs : s.stop ≡ None
  early : tick_of s < last_tick

ran_if : (s : State) (late : Bool) → s.stop ≡ None → nat_le last_tick (tick_of s) ≡ late
    → (running s).state.stop ≡ None → Ran s
ran_if s false runs is none = record { runs = runs; early = grind (arith, nat_tests) }
ran_if s true runs is none =
    let never : (stopped s [] (stop.OutOfProfile ClockEnd)).state.stop ≡ None = rw is at none in
    absurd cc

ran_by : (s : State) (why : Option Stop) → s.stop ≡ why → (unless_stopped s why).state.stop ≡ None → Ran s
ran_by s None is none = ran_if s (nat_le last_tick (tick_of s)) is refl none
ran_by s (Some why) is none = absurd (let never : Some why ≡ None = sym is ∙ none in cc)

ran : (s : State) → (step s).state.stop ≡ None → Ran s
unfolding step
ran s none = ran_by s s.stop refl none

module _ (takes_tick : (s : State) → TakesTick s) where
  steps_count : (n : ℕ) (m : State) → (after n m).stop ≡ None → tick_of (after n m) ≡ tick_of m + n
  unfolding after
  steps_count zero m none = omega arith
  steps_count (suc n) m none =
      let before : Ran (after n m) = ran (after n m) none in
      let so_far : tick_of (after n m) ≡ tick_of m + n = steps_count n m before.runs in
      let one : tick_of (step (after n m)).state ≡ tick_of (after n m) + 1 =
      takes_tick (after n m) before.runs before.early in
      omega (arith, so_far, one)

  -- how many steps a machine that runs has made
  pub by_ticks : (n : ℕ) (m s : State) → s ≡ after n m → s.stop ≡ None → s ≡ after (tick_of s - tick_of m) m
  by_ticks n m s is runs =
      let all : tick_of (after n m) ≡ tick_of m + n = steps_count n m (subst (λ (u : State). u.stop ≡ None) is runs) in
      let here : tick_of s ≡ tick_of (after n m) = ap tick_of is in
      let count : n ≡ tick_of s - tick_of m = omega (arith, all, here) in
      is ∙ ap (λ i. after i m) count
