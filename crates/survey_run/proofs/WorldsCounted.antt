-- The worlds after one step more, and after a stop.
use Rattle.std.proofs.Common.{◌≡◌, ◌⊎◌, inl, inr, ℕ, zero, suc, ◌+◌, ◌-◌, ◌≤◌, false}
use Rattle.std.proofs.Common.{Option, Some, None, IsSome, refl, sym, ◌∙◌, ap, add-one, add-zero, arith}
use Rattle.std.proofs.Math.Bool.{and-false}
use Rattle.platform.specs.declared.stop.Stop.{Stop}
use Rattle.reference.specs.Run.{after}
use Rattle.reference.specs.State.{State}
use Rattle.reference.specs.Step.{step}
use Rattle.machine.proofs.Running.{after_more, after_stop, all_made}
use Rattle.machine.specs.MachineModel.{MachineModel}
use Rattle.access_map.specs.Counting.{Worlds}
use Rattle.task_laws.specs.NextStep.{is_instruction, is_instruction_next, kind_unless_stopped}
use Rattle.survey_run.specs.WorldRuns.{runs_in_world, with_step, worlds_after}

pub none_made : (m : MachineModel) → m ≡ record m { state = after 0 m.state }
unfolding after
none_made m = refl

-- one step more was made
pub machine_on : (n : ℕ) (first m next : MachineModel) → m ≡ record first { state = after n first.state }
    → next ≡ record m { state = (step m.state).state } → next ≡ record first { state = after (n + 1) first.state }
machine_on n first m next now made =
    made ∙ ap (λ (w : MachineModel). record w { state = (step w.state).state }) now
    ∙ ap (λ (s : State). record first { state = s }) (sym (after_more n first.state))

-- all steps were made
pub whole_made : (limit n : ℕ) (first m : MachineModel) → n ≤ limit → m ≡ record first { state = after n first.state }
    → (n ≡ limit) ⊎ IsSome m.state.stop → m ≡ record first { state = after limit first.state }
whole_made limit n first m few now ends =
    let core = ap (λ (w : MachineModel). w.state) now in
    let last = all_made limit n first.state m.state few core ends in
    now ∙ ap (λ (s : State). record first { state = s }) (sym core ∙ last)

pub none_counted : (s : State) (v : Worlds) → worlds_after 0 s v ≡ v
unfolding worlds_after
none_counted s v = refl

counted_more : (n : ℕ) (s : State) (v : Worlds) → worlds_after (n + 1) s v ≡ with_step (after n s) (worlds_after n s v)
unfolding worlds_after
counted_more n s v = rw add-one refl

-- a machine that has stopped makes no step
no_instruction : (s : State) (o : Option Stop) → IsSome o → is_instruction (kind_unless_stopped s o) ≡ false
no_instruction s None some = absurd cc
no_instruction s (Some why) some = refl

stands_by : (s : State) (v : Worlds) → IsSome s.stop → with_step s v ≡ v
unfolding with_step runs_in_world
stands_by s v some =
    let none : is_instruction_next s ≡ false = no_instruction s s.stop some in
    rw (none, and-false) refl

-- one step more was counted
pub counted_on : (n : ℕ) (s core : State) (v w : Worlds) → core ≡ after n s → w ≡ worlds_after n s v
    → with_step core w ≡ worlds_after (n + 1) s v
counted_on n s core v w now same = rw (counted_more n s v, ← same, ← now) refl

-- after a stop nothing more is counted
counted_stop : (m k : ℕ) (s : State) (v : Worlds) → IsSome (after m s).stop
    → worlds_after (m + k) s v ≡ worlds_after m s v
counted_stop m zero s v some = rw add-zero refl
counted_stop m (suc k) s v some =
    let e : m + suc k ≡ (m + k) + 1 = omega arith in
    let same = (after_stop m k s some).0 in
    rw (e, counted_more (m + k) s v, counted_stop m k s v some, same)
    (stands_by (after m s) (worlds_after m s v) some)

-- a run is over where all its steps were made, or the machine has stopped
pub all_counted : (limit n : ℕ) (s core : State) (v w : Worlds) → n ≤ limit → core ≡ after n s
    → w ≡ worlds_after n s v → (n ≡ limit) ⊎ IsSome core.stop → w ≡ worlds_after limit s v
all_counted limit n s core v w few now same (inl e) = rw (← e) same
all_counted limit n s core v w few now same (inr some) =
    let e : n + (limit - n) ≡ limit = omega arith in
    let some' : IsSome (after n s).stop = rw (← now) some in
    same ∙ sym (rw e at (counted_stop n (limit - n) s v some'))
