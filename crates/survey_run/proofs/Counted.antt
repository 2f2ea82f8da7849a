-- A survey of one step more, and of steps after a stop.
use Rattle.std.proofs.Common.{◌≡◌, ◌⊎◌, inl, inr, ℕ, zero, suc, ◌+◌, ◌-◌, ◌≤◌, Option, Some, None, IsSome, refl, sym}
use Rattle.std.proofs.Common.{◌∙◌, ap, add-one, add-zero, arith}
use Rattle.platform.specs.declared.stop.Stop.{Stop}
use Rattle.reference.specs.Run.{after}
use Rattle.reference.specs.State.{State}
use Rattle.reference.specs.Step.{step}
use Rattle.machine.proofs.Running.{after_more, after_stop, all_made}
use Rattle.machine.specs.MachineModel.{MachineModel}
use Rattle.survey.specs.declared.survey.Survey.{Survey}
use Rattle.survey.specs.Surveys.{surveyed, unless_stopped, with_made_step, with_step}

pub none_made : (m : MachineModel) → m ≡ record m { state = after 0 m.state }
unfolding after
none_made m = refl

-- one step more was made
pub machine_on : (n : ℕ) (first m next : MachineModel) → m ≡ record first { state = after n first.state }
    → next ≡ record m { state = (step m.state).state } → next ≡ record first { state = after (n + 1) first.state }
machine_on n first m next now made =
    made ∙ ap (λ (w : MachineModel). record w { state = (step w.state).state }) now
    ∙ ap (λ (s : State). record first { state = s }) (sym (after_more n first.state))

-- all steps were made
pub whole_made : (limit n : ℕ) (first m : MachineModel) → n ≤ limit → m ≡ record first { state = after n first.state }
    → (n ≡ limit) ⊎ IsSome m.state.stop → m ≡ record first { state = after limit first.state }
whole_made limit n first m few now ends =
    let core = ap (λ (w : MachineModel). w.state) now in
    let last = all_made limit n first.state m.state few core ends in
    now ∙ ap (λ (s : State). record first { state = s }) (sym core ∙ last)

pub none_surveyed : (s : State) (v : Survey) → surveyed 0 s v ≡ v
unfolding surveyed
none_surveyed s v = refl

surveyed_more : (n : ℕ) (s : State) (v : Survey) → surveyed (n + 1) s v ≡ with_step (after n s) (surveyed n s v)
unfolding surveyed
surveyed_more n s v = rw add-one refl

-- a step of a machine that hasn't stopped
going : (s : State) (v : Survey) → s.stop ≡ None → with_step s v ≡ with_made_step s v
unfolding with_step
going s v e = ap (unless_stopped s v) e

-- a machine that has stopped makes none
stands_by : (s : State) (v : Survey) (o : Option Stop) → s.stop ≡ o → IsSome o → with_step s v ≡ v
unfolding with_step
stands_by s v None e some = absurd cc
stands_by s v (Some why) e some = ap (unless_stopped s v) e

-- one step more was counted
pub surveyed_on : (n : ℕ) (s core : State) (v w : Survey) → core ≡ after n s → core.stop ≡ None
    → w ≡ surveyed n s v → with_made_step core w ≡ surveyed (n + 1) s v
surveyed_on n s core v w now runs same =
    rw (surveyed_more n s v, ← same, ← now, going core w runs) refl

-- after a stop nothing more is counted
surveyed_stop : (m k : ℕ) (s : State) (v : Survey) → IsSome (after m s).stop → surveyed (m + k) s v ≡ surveyed m s v
surveyed_stop m zero s v some = rw add-zero refl
surveyed_stop m (suc k) s v some =
    let e : m + suc k ≡ (m + k) + 1 = omega arith in
    let same = (after_stop m k s some).0 in
    rw (e, surveyed_more (m + k) s v, surveyed_stop m k s v some, same)
    (stands_by (after m s) (surveyed m s v) (after m s).stop refl some)

-- a run is over where all its steps were made, or the machine has stopped
pub all_surveyed : (limit n : ℕ) (s core : State) (v w : Survey) → n ≤ limit → core ≡ after n s
    → w ≡ surveyed n s v → (n ≡ limit) ⊎ IsSome core.stop → w ≡ surveyed limit s v
all_surveyed limit n s core v w few now same (inl e) = rw (← e) same
all_surveyed limit n s core v w few now same (inr some) =
    let e : n + (limit - n) ≡ limit = omega arith in
    let some' : IsSome (after n s).stop = rw (← now) some in
    same ∙ sym (rw e at (surveyed_stop n (limit - n) s v some'))
