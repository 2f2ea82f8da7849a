-- The period of SysTick.
use Rattle.std.specs.Prelude.{ℕ, zero, suc, ◌-◌, ◌<◌, ◌≤◌, ◌≡◌, true, refl}
use Rattle.std.proofs.Common.{arith, ◌∙◌, add-one}
use Rattle.std.proofs.lemmas.Grind.{common_steps}
use Rattle.clock.specs.Laws.{counts, HasThePeriod}
use Rattle.platform.specs.Time.{SysTick, counted}

-- counting leaves ENABLE and RVR
counts_keep : (k : ℕ) (t : SysTick) → ((counts k t).enable ≡ t.enable) × ((counts k t).reload ≡ t.reload)
counts_keep zero t = (refl, refl)
counts_keep (suc k) t = counts_keep k t

-- a count from 0, and one from more
reloads : (t : SysTick) → t.enable ≡ true → t.current ≡ 0 → (counted t).current ≡ t.reload
reloads t e c = grind (arith, common_steps)

falls : (t : SysTick) → t.enable ≡ true → 0 < t.current → (counted t).current ≡ t.current - 1
falls t e c = grind (arith, common_steps)

counts_are : (k : ℕ) (t : SysTick) → t.enable ≡ true → t.current ≡ 0 → k ≤ t.reload
    → (counts (suc k) t).current ≡ t.reload - k
counts_are zero t e c h = reloads t e c ∙ omega arith
counts_are (suc k) t e c h =
    let before : (counts (suc k) t).current ≡ t.reload - k = counts_are k t e c (omega arith) in
    let runs : (counts (suc k) t).enable ≡ true = (counts_keep (suc k) t).0 ∙ e in
    let above : 0 < (counts (suc k) t).current = omega arith in
    falls (counts (suc k) t) runs above ∙ omega arith

pub has_the_period : (t : SysTick) → HasThePeriod t
has_the_period t e c k h = rw add-one (counts_are k t e c h)
