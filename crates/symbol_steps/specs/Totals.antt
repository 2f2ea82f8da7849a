-- How many instructions were carried out, for each privilege: at an address, in a memory and in a run.
use Rattle.std.specs.Prelude.{ℕ, zero, suc, ◌+◌, ◌-◌, ◌*◌, ◌/◌, ◌^◌, ◌%◌, min, Bool, true, false, ◌==◌}
use Rattle.std.specs.Prelude.{if◌then◌else◌}
use Rattle.survey.specs.CodeCounts.{CodeCounts, code_number}
use Rattle.survey.specs.declared.survey.Survey.{Survey}
use Rattle.symbol_steps.specs.declared.totals.Totals.{Totals}

-- a sum stays at its highest value, 2^64 - 1
abbrev pub capped : ℕ → ℕ
capped n = min n (2 ^ 64 - 1)

-- the number that `f` gives of unprivileged and of privileged code
abbrev pub totals_by : (Bool → ℕ) → Totals
totals_by f = record { unprivileged = f false; privileged = f true }

-- two numbers added, those of each privilege
abbrev pub joined : Totals → Totals → Totals
joined a b = record {
  unprivileged = capped (a.unprivileged + b.unprivileged);
  privileged = capped (a.privileged + b.privileged);
}

-- the first without the second, those of each privilege; 0 where the second is more
abbrev pub without : Totals → Totals → Totals
without a b = record {
  unprivileged = a.unprivileged - b.unprivileged;
  privileged = a.privileged - b.privileged;
}

-- those of both privileges
abbrev pub totals_sum : Totals → ℕ
totals_sum t = capped (t.unprivileged + t.privileged)

-- the sum of the numbers that `f` gives at 0, 1, .. n - 1
abbrev pub sum_first : (ℕ → ℕ) → ℕ → ℕ
sum_first f zero = 0
sum_first f (suc n) = sum_first f n + f n

-- that sum for each privilege
abbrev pub sums_first : (Bool → ℕ → ℕ) → ℕ → Totals
sums_first f n = totals_by (λ privileged. capped (sum_first (f privileged) n))

-- the address of a halfword of a memory, by its number; addresses have 32 bits
abbrev pub address_of : CodeCounts → ℕ → ℕ
address_of c k = (c.base + 2 * k) % 2 ^ 32

-- how many instructions of code of a privilege there were at a halfword of a memory
abbrev pub number_at : CodeCounts → Bool → ℕ → ℕ
number_at c privileged k = code_number c privileged (address_of c k)

-- how many there were in a memory
unfoldable pub memory_totals : CodeCounts → Totals
memory_totals c = sums_first (number_at c) c.halfwords

-- how many there were in all
abbrev pub survey_totals : Survey → Totals
survey_totals v = joined (memory_totals v.flash_code) (memory_totals v.ram_code)

-- the share that a number is of all, in tenths of a percent, rounded down: at most 1,000, and 0 where there is nothing
abbrev pub share_of : ℕ → ℕ → ℕ
share_of number all = if all == 0 then 0 else min (number * 1000 / all) 1000
