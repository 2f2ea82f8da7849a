-- What a clock keeps beside time itself.
use Rattle.std.specs.Prelude.{ℕ, ◌+◌, ◌≡◌, Bool, true, false, nat_lt, Option, Some, None, IfSome}
use Rattle.platform.specs.Time.{Time, due_of}

pub record TimeAndDue : Type 0 where
  pub time : Time
  -- the tick that is kept as the next one at which something is due, if one is kept
  pub due : Option ℕ

-- whether a tick is before the one that is kept
abbrev pub is_before : ℕ → Option ℕ → Bool
is_before tick None = false
is_before tick (Some due) = nat_lt tick due

-- the tick that is kept, if one is, is the one at which something is due
abbrev pub DueTickIsExact : TimeAndDue → Type 0
DueTickIsExact k = IfSome k.due (λ due. due ≡ due_of k.time)

-- the next tick is before the one that is kept
abbrev pub IsBeforeDueTick : TimeAndDue → Type 0
IsBeforeDueTick k = is_before (k.time.ticks + 1) k.due ≡ true
