-- Steps of the reference machine: none, and one more.
use Rattle.std.proofs.Common.{◌≡◌, ℕ, ◌+◌, ◌++◌, refl, add-one}
use Rattle.reference.specs.Run.{after, events_of}
use Rattle.reference.specs.State.{State}
use Rattle.reference.specs.Step.{step}

pub none_made : (s : State) → after 0 s ≡ s
unfolding after
none_made s = refl

-- one step more
pub after_more : (n : ℕ) (s : State) → after (n + 1) s ≡ (step (after n s)).state
unfolding after
after_more n s = rw add-one refl

pub events_more : (n : ℕ) (s : State) → events_of (n + 1) s ≡ events_of n s ++ (step (after n s)).events
unfolding events_of
events_more n s = rw add-one refl
