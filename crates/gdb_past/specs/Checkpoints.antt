-- Checkpoints: states on the way from the last mark. They change no answer: from one of them a place between the marks
-- is reached by fewer steps than from the mark (profile).
use Rattle.std.specs.Prelude.{◌≡◌, ℕ, ◌-◌, ◌^◌, ◌<◌, ◌≤◌, List, All, length, slice_index_or}
use Rattle.gdb_past.specs.Places.{AreOfOneMachine}
use Rattle.reference.specs.Run.{after}
use Rattle.reference.specs.State.{State}

pub record Checkpoint : Type 0 where
  pub state : State
  -- how many steps after the mark
  pub steps : ℕ
  -- in which generation it was kept
  pub generation : ℕ

pub record Checkpoints : Type 0 where
  pub slots : List Checkpoint
  -- how often they were cleared: those of an earlier generation are of an earlier mark
  pub generation : ℕ

-- no checkpoint of this generation is used
abbrev pub last_generation : ℕ
last_generation = 2 ^ 64 - 1

-- a checkpoint of this generation is the state after its steps from the mark
abbrev pub IsRight : State → ℕ → Checkpoint → Type 0
IsRight m generation c = c.generation ≡ generation → generation < last_generation → c.state ≡ after c.steps m

-- there is room for `count` checkpoints of the machine that has the state `start`, and each is right for the mark m
pub record AreRight (start m : State) (count : ℕ) (cs : Checkpoints) : Type 0 where
  pub rooms : length cs.slots ≡ count
  pub fits : All (λ c. AreOfOneMachine start c.state) cs.slots
  pub before : All (λ c. c.generation ≤ cs.generation) cs.slots
  pub right : All (λ c. IsRight m cs.generation c) cs.slots

-- a checkpoint, by its number, can be used for a place that is `most` steps after the mark, or later
pub record IsNear (cs : Checkpoints) (most number : ℕ) : Type 0 where
  pub there : number < length cs.slots
  pub used : cs.generation < last_generation
  pub same : (c : Checkpoint) → (slice_index_or cs.slots number c).generation ≡ cs.generation
  pub few : (c : Checkpoint) → (slice_index_or cs.slots number c).steps ≤ most
