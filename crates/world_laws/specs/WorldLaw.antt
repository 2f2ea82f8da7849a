-- What a world has written has no effect on the code of another world that is apart from it (profile).
use Rattle.std.specs.Prelude.{◌≡◌, ℕ, ◌+◌, ◌<◌, Bool, true, not, ◌&&◌, ◌||◌, if◌then◌else◌, is_some, []}
use Rattle.std.specs.Prelude.{◌∷◌, length}
use Rattle.access_map.specs.declared.world.Place.TheVariants.{Ram}
use Rattle.access_map.specs.declared.world.World.{World}
use Rattle.access_map.specs.Settings.{IsSameSetting}
use Rattle.access_map.specs.Sharing.{AreWorldsApart, is_in_ram}
use Rattle.access_map.specs.Worlds.{rights_at}
use Rattle.platform.specs.Boards.{Numbers}
use Rattle.platform.specs.Memory.{BlocksAgree, Memory}
use Rattle.reference.specs.Invariant.{Invariant}
use Rattle.reference.specs.Run.{after}
use Rattle.reference.specs.State.{State}
use Rattle.task_laws.specs.declared.task.TaskEnd.{TaskEnd}
use Rattle.task_laws.specs.Sight.{Same, with_memory}
use Rattle.task_laws.specs.TaskLaw.{EndedAlike, EndsAfter, RunAlike}
use Rattle.task_laws.specs.Tasks.{AreInstructions, is_task, runs_unprivileged}
use Rattle.survey_run.specs.WorldRuns.{world_of}

-- a state is in a world: the MPU has its setting
abbrev pub IsInWorld : World → State → Type 0
IsInWorld w s = IsSameSetting w (world_of s)

-- a world may write the byte of a RAM at an address
abbrev pub may_write : World → ℕ → Bool
may_write w a = (rights_at w Ram a).write

-- a memory with the RAMs of another one: in place of each block that a store may change, the block at the same place of
-- the other list
abbrev pub with_rams : Memory → Memory → Memory
with_rams [] w = []
with_rams (b ∷ m) [] = b ∷ m
with_rams (b ∷ m) (c ∷ w) = (if b.is_writable then c else b) ∷ with_rams m w

-- a state with the RAMs of a memory
abbrev pub with_rams_of : State → Memory → State
with_rams_of s m = with_memory s (with_rams s.bus.memory m)

-- two states have the same RAMs: with those of the other, the first is as it was
abbrev pub HaveSameRams : State → State → Type 0
HaveSameRams s u = with_rams s.bus.memory u.bus.memory ≡ s.bus.memory

-- two memories agree in everything but bytes of RAM that a world may write
abbrev pub AgreeButRams : World → Memory → Memory → Type 0
AgreeButRams v [] [] = Unit {0}
AgreeButRams v (b ∷ m) (c ∷ w) =
    BlocksAgree (λ a. not (b.is_writable && may_write v a)) b c × AgreeButRams v m w
AgreeButRams v [] (c ∷ w) = ⊥
AgreeButRams v (b ∷ m) [] = ⊥

-- two states agree in everything but bytes of RAM that a world may write
pub record AgreeButWritten (v : World) (s t : State) : Type 0 where
  pub memory : AgreeButRams v s.bus.memory t.bus.memory
  pub rest : t ≡ with_memory s t.bus.memory

-- each byte of a memory that a store may change is in a RAM of a board
abbrev pub HasRamsOf : Numbers → Memory → Type 0
HasRamsOf board [] = Unit {0}
HasRamsOf board (b ∷ m) =
    (b.is_writable ≡ true → (k : ℕ) → k < length b.bytes → is_in_ram board (b.base + k) ≡ true) × HasRamsOf board m

-- unprivileged code runs in a state, in a world, outside the entry phase, and each of n steps is an Instruction step
pub record RunsIn (w : World) (s : State) (n : ℕ) : Type 0 where
  pub invariant : Invariant s
  pub here : IsInWorld w s
  pub unprivileged : runs_unprivileged s ≡ true
  pub instructions : AreInstructions n s

-- a run from u in world v: a state with the RAMs of u and the same state with the RAMs after the run agree in
-- everything
-- but bytes of RAM that v may write
abbrev pub WritesLaw : World → State → State → ℕ → Type 0
WritesLaw v u s n = RunsIn v u n → HaveSameRams s u → AgreeButWritten v s (with_rams_of s (after n u).bus.memory)

-- world v is apart from world w, with no address allowed, on a board whose RAMs s has, and t is s but for bytes of RAM
-- that v may write
pub record WroteApart (board : Numbers) (v w : World) (s t : State) : Type 0 where
  pub apart : AreWorldsApart board v w []
  pub rams : HasRamsOf board s.bus.memory
  pub written : AgreeButWritten v s t

-- where s is in world w, two such states look the same to unprivileged code
abbrev pub UnseenLaw : Numbers → World → World → State → State → Type 0
UnseenLaw board v w s t = IsInWorld w s → WroteApart board v w s t → Same s t

-- each of n steps from t is an Instruction step as from s, the events are the same, and the states after them look the
-- same to the code
abbrev pub WorldRunLaw : Numbers → World → World → State → State → ℕ → Type 0
WorldRunLaw board v w s t n = RunsIn w s n → WroteApart board v w s t → RunAlike n s t

-- a run of m steps from u in world v, and one of n steps from s in world w: where the worlds are apart, the run from
-- s is the same with the RAMs that the run from u left
abbrev pub ApartLaw : Numbers → World → World → State → State → ℕ → ℕ → Type 0
ApartLaw board v w u s m n =
    AreWorldsApart board v w [] → HasRamsOf board s.bus.memory → HaveSameRams s u →
    RunsIn v u m → RunsIn w s n → RunAlike n s (with_rams_of s (after m u).bus.memory)

-- where a task runs in s, or the machine has stopped: a run of at most n Instruction steps from t ended as one from s
-- did, after as many steps, for the same reason and with the same events
abbrev pub WorldEndsLaw : ℕ → Numbers → World → World → State → State → ℕ → ℕ → TaskEnd → TaskEnd → Type 0
WorldEndsLaw n board v w s t a b x y =
    Invariant s → IsInWorld w s → WroteApart board v w s t → is_some s.stop || is_task s ≡ true →
    EndsAfter n s a x → EndsAfter n t b y → EndedAlike s t a b x y
