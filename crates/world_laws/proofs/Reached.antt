-- The states of a run on a board have its RAMs, and those that are counted for a world are states of it.
use Rattle.std.proofs.Common.{◌≡◌, ◌∙◌, ◌<◌, ◌+◌, ℕ, zero, suc, Bool, true, false, not, ◌&&◌, ap, add-one, arith, refl}
use Rattle.std.proofs.Common.{if◌then◌else◌, is_some, List, [], ◌∷◌, Option, Some, Result, Ok, Err}
use Rattle.std.proofs.Common.{slice_get, subst, sym, take}
use Rattle.access_map.proofs.SameSettings.{same_exactly}
use Rattle.access_map.specs.declared.counting.WorldSteps.{WorldSteps}
use Rattle.access_map.specs.declared.world.World.{World}
use Rattle.access_map.specs.Counting.{Worlds, place_in}
use Rattle.access_map.specs.Settings.{IsSameSetting, is_same_setting}
use Rattle.access_map.specs.Sharing.{is_in_ram}
use Rattle.instruction_set.specs.Registers.{is_handler}
use Rattle.physical_memory.proofs.Blocks.{agree_self, agree_then, agree_where, overwritten_agrees}
use Rattle.physical_memory.specs.Sizes.{HaveSameSizes}
use Rattle.platform.specs.Boards.{Described, Numbers, blank}
use Rattle.platform.specs.Images.{Segment, are_placed, image_loaded}
use Rattle.platform.specs.Memory.{Memory, overwritten}
use Rattle.platform.specs.declared.error.StartError.{StartError}
use Rattle.platform.specs.declared.error.StartError.TheVariants.{SegmentOutsideMemory}
use Rattle.reference.specs.Invariant.{Invariant}
use Rattle.reference.specs.Run.{after}
use Rattle.reference.specs.Start.{reset, start}
use Rattle.reference.specs.State.{State}
use Rattle.reference.specs.Step.{step}
use Rattle.survey_run.specs.WorldRuns.{runs_in_world, world_of}
use Rattle.task_laws.proofs.Instructions.{instruction_is}
use Rattle.task_laws.specs.NextStep.{is_instruction_next}
use Rattle.task_laws.specs.Tasks.{AreInstructions, runs_unprivileged}
use Rattle.world_laws.specs.ReachedLaw.{IsCountedFor, IsOfWorld}
use Rattle.world_laws.specs.WorldLaw.{HasRamsOf, RunsIn}

-- ---- RAMs

-- memories of the same sizes have the RAMs of one board
pub rams_stay : (board : Numbers) (m w : Memory) → HaveSameSizes m w → HasRamsOf board m → HasRamsOf board w
rams_stay board [] [] same rams = tt
rams_stay board [] (c ∷ w) same rams = absurd same
rams_stay board (b ∷ m) [] same rams = absurd same
rams_stay board (b ∷ m) (c ∷ w) same rams = (
  λ writes k below.
      subst (λ (base : ℕ). is_in_ram board (base + k) ≡ true) (sym same.0.base)
      (rams.0 (sym same.0.is_writable ∙ writes) k (subst (λ (size : ℕ). k < size) same.0.size below)),
  rams_stay board m w same.1 rams.1,
)

-- an image leaves the sizes
loaded_sizes : (m : Memory) (image : List Segment) → HaveSameSizes m (image_loaded m image)
loaded_sizes m [] = agree_self _ m
loaded_sizes m (s ∷ segments) =
    let w = overwritten m s.address s.bytes in
    agree_then _ m w (image_loaded w segments)
    (agree_where _ _ (λ x e. absurd cc) m w (overwritten_agrees m s.address s.bytes)) (loaded_sizes w segments)

-- the start of a board, whose image is placed or not
abbrev start_by : State → Bool → Result State StartError
start_by whole placed = if placed then Ok whole else Err SegmentOutsideMemory

starts_so : (whole first : State) (placed : Bool) → start_by whole placed ≡ Ok first → whole ≡ first
starts_so whole first true starts = cc
starts_so whole first false starts = absurd cc

-- the first state of a run
first_is : (board : Described) (image : List Segment) (first : State) → start board image ≡ Ok first
    → reset board.numbers (image_loaded (blank board.numbers) image) board.script board.devices ≡ first
unfolding start
first_is board image first starts = starts_so _ first (are_placed (blank board.numbers) image) starts

pub first_has_rams : (board : Described) (image : List Segment) (first : State) → start board image ≡ Ok first
    → HasRamsOf board.numbers (blank board.numbers) → HasRamsOf board.numbers first.bus.memory
first_has_rams board image first starts rams =
    subst (λ (s : State). HasRamsOf board.numbers s.bus.memory) (first_is board image first starts)
    (rams_stay board.numbers (blank board.numbers) (image_loaded (blank board.numbers) image)
    (loaded_sizes (blank board.numbers) image) rams)

-- what holds at first, and each step keeps, holds after n steps
pub run_keeps : (P : State → Type 0) → ((s : State) → P s → P (step s).state) → (s : State) → P s → (n : ℕ)
    → P (after n s)
unfolding after
run_keeps P keeps s first zero = first
run_keeps P keeps s first (suc n) = keeps (after n s) (run_keeps P keeps s first n)

-- ---- the world of a state

-- the row at the place of a world has its setting
row_has_setting : (x : World) (rows : List WorldSteps) (row : WorldSteps) → slice_get rows (place_in x rows) ≡ Some row
    → is_same_setting x row.world ≡ true
row_has_setting x [] row there = absurd cc
row_has_setting x (first ∷ rows) row there =
    lead (is_same_setting x first.world) refl (λ later. row_has_setting x rows row later)
  where
    lead : (same : Bool) → is_same_setting x first.world ≡ same
        → (slice_get rows (place_in x rows) ≡ Some row → is_same_setting x row.world ≡ true)
        → is_same_setting x row.world ≡ true
    lead true same others =
        let found : Some first ≡ Some row =
        ap (λ (b : Bool). slice_get (first ∷ rows) (if b then 0 else place_in x rows + 1)) (sym same) ∙ there in
        let is : first ≡ row = cc in
        ap (λ (r : WorldSteps). is_same_setting x r.world) (sym is) ∙ same
    lead false other others =
        let later : slice_get (first ∷ rows) (place_in x rows + 1) ≡ Some row =
        ap (λ (b : Bool). slice_get (first ∷ rows) (if b then 0 else place_in x rows + 1)) (sym other) ∙ there in
        others (rw add-one at later)

-- settings are the same in both directions
setting_back : (v w : World) → IsSameSetting v w → IsSameSetting w v
setting_back v w same = record {
  control = sym same.control;
  count = sym same.count;
  regions = λ k below. sym (same.regions k (subst (λ (n : ℕ). k < n) (sym same.count) below));
  negative = sym same.negative;
}

-- ---- a state from which a step is counted

parts : (handler unprivileged next : Bool) → ((not handler && unprivileged) && next) ≡ true
    → (not handler ≡ true) × (unprivileged ≡ true) × (next ≡ true)
parts false true true e = (refl, refl, refl)
parts true unprivileged next e = absurd cc
parts false false next e = absurd cc
parts false true false e = absurd cc

runs : (s : State) → runs_in_world s ≡ true → (runs_unprivileged s ≡ true) × (is_instruction_next s ≡ true)
unfolding runs_in_world
runs s e =
    let p = parts (is_handler s.registers) s.registers.unprivileged (is_instruction_next s) e in
    let outside : not (is_some s.entry) ≡ true =
    ap (λ (entry : Option ℕ). not (is_some entry)) (instruction_is s p.2).outside in
    (rw (p.0, p.1, outside) refl, p.2)

only_next : (s : State) → is_instruction_next s ≡ true → AreInstructions 1 s
unfolding after
only_next s next zero below = next
only_next s next (suc k) below = absurd (omega (arith, below))

pub is_of_world : (board : Numbers) (w : World) (v : Worlds) (s : State) → HasRamsOf board s.bus.memory → Invariant s
    → IsCountedFor w v s → IsOfWorld board w s
is_of_world board w v s rams inv counted = record {
  rams = rams;
  next = running 1 (only_next s now.1);
  runs = running;
}
  where
    now : (runs_unprivileged s ≡ true) × (is_instruction_next s ≡ true)
    now = runs s counted.runs

    here : IsSameSetting w (world_of s)
    here = subst (λ (x : World). IsSameSetting x (world_of s)) (sym counted.is)
        (setting_back (world_of s) counted.row.world ((same_exactly (world_of s) counted.row.world).1
        (row_has_setting (world_of s) (take v.used v.rows) counted.row counted.there)))

    running : (m : ℕ) → AreInstructions m s → RunsIn w s m
    running m instructions =
        record { invariant = inv; here = here; unprivileged = now.0; instructions = instructions }
