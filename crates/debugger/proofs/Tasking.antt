-- The pieces of a run of a task, one after another.
use Rattle.std.proofs.Common.{◌≡◌, ◌⊎◌, inl, inr, ℕ, zero, suc, ◌-◌, ◌<◌, nat_lt, true, false, List, [], ◌∷◌}
use Rattle.std.proofs.Common.{refl, sym, ◌∙◌, ap, subst, arith}
use Rattle.std.proofs.lemmas.Bool.Decides.{nat_tests}
use Rattle.debugger.proofs.Running.{step_cut, step_more}
use Rattle.serving.proofs.Delivering.{HasDelivered}
use Rattle.debugger.specs.Answers.{step_piece, task_on, task_piece}
use Rattle.debugger_commands.specs.Settings.{Settings}
use Rattle.target.specs.NextStep.{is_instruction_next}
use Rattle.target.specs.Endings.{end_of}
use Rattle.target.specs.MachineModel.{MachineModel}
use Rattle.output.specs.Output.{Writing}
use Rattle.reference.specs.State.{State}
use Rattle.reference.specs.Step.{step}
use Rattle.task_laws.specs.declared.task.TaskEnd.{TaskEnd}
use Rattle.serving.specs.Pieces.{Piece, DeliversAll, DeliversPart}

-- no step is left, or the next one isn't an Instruction step
task_at_end : (k : Settings) (n : ℕ) (s : State) → (n ≡ 0) ⊎ (is_instruction_next s ≡ false)
    → task_on k n s ≡ task_piece s (end_of s.stop (nat_lt 0 n)) ∷ []
unfolding task_on
task_at_end k zero s e = refl
task_at_end k (suc n) s (inl e) = absurd (omega arith)
task_at_end k (suc n) s (inr e) = let left : nat_lt 0 (suc n) ≡ true = grind (arith, nat_tests) in rw (e, left) refl

task_goes : (k : Settings) (n : ℕ) (s : State) → 0 < n → is_instruction_next s ≡ true
    → task_on k n s ≡ step_piece k s ∷ task_on k (n - 1) (step s).state
unfolding task_on
task_goes k zero s some goes = absurd (let wrong : 0 < 0 = some in omega arith)
task_goes k (suc n) s some goes = let e : suc n - 1 ≡ n = omega arith in rw (goes, e) refl

-- one step more
pub task_more : (k : Settings) (left : ℕ) (all : List Piece) (old mid new : MachineModel) (a b c : Writing) → 0 < left
    → is_instruction_next mid.state ≡ true → HasDelivered all (task_on k left mid.state) old mid a b
    → DeliversAll (step_piece k mid.state ∷ []) mid new b c
    → HasDelivered all (task_on k (left - 1) new.state) old new a c
task_more k left all old mid new a b c some goes so_far then =
    step_more k (task_on k (left - 1)) all old mid new a b c
    (subst (λ (ps : List Piece). HasDelivered all ps old mid a b) (task_goes k left mid.state some goes) so_far) then

-- a step that was cut
pub task_cut : (k : Settings) (left : ℕ) (all : List Piece) (old mid new : MachineModel) (a b c : Writing) → 0 < left
    → is_instruction_next mid.state ≡ true → HasDelivered all (task_on k left mid.state) old mid a b
    → DeliversPart (step_piece k mid.state ∷ []) mid new b c → DeliversPart all old new a c
task_cut k left all old mid new a b c some goes so_far then =
    step_cut k (task_on k (left - 1) (step mid.state).state) all old mid new a b c
    (subst (λ (ps : List Piece). HasDelivered all ps old mid a b) (task_goes k left mid.state some goes) so_far) then

-- the end is what is left
pub task_ends : (k : Settings) (left : ℕ) (end : TaskEnd) (all : List Piece) (old mid : MachineModel) (a b : Writing)
    → (left ≡ 0) ⊎ (is_instruction_next mid.state ≡ false) → end ≡ end_of mid.state.stop (nat_lt 0 left)
    → HasDelivered all (task_on k left mid.state) old mid a b
    → HasDelivered all (task_piece mid.state end ∷ []) old mid a b
task_ends k left end all old mid a b ends same so_far =
    subst (λ (ps : List Piece). HasDelivered all ps old mid a b)
    (task_at_end k left mid.state ends ∙ ap (λ (e : TaskEnd). task_piece mid.state e ∷ []) (sym same)) so_far
