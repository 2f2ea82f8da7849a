-- The pieces of a run, one after another.
use Rattle.std.proofs.Common.{◌≡◌, ℕ, zero, suc, ◌-◌, ◌<◌, Bool, true, false, List, [], ◌∷◌, Option, is_some}
use Rattle.std.proofs.Common.{refl, sym, ◌∙◌, ap, subst, arith}
use Rattle.std.proofs.Common.{None, Result, Ok, Err}
use Rattle.serving.proofs.Delivering.{HasDelivered, one_more, rest_cut, cut_before, cut_on, delivers_on, delivers_rest}
use Rattle.debugger.specs.Answers.{answer_by, closed, closing_piece, end_piece, ends_at, hit_before}
use Rattle.debugger.specs.Answers.{reply, run_on, run_pieces, step_piece}
use Rattle.debugger_commands.specs.declared.commands.Command.{Command}
use Rattle.debugger_commands.specs.declared.commands.LineError.{LineError}
use Rattle.debugger_commands.specs.declared.conditions.Hit.{Hit}
use Rattle.debugger_commands.specs.Commands.{change_of, steps_of, task_steps_of}
use Rattle.debugger_commands.specs.Conditions.{first_hit, run_end_text}
use Rattle.debugger_commands.specs.Settings.{Settings}
use Rattle.target.specs.MachineModel.{MachineModel}
use Rattle.output.specs.Output.{Writing}
use Rattle.platform.specs.declared.stop.Stop.{Stop}
use Rattle.reference.specs.State.{State}
use Rattle.reference.specs.Step.{step}
use Rattle.serving.specs.Pieces.{Piece, Delivers, DeliversAll, DeliversPart, last_state}

pub end_same : (k : Settings) (h : Option Hit) (pc pc' : ℕ) (o o' : Option Stop) → pc ≡ pc' → o ≡ o'
    → run_end_text k h pc o ≡ run_end_text k h pc' o'
end_same k h pc pc' o o' p q = ap (λ x. run_end_text k h x o) p ∙ ap (λ x. run_end_text k h pc' x) q

-- no step is left
run_at_zero : (k : Settings) (n : ℕ) (h : Option Hit) (s : State) → n ≡ 0 → run_on k n h s ≡ end_piece k h s ∷ []
unfolding run_on
run_at_zero k zero h s e = refl
run_at_zero k (suc n) h s e = absurd (omega arith)

-- the run ends where it is
run_at_end : (k : Settings) (n : ℕ) (h : Option Hit) (s : State) → 0 < n → ends_at (hit_before k h s) s ≡ true
    → run_on k n h s ≡ end_piece k (hit_before k h s) s ∷ []
unfolding run_on
run_at_end k zero h s some e = absurd (let wrong : 0 < 0 = some in omega arith)
run_at_end k (suc n) h s some e = rw e refl

run_goes : (k : Settings) (n : ℕ) (h : Option Hit) (s : State) → 0 < n → ends_at (hit_before k h s) s ≡ false
    → run_on k n h s ≡ step_piece k s ∷ run_on k (n - 1) (first_hit k (step s).events) (step s).state
unfolding run_on
run_goes k zero h s some goes = absurd (let wrong : 0 < 0 = some in omega arith)
run_goes k (suc n) h s some goes = let e : suc n - 1 ≡ n = omega arith in rw (goes, e) refl

-- one step more, with the pieces after it by the state that it leaves
pub step_more : (k : Settings) (rest : State → List Piece) (all : List Piece) (old mid new : MachineModel)
    (a b c : Writing)
    → HasDelivered all (step_piece k mid.state ∷ rest (step mid.state).state) old mid a b
    → DeliversAll (step_piece k mid.state ∷ []) mid new b c → HasDelivered all (rest new.state) old new a c
step_more k rest all old mid new a b c so_far then =
    let now : (step mid.state).state ≡ new.state = sym (ap (λ (m : MachineModel). m.state) then.stands) in
    subst (λ (s : State). HasDelivered all (rest s) old new a c) now
    (one_more all (rest (step mid.state).state) (step_piece k mid.state) old mid new a b c so_far then)

-- a step that was cut, with the pieces after it
pub step_cut : (k : Settings) (rest all : List Piece) (old mid new : MachineModel) (a b c : Writing)
    → HasDelivered all (step_piece k mid.state ∷ rest) old mid a b
    → DeliversPart (step_piece k mid.state ∷ []) mid new b c → DeliversPart all old new a c
step_cut k rest all old mid new a b c so_far then =
    rest_cut all (step_piece k mid.state ∷ rest) old mid new a b c so_far
    (cut_before (step_piece k mid.state ∷ []) rest mid new b c then)

-- one step more
pub run_more : (k : Settings) (left : ℕ) (h later : Option Hit) (all : List Piece) (old mid new : MachineModel)
    (a b c : Writing)
    → 0 < left → ends_at (hit_before k h mid.state) mid.state ≡ false
    → later ≡ first_hit k (step mid.state).events
    → HasDelivered all (run_on k left h mid.state) old mid a b → DeliversAll (step_piece k mid.state ∷ []) mid new b c
    → HasDelivered all (run_on k (left - 1) later new.state) old new a c
run_more k left h later all old mid new a b c some goes hits so_far then =
    step_more k (run_on k (left - 1) later) all old mid new a b c
    (subst (λ (ps : List Piece). HasDelivered all ps old mid a b)
    (run_goes k left h mid.state some goes
    ∙ ap (λ (x : Option Hit). step_piece k mid.state ∷ run_on k (left - 1) x (step mid.state).state) (sym hits))
    so_far) then

-- a step that was cut
pub run_cut : (k : Settings) (left : ℕ) (h : Option Hit) (all : List Piece) (old mid new : MachineModel)
    (a b c : Writing)
    → 0 < left → ends_at (hit_before k h mid.state) mid.state ≡ false
    → HasDelivered all (run_on k left h mid.state) old mid a b
    → DeliversPart (step_piece k mid.state ∷ []) mid new b c → DeliversPart all old new a c
run_cut k left h all old mid new a b c some goes so_far then =
    step_cut k (run_on k (left - 1) (first_hit k (step mid.state).events) (step mid.state).state) all old mid new a b c
    (subst (λ (ps : List Piece). HasDelivered all ps old mid a b) (run_goes k left h mid.state some goes) so_far) then

-- the run ends where it is, and the end is what is left
pub run_ends : {A E : Type 0} (k : Settings) (left : ℕ) (h now : Option Hit) (all : List Piece) (old mid : MachineModel)
    (a b c : Writing) (result : Result A E) → 0 < left → now ≡ hit_before k h mid.state → ends_at now mid.state ≡ true
    → HasDelivered all (run_on k left h mid.state) old mid a b
    → Delivers (end_piece k now mid.state ∷ []) mid mid b c result
    → Delivers all old mid a c result
run_ends k left h now all old mid a b c result some is ends so_far then =
    delivers_rest all (end_piece k now mid.state ∷ []) old mid mid a b c result
    (subst (λ (ps : List Piece). HasDelivered all ps old mid a b)
    (run_at_end k left h mid.state some (ap (λ (x : Option Hit). ends_at x mid.state) (sym is) ∙ ends)
    ∙ ap (λ (x : Option Hit). end_piece k x mid.state ∷ []) (sym is)) so_far) then

-- no step is left, and the end is
pub run_over : {A E : Type 0} (k : Settings) (left : ℕ) (h : Option Hit) (all : List Piece) (old mid : MachineModel)
    (a b c : Writing) (result : Result A E) → left ≡ 0 → HasDelivered all (run_on k left h mid.state) old mid a b
    → Delivers (end_piece k h mid.state ∷ []) mid mid b c result → Delivers all old mid a c result
run_over k left h all old mid a b c result none so_far then =
    delivers_rest all (end_piece k h mid.state ∷ []) old mid mid a b c result
    (subst (λ (ps : List Piece). HasDelivered all ps old mid a b) (run_at_zero k left h mid.state none) so_far) then

run_begins : (k : Settings) (n : ℕ) (s : State) → is_some s.stop ≡ false
    → run_pieces k n s ≡ step_piece k s ∷ run_on k (n - 1) (first_hit k (step s).events) (step s).state
run_begins k n s e = rw e refl

-- the first step was cut
pub first_cut : (k : Settings) (n : ℕ) (old new : MachineModel) (a b : Writing) → is_some old.state.stop ≡ false
    → DeliversPart (step_piece k old.state ∷ []) old new a b → DeliversPart (run_pieces k n old.state) old new a b
first_cut k n old new a b goes part =
    subst (λ (ps : List Piece). DeliversPart ps old new a b) (sym (run_begins k n old.state goes))
    (cut_before (step_piece k old.state ∷ [])
    (run_on k (n - 1) (first_hit k (step old.state).events) (step old.state).state) old new a b part)

-- what follows the first step, in the words of the state after it
rest_is : (k : Settings) (n left : ℕ) (h : Option Hit) (old mid : MachineModel) → left ≡ n - 1
    → h ≡ first_hit k (step old.state).events → mid.state ≡ (step old.state).state
    → run_on k left h mid.state ≡ run_on k (n - 1) (first_hit k (step old.state).events) (step old.state).state
rest_is k n left h old mid same hits now =
    ap (λ x. run_on k x h mid.state) same
    ∙ ap (λ (x : Option Hit). run_on k (n - 1) x mid.state) hits
    ∙ ap (λ (s : State). run_on k (n - 1) (first_hit k (step old.state).events) s) now

-- the pieces after the first step went out, or one of them was cut
pub then_on : {A E : Type 0} (k : Settings) (n left : ℕ) (h : Option Hit) (old mid new : MachineModel) (a b c : Writing)
    (result : Result A E) → is_some old.state.stop ≡ false → left ≡ n - 1 → h ≡ first_hit k (step old.state).events
    → DeliversAll (step_piece k old.state ∷ []) old mid a b → Delivers (run_on k left h mid.state) mid new b c result
    → Delivers (run_pieces k n old.state) old new a c result
then_on k n left h old mid new a b c (Ok done) goes same hits first then =
    let now : mid.state ≡ (step old.state).state = ap (λ (m : MachineModel). m.state) first.stands in
    subst (λ (ps : List Piece). DeliversAll ps old new a c) (sym (run_begins k n old.state goes))
    (delivers_on (step_piece k old.state ∷ [])
    (run_on k (n - 1) (first_hit k (step old.state).events) (step old.state).state) old mid new a b c first
    (subst (λ (ps : List Piece). DeliversAll ps mid new b c) (rest_is k n left h old mid same hits now) then))
then_on k n left h old mid new a b c (Err error) goes same hits first part =
    let now : mid.state ≡ (step old.state).state = ap (λ (m : MachineModel). m.state) first.stands in
    subst (λ (ps : List Piece). DeliversPart ps old new a c) (sym (run_begins k n old.state goes))
    (cut_on (step_piece k old.state ∷ [])
    (run_on k (n - 1) (first_hit k (step old.state).events) (step old.state).state) old mid new a b c first
    (subst (λ (ps : List Piece). DeliversPart ps mid new b c) (rest_is k n left h old mid same hits now) part))

-- a command that makes no step and changes nothing has its reply
pub replied : {A E : Type 0} (k : Settings) (saved : List (Option State)) (asked : Result Command LineError)
    (old new : MachineModel) (a b : Writing) (result : Result A E) → steps_of asked ≡ None → task_steps_of asked ≡ None
    → change_of asked ≡ None → Delivers (reply old.state k asked) old new a b result
    → Delivers (answer_by old.state k saved asked (steps_of asked) (task_steps_of asked)) old new a b result
replied k saved asked old new a b result none no_task no_change delivers = rw (none, no_task, no_change) delivers

-- ---- the line after an answer

-- the answer was cut
pub closed_cut : (is_closed : Bool) (ps : List Piece) (old new : MachineModel) (a b : Writing)
    → DeliversPart ps old new a b
    → DeliversPart (closed is_closed old.state ps) old new a b
closed_cut false ps old new a b part = part
closed_cut true ps old new a b part = cut_before ps (closing_piece (last_state old.state ps) ∷ []) old new a b part

-- the line went out after the answer, or was cut
pub closed_after : {A E : Type 0} (is_closed : Bool) (ps : List Piece) (old mid new : MachineModel) (a b c : Writing)
    (result : Result A E) → is_closed ≡ true → DeliversAll ps old mid a b
    → Delivers (closing_piece mid.state ∷ []) mid new b c result
    → Delivers (closed is_closed old.state ps) old new a c result
closed_after false ps old mid new a b c result e first then = absurd (let wrong : false ≡ true = e in cc)
closed_after true ps old mid new a b c (Ok done) e first then =
    let now : mid.state ≡ last_state old.state ps = ap (λ (m : MachineModel). m.state) first.stands in
    delivers_on ps (closing_piece (last_state old.state ps) ∷ []) old mid new a b c first
    (subst (λ (s : State). DeliversAll (closing_piece s ∷ []) mid new b c) now then)
closed_after true ps old mid new a b c (Err error) e first then =
    let now : mid.state ≡ last_state old.state ps = ap (λ (m : MachineModel). m.state) first.stands in
    cut_on ps (closing_piece (last_state old.state ps) ∷ []) old mid new a b c first
    (subst (λ (s : State). DeliversPart (closing_piece s ∷ []) mid new b c) now then)

-- there is no such line
pub not_closed : (is_closed : Bool) (ps : List Piece) (old new : MachineModel) (a b : Writing) → is_closed ≡ false
    → DeliversAll ps old new a b → DeliversAll (closed is_closed old.state ps) old new a b
not_closed false ps old new a b e delivers = delivers
not_closed true ps old new a b e delivers = absurd (let wrong : true ≡ false = e in cc)
