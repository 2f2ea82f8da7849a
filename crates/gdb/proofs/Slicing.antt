-- The pieces of the steps of a run, one after another.
use Rattle.std.proofs.Common.{◌≡◌, ℕ, zero, suc, ◌+◌, ◌-◌, ◌<◌, ◌≤◌, List, [], ◌∷◌, ◌++◌}
use Rattle.std.proofs.Common.{Option, Some, None}
use Rattle.std.proofs.Common.{refl, sym, ◌∙◌, ap, subst, arith, append_assoc, is_some, true, false}
use Rattle.std.proofs.lemmas.List.{append-nil}
use Rattle.gdb.specs.declared.over.ReturnPoint.{ReturnPoint}
use Rattle.gdb.specs.declared.slices.Plan.{Plan}
use Rattle.gdb.specs.declared.slices.Points.{Points}
use Rattle.gdb.specs.Consoles.{ShownInPart}
use Rattle.gdb.specs.Reasons.{reason_before, selection_of}
use Rattle.gdb.specs.Slices.{Flow, Progress, Sliced, Slices, after_pieces, after_step, at_rest, before_step, flow}
use Rattle.gdb.specs.Slices.{going_on, hit_next, one_step, reason_then, slice, step_piece, step_text}
use Rattle.gdb.specs.Slices.{unless_ended}
use Rattle.gdb.specs.Watching.{state_unless}
use Rattle.gdb_texts.specs.declared.stops.StopReason.{StopReason}
use Rattle.machine.specs.MachineModel.{MachineModel}
use Rattle.output.specs.Output.{Writing}
use Rattle.platform.specs.declared.event.Event.{Event}
use Rattle.reference.specs.State.{State}
use Rattle.reference.specs.Step.{step}
use Rattle.serving.proofs.Delivering.{cut_before, cut_on, last-append, one_cut, delivers_none, delivers_on}
use Rattle.serving.specs.Pieces.{Piece, DeliversAll, DeliversPart, last_state}
use Rattle.trace.specs.declared.selection.TraceSelection.{TraceSelection}
use Rattle.trace.specs.Selection.{selected_text}

-- ---- the cases of a step

-- none is
pub step_made : (p : Plan) (points : Points) (f : Flow) (o : Option StopReason) → o ≡ hit_next points f.state
    → is_some o ≡ false → one_step p points f
    ≡ after_pieces (step_piece p f ∷ []) (at_rest (reason_then p f) (step f.state).events (after_step p f))
step_made p points f (Some r) is has = absurd (let wrong : true ≡ false = has in cc)
step_made p points f None is has =
    ap (λ (o : Option StopReason). unless_ended o (step f.state).events f
    (after_pieces (step_piece p f ∷ []) (at_rest (reason_then p f) (step f.state).events (after_step p f))))
    (sym is)

pub past_it : (o : Option StopReason) (s : State) → is_some o ≡ false → state_unless o s ≡ (step s).state
past_it (Some r) s has = absurd (let wrong : true ≡ false = has in cc)
past_it None s has = refl

-- the step's text was cut
pub step_cut : (p : Plan) (points : Points) (f : Flow) (o : Option StopReason) (k : TraceSelection)
    (events : List Event) (old new : MachineModel) (a b : Writing) → o ≡ hit_next points f.state → is_some o ≡ false
    → k ≡ selection_of p.settings.selection → events ≡ (step f.state).events
    → new ≡ record old { state = state_unless o f.state }
    → ShownInPart a b f.console (selected_text k events) → DeliversPart (one_step p points f).pieces old new a b
step_cut p points f o k events old new a b is none same these stands cut =
    let shown : ShownInPart a b f.console (step_text p f.state) =
    subst (λ (text : List ℕ). ShownInPart a b f.console text)
    (ap (λ (m : TraceSelection). selected_text m events) same
    ∙ ap (λ (es : List Event). selected_text (selection_of p.settings.selection) es) these) cut in
    subst (λ (ps : List Piece). DeliversPart ps old new a b) (sym (ap (λ (r : Sliced). r.pieces)
    (step_made p points f o is none)))
    (one_cut (step_piece p f) old new a b shown.0
    (stands ∙ ap (λ (s : State). record old { state = s }) (past_it o f.state none)) shown.1)

-- ---- what a slice leaves: the state of its last piece, and at most n steps more

pub record Leaves (f : Flow) (n : ℕ) (sliced : Sliced) : Type 0 where
  pub state : last_state f.state sliced.pieces ≡ sliced.flow.state
  pub made : sliced.flow.made ≤ f.made + n

rests : (f : Flow) (n : ℕ) (r : Option StopReason) (events : List Event) → Leaves f n (at_rest r events f)
rests f n r events = record { state = refl; made = omega arith }

ends_or : (f : Flow) (n : ℕ) (r : Option StopReason) (events : List Event) (later : Sliced) → Leaves f n later
    → Leaves f n (unless_ended r events f later)
ends_or f n (Some r) events later leaves = rests f n (Some r) events
ends_or f n None events later leaves = leaves

pub step_leaves : (p : Plan) (points : Points) (f : Flow) → Leaves f 1 (one_step p points f)
step_leaves p points f =
    ends_or f 1 (hit_next points f.state) (step f.state).events _
    (record { state = refl; made = omega arith })

then_leaves : (f : Flow) (n : ℕ) (part later : Sliced) → Leaves f 1 part → Leaves part.flow n later
    → Leaves f (suc n) (after_pieces part.pieces later)
then_leaves f n part later first next = record {
  state = last-append f.state part.pieces later.pieces
      ∙ (ap (λ (s : State). last_state s later.pieces) first.state ∙ next.state);
  made = omega (arith, first.made, next.made);
}

pub slice_leaves : (p : Plan) (points : Points) (n : ℕ) (f : Flow) → Leaves f n (slice p points n f)
unfolding slice
slice_leaves p points zero f = rests f 0 None []
slice_leaves p points (suc n) f =
    let part : Sliced = one_step p points f in
    ends_or f (suc n) (before_step p points f) [] _
    (then_leaves f n part _ (step_leaves p points f)
    (ends_or part.flow n part.reason part.events _ (slice_leaves p points n part.flow)))

-- the machine is in the state that the slice leaves
pub stands_there : (f : Flow) (n : ℕ) (sliced : Sliced) (old new : MachineModel) (a b : Writing) → old.state ≡ f.state
    → Leaves f n sliced → DeliversAll sliced.pieces old new a b → new.state ≡ sliced.flow.state
stands_there f n sliced old new a b same leaves delivers =
    ap (λ (m : MachineModel). m.state) delivers.stands
    ∙ (ap (λ (s : State). last_state s sliced.pieces) same ∙ leaves.state)

-- what a run has made after it
pub flow_left : (sliced : Sliced) (progress : Progress) (s : State) (r : Option StopReason)
    → Slices sliced progress r → s ≡ sliced.flow.state → flow progress s ≡ sliced.flow
flow_left sliced progress s r left same =
    ap (λ (q : Progress). flow q s) left.1
    ∙ ap (λ (u : State). let g : Flow = record {
      made = sliced.flow.made;
      console = sliced.flow.console;
      returns_to = sliced.flow.returns_to;
      state = u;
    } in g) same

-- ---- the cases of a slice

pub none_left : (p : Plan) (points : Points) (n : ℕ) (f : Flow) → n ≡ 0 → slice p points n f ≡ at_rest None [] f
unfolding slice
none_left p points n f e = rw e refl

some_left : (p : Plan) (points : Points) (n m : ℕ) (f : Flow) → n ≡ suc m
    → slice p points n f ≡ unless_ended (before_step p points f) [] f
    (going_on (one_step p points f) (slice p points m (one_step p points f).flow))
unfolding slice
some_left p points n m f e = rw e refl

pub ends_before : (p : Plan) (points : Points) (n : ℕ) (f : Flow) (r : StopReason) → 0 < n
    → before_step p points f ≡ Some r → slice p points n f ≡ at_rest (Some r) [] f
ends_before p points n f r some is =
    some_left p points n (n - 1) f (omega arith) ∙ ap (λ (o : Option StopReason). unless_ended o [] f
    (going_on (one_step p points f) (slice p points (n - 1) (one_step p points f).flow))) is

makes_step : (p : Plan) (points : Points) (n : ℕ) (f : Flow) → 0 < n → before_step p points f ≡ None
    → slice p points n f ≡ going_on (one_step p points f) (slice p points (n - 1) (one_step p points f).flow)
makes_step p points n f some is =
    some_left p points n (n - 1) f (omega arith) ∙ ap (λ (o : Option StopReason). unless_ended o [] f
    (going_on (one_step p points f) (slice p points (n - 1) (one_step p points f).flow))) is

-- what comes after the pieces of a step
pub later_of : Plan → Points → ℕ → Flow → Sliced
later_of p points n f =
    unless_ended (one_step p points f).reason (one_step p points f).events (one_step p points f).flow
    (slice p points (n - 1) (one_step p points f).flow)

pub has_pieces : (p : Plan) (points : Points) (n : ℕ) (f : Flow) → 0 < n → before_step p points f ≡ None
    → slice p points n f ≡ after_pieces (one_step p points f).pieces (later_of p points n f)
unfolding later_of
has_pieces p points n f some is = makes_step p points n f some is

pub ends_in : (p : Plan) (points : Points) (n : ℕ) (f : Flow) (r : StopReason) → Some r ≡ (one_step p points f).reason
    → later_of p points n f ≡ at_rest (Some r) (one_step p points f).events (one_step p points f).flow
unfolding later_of
ends_in p points n f r is =
    ap (λ (o : Option StopReason). unless_ended o (one_step p points f).events (one_step p points f).flow
    (slice p points (n - 1) (one_step p points f).flow)) (sym is)

pub continues : (p : Plan) (points : Points) (n : ℕ) (f : Flow) → None ≡ (one_step p points f).reason
    → later_of p points n f ≡ slice p points (n - 1) (one_step p points f).flow
unfolding later_of
continues p points n f is =
    ap (λ (o : Option StopReason). unless_ended o (one_step p points f).events (one_step p points f).flow
    (slice p points (n - 1) (one_step p points f).flow)) (sym is)

-- ---- so far

-- some pieces of a slice went out, and `rest` is still to come
pub record Sliding (all rest : Sliced) (old new : MachineModel) (a b : Writing) : Type 0 where
  pub done : List Piece
  pub whole : all ≡ after_pieces done rest
  pub delivers : DeliversAll done old new a b

pub nothing_yet : (all : Sliced) (m : MachineModel) (a : Writing) → Sliding all all m m a a
nothing_yet all m a = record { done = []; whole = refl; delivers = delivers_none m a }

-- more pieces went out
pub more_delivered : (all rest later : Sliced) (more : List Piece) (old mid new : MachineModel) (a b c : Writing)
    → Sliding all rest old mid a b → rest ≡ after_pieces more later → DeliversAll more mid new b c
    → Sliding all later old new a c
more_delivered all rest later more old mid new a b c so_far is next = record {
  done = so_far.done ++ more;
  whole = so_far.whole ∙ (ap (λ (r : Sliced). after_pieces so_far.done r) is
      ∙ ap (λ (ps : List Piece). record later { pieces = ps })
      (sym (append_assoc so_far.done more later.pieces)));
  delivers = delivers_on so_far.done more old mid new a b c so_far.delivers next;
}

-- the rest has no piece
pub all_delivered : (all rest : Sliced) (old new : MachineModel) (a b : Writing) → Sliding all rest old new a b
    → rest.pieces ≡ []
    → DeliversAll all.pieces old new a b
all_delivered all rest old new a b so_far none =
    subst (λ (ps : List Piece). DeliversAll ps old new a b)
    (sym (ap (λ (r : Sliced). r.pieces) so_far.whole ∙ (ap (λ (ps : List Piece). so_far.done ++ ps) none
    ∙ append-nil so_far.done))) so_far.delivers

-- the next pieces were cut
pub next_cut : (all rest later : Sliced) (more : List Piece) (old mid new : MachineModel) (a b c : Writing)
    → Sliding all rest old mid a b → rest ≡ after_pieces more later → DeliversPart more mid new b c
    → DeliversPart all.pieces old new a c
next_cut all rest later more old mid new a b c so_far is next =
    subst (λ (ps : List Piece). DeliversPart ps old new a c)
    (sym (ap (λ (r : Sliced). r.pieces) (so_far.whole ∙ ap (λ (r : Sliced). after_pieces so_far.done r) is)))
    (cut_on so_far.done (more ++ later.pieces) old mid new a b c so_far.delivers
    (cut_before more later.pieces mid new b c next))

-- a slice that is at rest: what a call leaves
pub left_at : (all rest : Sliced) (old new : MachineModel) (a b : Writing) (r : Option StopReason) (events : List Event)
    (f : Flow) (now : Progress) → Sliding all rest old new a b → rest ≡ at_rest r events f
    → now ≡ record { made = f.made; console = f.console; returns_to = f.returns_to; events = events }
    → Slices all now r
left_at all rest old new a b r events f now so_far is kept =
    let e : all ≡ after_pieces so_far.done (at_rest r events f) =
    so_far.whole ∙ ap (λ (x : Sliced). after_pieces so_far.done x) is in (
      sym (ap (λ (x : Sliced). x.reason) e),
      kept ∙ sym (ap (λ (x : Sliced). let view : Progress = record {
        made = x.flow.made;
        console = x.flow.console;
        returns_to = x.flow.returns_to;
        events = x.events;
      } in view) e),
    )

-- ---- by what the calls returned

pub before_is : (p : Plan) (points : Points) (q : Progress) (s : State) (m : ℕ) (o : Option ReturnPoint)
    (r : Option StopReason) → r ≡ reason_before points.breakpoints p.limit p.how m o s → m ≡ q.made
    → o ≡ q.returns_to → r ≡ before_step p points (flow q s)
before_is p points q s m o r is made to =
    is ∙ (ap (λ (n : ℕ). reason_before points.breakpoints p.limit p.how n o s) made
    ∙ ap (λ (x : Option ReturnPoint). reason_before points.breakpoints p.limit p.how q.made x s) to)

pub ended_before : (p : Plan) (points : Points) (n : ℕ) (f : Flow) (o : Option StopReason) → 0 < n
    → o ≡ before_step p points f → is_some o ≡ true → slice p points n f ≡ at_rest o [] f
ended_before p points n f (Some r) some is has = ends_before p points n f r some (sym is)
ended_before p points n f None some is has = absurd (let wrong : false ≡ true = has in cc)

pub not_before : (o before : Option StopReason) → o ≡ before → is_some o ≡ false → before ≡ None
not_before (Some r) before is has = absurd (let wrong : true ≡ false = has in cc)
not_before None before is has = sym is

-- where a step leaves a run
pub flow_made : (p : Plan) (points : Points) (f : Flow) (progress : Progress) (r : Option StopReason)
    (old new : MachineModel)
    (a b : Writing) → old.state ≡ f.state → DeliversAll (one_step p points f).pieces old new a b
    → Slices (one_step p points f) progress r → flow progress new.state ≡ (one_step p points f).flow
flow_made p points f progress r old new a b same delivers left =
    flow_left (one_step p points f) progress new.state r left
    (stands_there f 1 (one_step p points f) old new a b same (step_leaves p points f) delivers)
