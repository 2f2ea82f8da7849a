-- The turns of a run: what a slice leaves, and slice after slice.
use Rattle.std.proofs.Common.{◌≡◌, ℕ, suc, ◌+◌, Bool, true, false, List, [], ◌∷◌, ◌++◌}
use Rattle.std.proofs.Common.{Option, Some, None, Result, Ok, Err, refl, sym, ◌∙◌, ap, subst, append_assoc}
use Rattle.std.proofs.Common.{if◌then◌else◌, unwrap_or}
use Rattle.std.proofs.lemmas.List.{append-nil}
use Rattle.gdb.proofs.Slicing.{flow_left, slice_leaves, stands_there}
use Rattle.gdb.specs.declared.slices.Plan.{Plan}
use Rattle.gdb.specs.declared.slices.Points.{Points}
use Rattle.gdb.specs.declared.turns.Turn.{Turn}
use Rattle.gdb.specs.Slices.{Flow, Progress, Sliced, Slices, flow}
use Rattle.gdb.specs.Slices.{slice}
use Rattle.gdb.specs.Turns.{MakesTurn, TakesTurn, Turned, after_slice, asked, asked_or, ended, ended_or, flushed}
use Rattle.gdb.specs.Turns.{flushing}
use Rattle.gdb.specs.Turns.{last_slice, poll_packet, said, slices, max_slice_steps, stop_packet, whys, with_pieces}
use Rattle.gdb.specs.Consoles.{Console, Shown, ShownInPart, console_after, emptied, flush_text, sent_by}
use Rattle.gdb.specs.Whys.{stop_with_line, why_text}
use Rattle.platform.specs.declared.stop.Stop.{Stop}
use Rattle.gdb_texts.specs.declared.features.Features.{Features}
use Rattle.gdb_texts.specs.declared.watchpoints.Watchpoint.{Watchpoint}
use Rattle.gdb_texts.specs.declared.settings.Settings.{Settings}
use Rattle.gdb_texts.specs.declared.stops.StopReason.{StopReason}
use Rattle.gdb_texts.specs.declared.stops.StopReason.TheVariants.{Interrupted}
use Rattle.machine.specs.MachineModel.{MachineModel}
use Rattle.output.specs.Output.{IsCutShort, Writing, WritesAll}
use Rattle.platform.specs.declared.event.Event.{Event}
use Rattle.reference.specs.State.{State}
use Rattle.serving.proofs.Delivering.{cut_before, cut_on, one_cut, delivers_none, delivers_on}
use Rattle.serving.specs.Pieces.{Piece, DeliversAll, DeliversPart}

-- ---- what a slice leaves

pub events_left : (sliced : Sliced) (progress : Progress) (r : Option StopReason) → Slices sliced progress r
    → progress.events ≡ sliced.events
events_left sliced progress r left = ap (λ (q : Progress). q.events) left.1

-- the end of a run after it
pub end_left : (k : Settings) (w : List Watchpoint) (features : Features) (r : StopReason) (sliced : Sliced)
    (progress : Progress) (s : State)
    (o : Option StopReason) → Slices sliced progress o → s ≡ sliced.flow.state
    → ended k w features r progress.events (flow progress s) ≡ ended k w features r sliced.events sliced.flow
end_left k w features r sliced progress s o left same =
    ap (λ (es : List Event). ended k w features r es (flow progress s)) (events_left sliced progress o left)
    ∙ ap (λ (f : Flow). ended k w features r sliced.events f) (flow_left sliced progress s o left same)

-- ---- so far

-- some pieces of a turn went out, and `rest` is still to come
pub record Going (all rest : Turned) (old new : MachineModel) (a b : Writing) : Type 0 where
  pub done : List Piece
  pub whole : all ≡ with_pieces done rest
  pub delivers : DeliversAll done old new a b

pub not_begun : (all : Turned) (m : MachineModel) (a : Writing) → Going all all m m a a
not_begun all m a = record { done = []; whole = refl; delivers = delivers_none m a }

pub gone_on : (all rest later : Turned) (ps : List Piece) (old mid new : MachineModel) (a b c : Writing)
    → Going all rest old mid a b → rest ≡ with_pieces ps later → DeliversAll ps mid new b c
    → Going all later old new a c
gone_on all rest later ps old mid new a b c so_far is next = record {
  done = so_far.done ++ ps;
  whole = so_far.whole ∙ (ap (λ (t : Turned). with_pieces so_far.done t) is
      ∙ ap (λ (qs : List Piece). record later { pieces = qs })
      (sym (append_assoc so_far.done ps later.pieces)));
  delivers = delivers_on so_far.done ps old mid new a b c so_far.delivers next;
}

-- the next pieces were cut
pub rest_cut : (all rest later : Turned) (ps : List Piece) (old mid new : MachineModel) (a b c : Writing)
    → Going all rest old mid a b → rest ≡ with_pieces ps later → DeliversPart ps mid new b c
    → DeliversPart all.pieces old new a c
rest_cut all rest later ps old mid new a b c so_far is next =
    subst (λ (qs : List Piece). DeliversPart qs old new a c)
    (sym (ap (λ (t : Turned). t.pieces) (so_far.whole ∙ ap (λ (t : Turned). with_pieces so_far.done t) is)))
    (cut_on so_far.done (ps ++ later.pieces) old mid new a b c so_far.delivers
    (cut_before ps later.pieces mid new b c next))

-- the rest of the turn was taken
pub taken : {E : Type 0} (all rest : Turned) (old mid new : MachineModel) (a b c : Writing) (sent : List ℕ)
    (result : Result Turn E) → Going all rest old mid a b → MakesTurn rest mid new b c sent result
    → MakesTurn all old new a c sent result
taken all rest old mid new a b c sent (Ok ends) so_far next = record {
  delivers = subst (λ (qs : List Piece). DeliversAll qs old new a c) (sym (ap (λ (t : Turned). t.pieces) so_far.whole))
      (delivers_on so_far.done rest.pieces old mid new a b c so_far.delivers next.delivers);
  outcome = next.outcome ∙ sym (ap (λ (t : Turned). t.outcome) so_far.whole);
  remembered = next.remembered ∙ sym (ap (λ (t : Turned). t.sent) so_far.whole);
}
taken all rest old mid new a b c sent (Err error) so_far next =
    subst (λ (qs : List Piece). DeliversPart qs old new a c) (sym (ap (λ (t : Turned). t.pieces) so_far.whole))
    (cut_on so_far.done rest.pieces old mid new a b c so_far.delivers next)

-- the rest in another form
pub taken_as : {E : Type 0} (rest same : Turned) (old new : MachineModel) (a b : Writing) (sent : List ℕ)
    (result : Result Turn E) → rest ≡ same → MakesTurn rest old new a b sent result
    → MakesTurn same old new a b sent result
taken_as {E} rest same old new a b sent result is takes =
    subst (λ (t : Turned). MakesTurn t old new a b sent result) is takes

-- ---- the cases of the slices

pub none_left : (p : Plan) (points : Points) (features : Features) (n rest : ℕ) (f : Flow) → n ≡ 0
    → slices p points features n rest f ≡ last_slice p points.watchpoints features (slice p points rest f)
unfolding slices
none_left p points features n rest f e = rw e refl

pub some_left : (p : Plan) (points : Points) (features : Features) (n m rest : ℕ) (f : Flow) → n ≡ suc m
    → slices p points features n rest f ≡ after_slice p points.watchpoints features (slice p points max_slice_steps f)
    (slices p points features m rest (flushed (slice p points max_slice_steps f).flow))
unfolding slices
some_left p points features n m rest f e = rw e refl

-- the run ended in a slice
pub ended_in : (p : Plan) (w : List Watchpoint) (features : Features) (sliced : Sliced) (later : Turned)
    (r : StopReason)
    → Some r ≡ sliced.reason → after_slice p w features sliced later
    ≡ with_pieces sliced.pieces (ended p.settings w features r sliced.events sliced.flow)
ended_in p w features sliced later r is =
    ap (λ (o : Option StopReason). with_pieces sliced.pieces (ended_or p.settings w features sliced o
    (with_pieces (flushing sliced.flow ∷ []) (asked_or features p.how (flushed sliced.flow) later)))) (sym is)

-- it goes on
pub gone_past : (p : Plan) (w : List Watchpoint) (features : Features) (sliced : Sliced) (later : Turned) → None
    ≡ sliced.reason
    → after_slice p w features sliced later
    ≡ with_pieces sliced.pieces (with_pieces (flushing sliced.flow ∷ [])
    (asked_or features p.how (flushed sliced.flow) later))
gone_past p w features sliced later is =
    ap (λ (o : Option StopReason). with_pieces sliced.pieces (ended_or p.settings w features sliced o
    (with_pieces (flushing sliced.flow ∷ []) (asked_or features p.how (flushed sliced.flow) later)))) (sym is)

pub is_asked : (features : Features) (p : Plan) (f : Flow) (later : Turned) → features.is_gdb ≡ true
    → asked_or features p.how f later ≡ asked p.how f
is_asked features p f later is = ap (λ (b : Bool). if b then asked p.how f else later) is

pub not_asked : (features : Features) (p : Plan) (f : Flow) (later : Turned) → features.is_gdb ≡ false
    → asked_or features p.how f later ≡ later
not_asked features p f later is = ap (λ (b : Bool). if b then asked p.how f else later) is

-- ---- the end of a run, in three pieces

pub cut_first : (p q r : Piece) (m : MachineModel) (a b : Writing) → DeliversPart (p ∷ []) m m a b
    → DeliversPart (p ∷ q ∷ r ∷ []) m m a b
cut_first p q r m a b cut = cut_before (p ∷ []) (q ∷ r ∷ []) m m a b cut

pub cut_second : (p q r : Piece) (m : MachineModel) (a b c : Writing) → DeliversAll (p ∷ []) m m a b
    → DeliversPart (q ∷ []) m m b c → DeliversPart (p ∷ q ∷ r ∷ []) m m a c
cut_second p q r m a b c first cut =
    cut_on (p ∷ []) (q ∷ r ∷ []) m m m a b c first (cut_before (q ∷ []) (r ∷ []) m m b c cut)

pub cut_third : (p q r : Piece) (m : MachineModel) (a b c d : Writing) → DeliversAll (p ∷ []) m m a b
    → DeliversAll (q ∷ []) m m b c → DeliversPart (r ∷ []) m m c d → DeliversPart (p ∷ q ∷ r ∷ []) m m a d
cut_third p q r m a b c d first second cut =
    cut_on (p ∷ []) (q ∷ r ∷ []) m m m a b d first (cut_on (q ∷ []) (r ∷ []) m m m b c d second cut)

pub all_three : (p q r : Piece) (m : MachineModel) (a b c d : Writing) → DeliversAll (p ∷ []) m m a b
    → DeliversAll (q ∷ []) m m b c → DeliversAll (r ∷ []) m m c d → DeliversAll (p ∷ q ∷ r ∷ []) m m a d
all_three p q r m a b c d first second third =
    delivers_on (p ∷ []) (q ∷ r ∷ []) m m m a b d first (delivers_on (q ∷ []) (r ∷ []) m m m b c d second third)

-- a text went out between two steps, or was cut
pub said_all : (m : MachineModel) (text : List ℕ) (a b : Writing) → WritesAll a b text
    → DeliversAll ((let p : Piece = record { state = m.state; text = text } in p) ∷ []) m m a b
said_all m text a b went = record {
  went = rw (append-nil text) went.0;
  stands = refl;
  quiet = went.1;
}

pub said_part : (m : MachineModel) (text : List ℕ) (a b : Writing) → IsCutShort a.written b.written text
    → b.errors ≡ a.errors + 1
    → DeliversPart ((let p : Piece = record { state = m.state; text = text } in p) ∷ []) m m a b
said_part m text a b cut failed =
    one_cut (record { state = m.state; text = text }) m m a b cut refl failed

-- ---- the clauses of a turn that was taken

pub past_slice : (p : Plan) (points : Points) (features : Features) (n m rest : ℕ) (f : Flow) (all : Turned)
    (q : Progress) (o : Option StopReason) (old mid new : MachineModel) (a b c : Writing)
    → Going all (slices p points features n rest f) old mid a b → n ≡ suc m
    → DeliversAll (slice p points max_slice_steps f).pieces mid new b c → Slices (slice p points max_slice_steps f) q o
    → o ≡ None → mid.state ≡ f.state → Going all (with_pieces (flushing (flow q new.state) ∷ [])
    (asked_or features p.how (flushed (flow q new.state))
    (slices p points features m rest (flushed (flow q new.state))))) old new a c
past_slice p points features n m rest f all q o old mid new a b c so_far some delivers left none at =
    gone_on all (slices p points features n rest f) _ (slice p points max_slice_steps f).pieces old mid new a b c so_far
    (some_left p points features n m rest f some
    ∙ (gone_past p points.watchpoints features (slice p points max_slice_steps f)
    (slices p points features m rest (flushed (slice p points max_slice_steps f).flow)) (sym none ∙ left.0)
    ∙ ap (λ (u : Flow). with_pieces (slice p points max_slice_steps f).pieces (with_pieces (flushing u ∷ [])
    (asked_or features p.how (flushed u) (slices p points features m rest (flushed u)))))
    (sym (flow_left (slice p points max_slice_steps f) q new.state o left
    (stands_there f max_slice_steps (slice p points max_slice_steps f) mid new b c at
    (slice_leaves p points max_slice_steps f) delivers))))) delivers

-- its text was sent
pub past_flush : (p : Plan) (points : Points) (features : Features) (m rest : ℕ) (all : Turned)
    (q r : Progress) (old new : MachineModel) (a b c : Writing)
    → Going all (with_pieces (flushing (flow q new.state) ∷ []) (asked_or features p.how (flushed (flow q new.state))
    (slices p points features m rest (flushed (flow q new.state))))) old new a b
    → WritesAll b c (flush_text q.console) → r ≡ record q { console = emptied q.console }
    → Going all (asked_or features p.how (flow r new.state) (slices p points features m rest (flow r new.state)))
    old new a c
past_flush p points features m rest all q r old new a b c so_far went kept =
    gone_on all _ _ (flushing (flow q new.state) ∷ []) old new new a b c so_far
    (ap (λ (k : Progress). with_pieces (flushing (flow q new.state) ∷ []) (asked_or features p.how (flow k new.state)
    (slices p points features m rest (flow k new.state)))) (sym kept)) (said_all new (flush_text q.console) b c went)

-- it was cut
pub flush_cut : (all later : Turned) (q : Progress) (old new : MachineModel) (a b c : Writing)
    → Going all (with_pieces (flushing (flow q new.state) ∷ []) later) old new a b
    → IsCutShort b.written c.written (flush_text q.console) → c.errors ≡ b.errors + 1
    → DeliversPart all.pieces old new a c
flush_cut all later q old new a b c so_far cut failed =
    rest_cut all _ later (flushing (flow q new.state) ∷ []) old new new a b c so_far refl
    (said_part new (flush_text q.console) b c cut failed)

-- GDB is asked
pub asks : (features : Features) (p : Plan) (all later : Turned) (q : Progress) (old new : MachineModel)
    (a b c : Writing)
    (sent : List ℕ) (ends : Turn)
    → Going all (asked_or features p.how (flow q new.state) later) old new a b → features.is_gdb ≡ true
    → WritesAll b c poll_packet → ends ≡ (asked p.how (flow q new.state)).outcome → sent ≡ poll_packet
    → TakesTurn all old new a c sent ends
asks features p all later q old new a b c sent ends so_far gdb went outcome remembered =
    let is : all ≡ with_pieces so_far.done (asked p.how (flow q new.state)) =
    so_far.whole ∙ ap (λ (t : Turned). with_pieces so_far.done t) (is_asked features p (flow q new.state) later gdb) in
    record {
      delivers = subst (λ (qs : List Piece). DeliversAll qs old new a c) (sym (ap (λ (t : Turned). t.pieces) is))
          (delivers_on so_far.done (said (flow q new.state) poll_packet ∷ []) old new new a b c so_far.delivers
          (said_all new poll_packet b c went));
      outcome = outcome ∙ sym (ap (λ (t : Turned). t.outcome) is);
      remembered = remembered ∙ sym (ap (λ (t : Turned). t.sent) is);
    }

pub asks_cut : (features : Features) (p : Plan) (all later : Turned) (q : Progress) (old new : MachineModel)
    (a b c : Writing)
    → Going all (asked_or features p.how (flow q new.state) later) old new a b → features.is_gdb ≡ true
    → IsCutShort b.written c.written poll_packet → c.errors ≡ b.errors + 1 → DeliversPart all.pieces old new a c
asks_cut features p all later q old new a b c so_far gdb cut failed =
    let is : all ≡ with_pieces so_far.done (asked p.how (flow q new.state)) =
    so_far.whole ∙ ap (λ (t : Turned). with_pieces so_far.done t) (is_asked features p (flow q new.state) later gdb) in
    subst (λ (qs : List Piece). DeliversPart qs old new a c) (sym (ap (λ (t : Turned). t.pieces) is))
    (cut_on so_far.done (said (flow q new.state) poll_packet ∷ []) old new new a b c so_far.delivers
    (said_part new poll_packet b c cut failed))

pub asks_none : (features : Features) (p : Plan) (all later : Turned) (f : Flow) (old new : MachineModel)
    (a b : Writing)
    → Going all (asked_or features p.how f later) old new a b → features.is_gdb ≡ false → Going all later old new a b
asks_none features p all later f old new a b so_far other =
    subst (λ (t : Turned). Going all t old new a b) (not_asked features p f later other) so_far

-- the run ended in a whole slice
pub whole_end : {E : Type 0} (p : Plan) (points : Points) (features : Features) (n m rest : ℕ) (f : Flow)
    (all : Turned) (q : Progress) (o : Option StopReason) (r : StopReason) (old mid new : MachineModel)
    (a b c d : Writing)
    (sent : List ℕ) (result : Result Turn E)
    → Going all (slices p points features n rest f) old mid a b → n ≡ suc m
    → DeliversAll (slice p points max_slice_steps f).pieces mid new b c → Slices (slice p points max_slice_steps f) q o
    → o ≡ Some r → mid.state ≡ f.state
    → MakesTurn (ended p.settings points.watchpoints features r q.events (flow q new.state)) new new c d sent result
    → MakesTurn all old new a d sent result
whole_end p points features n m rest f all q o r old mid new a b c d sent result so_far some delivers left is at takes =
    taken all (ended p.settings points.watchpoints features r q.events (flow q new.state)) old new new a c d sent result
    (gone_on all (slices p points features n rest f) _ (slice p points max_slice_steps f).pieces old mid new a b c
    so_far
    (some_left p points features n m rest f some
    ∙ (ended_in p points.watchpoints features (slice p points max_slice_steps f)
    (slices p points features m rest (flushed (slice p points max_slice_steps f).flow)) r (sym is ∙ left.0)
    ∙ ap (λ (t : Turned). with_pieces (slice p points max_slice_steps f).pieces t)
    (sym (end_left p.settings points.watchpoints features r (slice p points max_slice_steps f) q new.state o left
    (stands_there f max_slice_steps (slice p points max_slice_steps f) mid new b c at
    (slice_leaves p points max_slice_steps f) delivers))))) delivers) takes

-- ---- the last slice

pub last_taken : {E : Type 0} (p : Plan) (w : List Watchpoint) (features : Features) (sliced : Sliced) (q : Progress)
    (o : Option StopReason)
    (r : StopReason) (old mid : MachineModel) (a b c : Writing) (sent : List ℕ) (result : Result Turn E)
    → DeliversAll sliced.pieces old mid a b → Slices sliced q o → r ≡ unwrap_or o Interrupted
    → mid.state ≡ sliced.flow.state
    → MakesTurn (ended p.settings w features r q.events (flow q mid.state)) mid mid b c sent result
    → MakesTurn (last_slice p w features sliced) old mid a c sent result
last_taken p w features sliced q o r old mid a b c sent result delivers left is same takes =
    taken (last_slice p w features sliced)
    (ended p.settings w features (unwrap_or sliced.reason Interrupted) sliced.events sliced.flow)
    old mid mid a b c sent result
    (gone_on _ (last_slice p w features sliced) _ sliced.pieces old old mid a a b
    (not_begun (last_slice p w features sliced) old a) refl delivers)
    (taken_as _ _ mid mid b c sent result
    (ap (λ (x : StopReason). ended p.settings w features x q.events (flow q mid.state))
    (is ∙ ap (λ (u : Option StopReason). unwrap_or u Interrupted) left.0)
    ∙ end_left p.settings w features (unwrap_or sliced.reason Interrupted) sliced q mid.state o left same) takes)

pub last_cut : (p : Plan) (w : List Watchpoint) (features : Features) (sliced : Sliced) (old mid : MachineModel)
    (a b : Writing)
    → DeliversPart sliced.pieces old mid a b → DeliversPart (last_slice p w features sliced).pieces old mid a b
last_cut p w features sliced old mid a b cut =
    cut_before sliced.pieces (ended p.settings w features (unwrap_or sliced.reason Interrupted) sliced.events
    sliced.flow).pieces old mid a b cut

-- ---- the end of a run

pub ends_first : (k : Settings) (w : List Watchpoint) (features : Features) (r : StopReason) (q : Progress)
    (m : MachineModel) (a b : Writing)
    (stop : Option Stop) → stop ≡ stop_with_line r m.state.stop
    → ShownInPart a b q.console (why_text k w q.events stop q.console.last)
    → DeliversPart (ended k w features r q.events (flow q m.state)).pieces m m a b
ends_first k w features r q m a b stop is cut =
    let shown : ShownInPart a b q.console (whys k w r q.events (flow q m.state)) =
    subst (λ (o : Option Stop). ShownInPart a b q.console (why_text k w q.events o q.console.last)) is cut in
    cut_first _ _ _ m a b (said_part m (sent_by q.console (whys k w r q.events (flow q m.state))) a b shown.0 shown.1)

-- the lines were put
abbrev pub PutsWhys : Settings → List Watchpoint → StopReason → Progress → Progress → MachineModel → Writing → Writing
    → Type 0
PutsWhys k w r q next m a b = Shown a b q.console next.console (whys k w r q.events (flow q m.state))

pub puts_whys_as : (k : Settings) (w : List Watchpoint) (r : StopReason) (q next : Progress) (m : MachineModel)
    (a b : Writing) (stop : Option Stop)
    → stop ≡ stop_with_line r m.state.stop
    → Shown a b q.console next.console (why_text k w q.events stop q.console.last) → PutsWhys k w r q next m a b
puts_whys_as k w r q next m a b stop is shown =
    subst (λ (o : Option Stop). Shown a b q.console next.console (why_text k w q.events o q.console.last)) is shown

pub ends_second : (k : Settings) (w : List Watchpoint) (features : Features) (r : StopReason) (q next : Progress)
    (m : MachineModel)
    (a b c : Writing) → PutsWhys k w r q next m a b → IsCutShort b.written c.written (flush_text next.console)
    → c.errors ≡ b.errors + 1 → DeliversPart (ended k w features r q.events (flow q m.state)).pieces m m a c
ends_second k w features r q next m a b c told cut failed =
    cut_second _ _ _ m a b c (said_all m (sent_by q.console (whys k w r q.events (flow q m.state))) a b told.0)
    (said_part m (flush_text (console_after q.console (whys k w r q.events (flow q m.state)))) b c
    (subst (λ (d : Console). IsCutShort b.written c.written (flush_text d)) told.1 cut) failed)

pub ends_third : (k : Settings) (w : List Watchpoint) (features : Features) (r : StopReason) (q next : Progress)
    (m : MachineModel)
    (a b c d : Writing) → PutsWhys k w r q next m a b → WritesAll b c (flush_text next.console)
    → IsCutShort c.written d.written (stop_packet features r m.state) → d.errors ≡ c.errors + 1
    → DeliversPart (ended k w features r q.events (flow q m.state)).pieces m m a d
ends_third k w features r q next m a b c d told went cut failed =
    cut_third _ _ _ m a b c d (said_all m (sent_by q.console (whys k w r q.events (flow q m.state))) a b told.0)
    (said_all m (flush_text (console_after q.console (whys k w r q.events (flow q m.state)))) b c
    (subst (λ (e : Console). WritesAll b c (flush_text e)) told.1 went))
    (said_part m (stop_packet features r m.state) c d cut failed)

pub ends_all : (k : Settings) (w : List Watchpoint) (features : Features) (r : StopReason) (q next : Progress)
    (m : MachineModel)
    (a b c d : Writing) → PutsWhys k w r q next m a b → WritesAll b c (flush_text next.console)
    → WritesAll c d (stop_packet features r m.state)
    → DeliversAll (ended k w features r q.events (flow q m.state)).pieces m m a d
ends_all k w features r q next m a b c d told went reply =
    all_three _ _ _ m a b c d (said_all m (sent_by q.console (whys k w r q.events (flow q m.state))) a b told.0)
    (said_all m (flush_text (console_after q.console (whys k w r q.events (flow q m.state)))) b c
    (subst (λ (e : Console). WritesAll b c (flush_text e)) told.1 went))
    (said_all m (stop_packet features r m.state) c d reply)
