-- Runs that nothing but breakpoints ends, runs in parts, and commands that show.
use Rattle.std.proofs.Common.{◌≡◌, ℕ, zero, suc, ◌+◌, ◌-◌, ◌<◌, Bool, true, false, List, [], ◌∷◌, ◌++◌, Option}
use Rattle.std.proofs.Common.{Some, None}
use Rattle.std.proofs.Common.{Result, Ok, Err, is_some, ◌||◌, if◌then◌else◌, refl, sym, ◌∙◌, ap, arith}
use Rattle.debugger.specs.Answers.{closed, end_piece, hit_before, is_closed, is_hit, part_text}
use Rattle.debugger.specs.Answers.{run_on, run_pieces, step_piece}
use Rattle.debugger.specs.Laws.{PartsLaw, PlainRunLaw, ShowLaw, place_piece, plain_on, plain_run, whole_step}
use Rattle.debugger_commands.proofs.Plain.{plain_goes_on, plain_lines}
use Rattle.debugger_commands.specs.declared.commands.Command.{Command}
use Rattle.debugger_commands.specs.declared.commands.Command.TheVariants as command
use Rattle.debugger_commands.specs.declared.commands.LineError.{LineError}
use Rattle.debugger_commands.specs.declared.commands.Part.{Part}
use Rattle.debugger_commands.specs.declared.conditions.Hit.{Hit}
use Rattle.debugger_commands.specs.declared.conditions.Hit.TheVariants as hit
use Rattle.debugger_commands.specs.Conditions.{first_hit, is_plain}
use Rattle.debugger_commands.specs.Settings.{Settings}
use Rattle.platform.specs.declared.event.Event.{Event}
use Rattle.platform.specs.Events.{lines}
use Rattle.reference.specs.State.{State}
use Rattle.reference.specs.Step.{step}
use Rattle.serving.specs.Pieces.{Piece, last_state}

-- ---- runs that only breakpoints end

step_is : (k : Settings) (s : State) → is_plain k ≡ true → step_piece k s ≡ whole_step s
step_is k s e =
    ap (λ (es : List Event). record { state = (step s).state; text = lines es }) (plain_lines k e (step s).events)

end_is : (k : Settings) (h : Option Hit) (s : State) → k.is_script ≡ false → end_piece k h s ≡ place_piece s
end_is k None s e = refl
end_is k (Some h) s e = rw e refl

on_zero : (k : Settings) (h : Option Hit) (s : State) → run_on k zero h s ≡ end_piece k h s ∷ []
unfolding run_on
on_zero k h s = refl

plain_zero : (breakpoints : List ℕ) (s : State) → plain_on breakpoints zero s ≡ place_piece s ∷ []
unfolding plain_on
plain_zero breakpoints s = refl

-- a run that nothing has hit, by whether the machine has stopped and whether a breakpoint is hit
on_stopped : (k : Settings) (n : ℕ) (s : State) → is_some s.stop ≡ true
    → run_on k (suc n) None s ≡ end_piece k (hit_before k None s) s ∷ []
unfolding run_on
on_stopped k n s e = rw e refl

on_hit : (k : Settings) (n : ℕ) (s : State) → is_some s.stop ≡ false → is_hit k.breakpoints s ≡ true
    → run_on k (suc n) None s ≡ end_piece k (Some hit.Break) s ∷ []
unfolding run_on
on_hit k n s e f = rw (e, f) refl

on_step : (k : Settings) (n : ℕ) (s : State) → is_plain k ≡ true → is_some s.stop ≡ false
    → is_hit k.breakpoints s ≡ false → run_on k (suc n) None s ≡ step_piece k s ∷ run_on k n None (step s).state
unfolding run_on
on_step k n s plain e f =
    rw (e, f)
    (ap (λ (h : Option Hit). step_piece k s ∷ run_on k n h (step s).state) (plain_goes_on k plain (step s).events))

plain_end : (breakpoints : List ℕ) (n : ℕ) (s : State) → (is_some s.stop || is_hit breakpoints s) ≡ true
    → plain_on breakpoints (suc n) s ≡ place_piece s ∷ []
unfolding plain_on
plain_end breakpoints n s e = rw e refl

plain_step : (breakpoints : List ℕ) (n : ℕ) (s : State) → (is_some s.stop || is_hit breakpoints s) ≡ false
    → plain_on breakpoints (suc n) s ≡ whole_step s ∷ plain_on breakpoints n (step s).state
unfolding plain_on
plain_step breakpoints n s e = rw e refl

plain_law_on : (k : Settings) (n : ℕ) (s : State) → is_plain k ≡ true → k.is_script ≡ false
    → run_on k n None s ≡ plain_on k.breakpoints n s
plain_law_on k zero s plain bare =
    on_zero k None s ∙ (ap (λ (p : Piece). p ∷ []) (end_is k None s bare) ∙ sym (plain_zero k.breakpoints s))
plain_law_on k (suc n) s plain bare =
    split (is_some s.stop) (is_hit k.breakpoints s) refl refl (plain_law_on k n (step s).state plain bare)
  where
    split : (o b : Bool) → is_some s.stop ≡ o → is_hit k.breakpoints s ≡ b
        → run_on k n None (step s).state ≡ plain_on k.breakpoints n (step s).state
        → run_on k (suc n) None s ≡ plain_on k.breakpoints (suc n) s
    split true b e f on =
        on_stopped k n s e
        ∙ (ap (λ (p : Piece). p ∷ []) (end_is k (hit_before k None s) s bare)
        ∙ sym (plain_end k.breakpoints n s (rw e refl)))
    split false true e f on =
        on_hit k n s e f
        ∙ (ap (λ (p : Piece). p ∷ []) (end_is k (Some hit.Break) s bare)
        ∙ sym (plain_end k.breakpoints n s (rw (e, f) refl)))
    split false false e f on =
        on_step k n s plain e f
        ∙ (ap (λ (p : Piece). p ∷ run_on k n None (step s).state) (step_is k s plain)
        ∙ (ap (λ (ps : List Piece). whole_step s ∷ ps) on ∙ sym (plain_step k.breakpoints n s (rw (e, f) refl))))

pub plain_run_law : (k : Settings) (n : ℕ) (s : State) → PlainRunLaw k n s
plain_run_law k n s plain bare = split (is_some s.stop) refl
  where
    rest : run_on k (n - 1) (first_hit k (step s).events) (step s).state ≡ plain_on k.breakpoints (n - 1) (step s).state
    rest =
        ap (λ (h : Option Hit). run_on k (n - 1) h (step s).state) (plain_goes_on k plain (step s).events)
        ∙ plain_law_on k (n - 1) (step s).state plain bare

    split : (o : Bool) → is_some s.stop ≡ o → run_pieces k n s ≡ plain_run k.breakpoints n s
    split true e = rw e (ap (λ (p : Piece). p ∷ []) (end_is k None s bare))
    split false e = rw e (rw (step_is k s plain) (ap (λ (ps : List Piece). whole_step s ∷ ps) rest))

-- ---- runs in parts

-- the pieces of the steps of a run that nothing ends but a stop
fronts : Settings → ℕ → State → List Piece
fronts k zero s = []
fronts k (suc n) s = if is_some s.stop then [] else step_piece k s ∷ fronts k n (step s).state

fronts_zero : (k : Settings) (s : State) → fronts k zero s ≡ []
unfolding fronts
fronts_zero k s = refl

fronts_stopped : (k : Settings) (n : ℕ) (s : State) → is_some s.stop ≡ true → fronts k n s ≡ []
unfolding fronts
fronts_stopped k zero s e = refl
fronts_stopped k (suc n) s e = rw e refl

fronts_step : (k : Settings) (n : ℕ) (s : State) → is_some s.stop ≡ false
    → fronts k (suc n) s ≡ step_piece k s ∷ fronts k n (step s).state
unfolding fronts
fronts_step k n s e = rw e refl

none_hit : (k : Settings) (s : State) → k.breakpoints ≡ [] → is_hit k.breakpoints s ≡ false
none_hit k s e = rw e refl

-- a machine that has stopped only has its end
stopped_on : (k : Settings) (n : ℕ) (s : State) → k.breakpoints ≡ [] → is_some s.stop ≡ true
    → run_on k n None s ≡ end_piece k None s ∷ []
stopped_on k zero s none e = on_zero k None s
stopped_on k (suc n) s none e =
    on_stopped k n s e
    ∙ ap (λ (h : Option Hit). end_piece k h s ∷ [])
    (ap (λ (b : Bool). if b then Some hit.Break else None) (none_hit k s none))

joined : (k : Settings) (a b : ℕ) (s : State) → is_plain k ≡ true → k.breakpoints ≡ []
    → run_on k (a + b) None s ≡ fronts k a s ++ run_on k b None (last_state s (fronts k a s))
joined k zero b s plain none = rw (fronts_zero k s) (ap (λ n. run_on k n None s) (omega arith))
joined k (suc a) b s plain none = split (is_some s.stop) refl (joined k a b (step s).state plain none)
  where
    split : (o : Bool) → is_some s.stop ≡ o
        → run_on k (a + b) None (step s).state
        ≡ fronts k a (step s).state ++ run_on k b None (last_state (step s).state (fronts k a (step s).state))
        → run_on k (suc a + b) None s
        ≡ fronts k (suc a) s ++ run_on k b None (last_state s (fronts k (suc a) s))
    split true e on =
        rw (fronts_stopped k (suc a) s e)
        (stopped_on k (suc a + b) s none e ∙ sym (stopped_on k b s none e))
    split false e on =
        let sum : suc a + b ≡ suc (a + b) = omega arith in
        rw (fronts_step k a s e)
        (ap (λ n. run_on k n None s) sum ∙ (on_step k (a + b) s plain e (none_hit k s none)
        ∙ ap (λ (ps : List Piece). step_piece k s ∷ ps) on))

-- a run of at least one step
run_is : (k : Settings) (n : ℕ) (s : State) → is_plain k ≡ true → k.breakpoints ≡ [] → 0 < n
    → run_pieces k n s ≡ run_on k n None s
run_is k n s plain none some = split (is_some s.stop) refl
  where
    one : suc (n - 1) ≡ n
    one = omega arith

    split : (o : Bool) → is_some s.stop ≡ o → run_pieces k n s ≡ run_on k n None s
    split true e = rw e (sym (stopped_on k n s none e))
    split false e =
        rw e
        (ap (λ (h : Option Hit). step_piece k s ∷ run_on k (n - 1) h (step s).state)
        (plain_goes_on k plain (step s).events)
        ∙ (sym (on_step k (n - 1) s plain e (none_hit k s none)) ∙ ap (λ m. run_on k m None s) one))

pub parts_law : (k : Settings) (a b : ℕ) (s : State) → PartsLaw k a b s
parts_law k a b s some_a some_b plain none =
    let front : List Piece = fronts k a s in
    let zero_more : a ≡ a + 0 = omega arith in
    record {
      front = front;
      first = run_is k a s plain none some_a
          ∙ (ap (λ n. run_on k n None s) zero_more ∙ (joined k a 0 s plain none
          ∙ ap (λ (ps : List Piece). fronts k a s ++ ps) (on_zero k None (last_state s (fronts k a s)))));
      both = run_is k (a + b) s plain none (omega arith)
          ∙ (joined k a b s plain none
          ∙ ap (λ (ps : List Piece). fronts k a s ++ ps)
          (sym (run_is k b (last_state s (fronts k a s)) plain none some_b)));
    }

-- ---- commands that show a part of the machine

stays : (is_closed : Bool) (s : State) (text : List ℕ)
    → last_state s (closed is_closed s (record { state = s; text = text } ∷ [])) ≡ s
stays true s text = refl
stays false s text = refl

pub show_law : (k : Settings) (s : State) (saved : List (Option State)) (asked : Result Command LineError)
    (what : Part) → ShowLaw k s saved asked what
show_law k s saved (Err why) what e = absurd (cc)
show_law k s saved (Ok (command.Run n)) what e = absurd (cc)
show_law k s saved (Ok (command.Task n)) what e = absurd (cc)
show_law k s saved (Ok (command.Break a)) what e = absurd (cc)
show_law k s saved (Ok (command.Show part)) what e =
    (stays (is_closed k (Ok (command.Show part))) s (part_text s part), refl)
show_law k s saved (Ok command.Quit) what e = absurd (cc)
show_law k s saved (Ok (command.Trace selection)) what e = absurd (cc)
show_law k s saved (Ok (command.Watch watchpoint)) what e = absurd (cc)
show_law k s saved (Ok (command.Stop condition on)) what e = absurd (cc)
show_law k s saved (Ok command.Clear) what e = absurd (cc)
show_law k s saved (Ok command.Script) what e = absurd (cc)
show_law k s saved (Ok (command.Change change)) what e = absurd (cc)
