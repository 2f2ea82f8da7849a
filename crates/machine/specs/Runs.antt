-- What a run that a writer cut short leaves.
use Rattle.std.specs.Prelude.{◌≡◌, ◌⊎◌, ℕ, ◌+◌, ◌-◌, ◌<◌, ◌≤◌, true, List, Option, None, IsSome}
use Rattle.std.specs.Io.KnownBytes.{Keeps}
use Rattle.machine.specs.declared.machine.RunError.{RunError}
use Rattle.machine.specs.declared.machine.RunError.TheVariants.{Write, Broken}
use Rattle.output.specs.Output.{IsCutAfter, Writing}
use Rattle.target.specs.MachineModel.{MachineModel}
use Rattle.reference.specs.Run.{after, ending_of}
use Rattle.reference.specs.State.{State}
use Rattle.reference.specs.Step.{step}
use Rattle.platform.specs.declared.event.Event.{Event}
use Rattle.platform.specs.Events.{lines}
use Rattle.platform.specs.Text.{stop_line}
use Rattle.trace.specs.Selection.{steps_text}

-- the text of all steps but the last one went out, and a proper prefix of that one's text; `text` is the text of the
-- events of one step
abbrev pub CutInStep : (List Event → List ℕ) → State → ℕ → Option (List ℕ) → Option (List ℕ) → Type 0
CutInStep text s steps old new =
    (0 < steps) × IsCutAfter old new (steps_text text (steps - 1) s) (text (step (after (steps - 1) s)).events)

-- the text of all steps went out, and a proper prefix of the end of the run's text
abbrev pub CutInEnd : (List Event → List ℕ) → List ℕ → ℕ → State → ℕ → Option (List ℕ) → Option (List ℕ) → Type 0
CutInEnd text end n s steps old new =
    ((steps ≡ n) ⊎ IsSome (after steps s).stop) × IsCutAfter old new (steps_text text n s) end

-- a run of at most n steps from a state was cut short after `steps` of them: each of them was made, the machine is in
-- the state after them, and what went out is a prefix of the run's text
pub record Leaves (text : List Event → List ℕ) (end : List ℕ) (n : ℕ) (s : State) (steps : ℕ) (old new : Writing)
    (last : State) : Type 0 where
  pub few : steps ≤ n
  pub made : (k : ℕ) → k < steps → (after k s).stop ≡ None
  pub state : last ≡ after steps s
  pub cut : CutInStep text s steps old.written new.written ⊎ CutInEnd text end n s steps old.written new.written

-- a run with such a text failed: the writer counted an error in it, or it was broken before and nothing was done
abbrev pub FailsIn : (List Event → List ℕ) → List ℕ → ℕ → MachineModel → MachineModel → Writing → Writing → RunError
    → Type 0
FailsIn text end n old new out out' (Write steps) =
    Leaves text end n old.state steps out out' new.state × (new.broken ≡ true) × (out'.errors ≡ out.errors + 1)
FailsIn text end n old new out out' Broken =
    (new ≡ old) × Keeps out.written out'.written × (out'.errors ≡ out.errors)

-- a run failed that writes the lines of its steps and the line of its stop
abbrev pub Fails : ℕ → MachineModel → MachineModel → Writing → Writing → RunError → Type 0
Fails n old new out out' error = FailsIn lines (stop_line (ending_of n old.state)) n old new out out' error
