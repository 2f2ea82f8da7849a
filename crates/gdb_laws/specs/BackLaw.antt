-- A step forwards and a step back (GDB manual, "Packets", s and bs; profile).
use Rattle.std.specs.Prelude.{◌≡◌, ℕ, zero, suc, ◌+◌, ◌<◌, ◌≤◌, true, false, List, [], ◌∷◌, None}
use Rattle.gdb.specs.declared.searches.Way.TheVariants as way
use Rattle.gdb.specs.Searches.{ends_unit}
use Rattle.gdb_past.specs.Places.{Past, tick_of}
use Rattle.gdb_server.specs.Conduct.{Answered, answered}
use Rattle.gdb_server.specs.declared.purposes.Purpose.TheVariants as purpose
use Rattle.gdb_server.specs.Sessions.{Session}
use Rattle.gdb_texts.specs.declared.actions.Resume.TheVariants.{Step}
use Rattle.gdb_texts.specs.declared.stops.Signal.TheVariants.{Trap}
use Rattle.platform.specs.Time.{last_tick}
use Rattle.reference.specs.Run.{after}
use Rattle.reference.specs.State.{State}
use Rattle.serving.specs.Pieces.{last_state}

-- a number of steps after a mark is the mark itself, or the end of a unit
abbrev pub EndsUnit : State → ℕ → Type 0
EndsUnit m zero = Unit {0}
EndsUnit m (suc i) = ends_unit (after i m) ≡ true

-- a step back can go to the state s: it is the last mark, or the end of a unit after it, and the clock has counted the
-- steps from there
pub record IsUnitEnd (past : Past) (s : State) : Type 0 where
  pub mark : State
  pub earlier : List State
  pub marks : past.marks ≡ mark ∷ earlier
  pub steps : ℕ
  pub state : s ≡ after steps mark
  pub tick : tick_of s ≡ tick_of mark + steps
  pub unit : EndsUnit mark steps

-- `s`, and the state after an answer
abbrev pub stepped : Session → State → List ℕ → Answered
stepped k s tail = answered k s (purpose.Resume Step) tail

abbrev pub state_after : State → Answered → State
state_after s a = last_state s a.pieces

-- `bs`
abbrev pub stepped_back : Session → State → List ℕ → Answered
stepped_back k s tail = answered k s (purpose.Back way.Step) tail

-- what steps and steps back read of two sessions is the same
pub record IsAlike (k j : Session) : Type 0 where
  pub points : j.points ≡ k.points
  pub settings : j.settings ≡ k.settings
  pub features : j.features ≡ k.features
  pub limit : j.limit ≡ k.limit
  pub past : j.past ≡ k.past

-- from the end of a unit, where steps enter handlers, and runs go at most to the end of the clock
pub record MayStepBack (k : Session) (s : State) : Type 0 where
  pub here : IsUnitEnd k.past s
  pub into : k.settings.steps_over ≡ false
  pub limit : k.limit ≤ last_tick

-- ---- a step, and a step back

-- in a session like that before the step, which was made, `bs` is answered without a question to GDB
pub record GoesBack (k j : Session) (s there : State) (tail : List ℕ) : Type 0 where
  pub made : tick_of s < tick_of there
  pub alike : IsAlike k j
  pub ended : (stepped_back j there tail).session.running ≡ None

-- the machine is in its state again, and the session like that before the step
pub record IsBack (k : Session) (s there : State) (back : Answered) : Type 0 where
  pub state : state_after there back ≡ s
  pub alike : IsAlike k back.session

abbrev pub StepBackLaw : Session → Session → State → List ℕ → List ℕ → Type 0
StepBackLaw k j s tail more =
    MayStepBack k s → GoesBack k j s (state_after s (stepped k s tail)) more →
    IsBack k s (state_after s (stepped k s tail)) (stepped_back j (state_after s (stepped k s tail)) more)

-- ---- and again

-- `s` made a unit, and nothing else: neither a breakpoint nor a watchpoint is set, GDB is told SIGTRAP, and the machine
-- goes on
pub record MakesUnit (k : Session) (s : State) (tail : List ℕ) : Type 0 where
  pub breakpoints : k.points.breakpoints ≡ []
  pub watchpoints : k.points.watchpoints ≡ []
  pub ended : (stepped k s tail).session.running ≡ None
  pub signal : (stepped k s tail).session.signal ≡ Trap
  pub going : (state_after s (stepped k s tail)).stop ≡ None

-- then steps can be made, and undone, from the state after it, and the session is like that before
pub record MayStepAgain (k : Session) (s : State) (step : Answered) : Type 0 where
  pub may : MayStepBack step.session (state_after s step)
  pub alike : IsAlike k step.session

abbrev pub StepAgainLaw : Session → State → List ℕ → Type 0
StepAgainLaw k s tail = MayStepBack k s → MakesUnit k s tail → MayStepAgain k s (stepped k s tail)
