-- A report of a run: the page, and the exit status.
use Rattle.std.specs.Prelude.{◌≡◌, ◌⊎◌, ℕ, List, None, Result, Ok, Err}
use Rattle.command.specs.declared.error.Error.{Error}
use Rattle.command.specs.declared.error.Error.TheVariants.{Start, Io}
use Rattle.command.specs.declared.opening.Opened.{Opened}
use Rattle.command.specs.Opening.{Opens}
use Rattle.command.specs.Sending.{IsCut, SendsAll}
use Rattle.command.specs.Statuses.{status_of}
use Rattle.output.specs.Output.{Writing}
use Rattle.platform.specs.declared.error.BoardError.{BoardError}
use Rattle.platform.specs.declared.error.LoadError.{LoadError}
use Rattle.platform.specs.declared.error.StartError.TheVariants.{NoMemory}
use Rattle.platform.specs.declared.stop.Stop.{Stop}
use Rattle.platform.specs.Boards.{Described}
use Rattle.platform.specs.Images.{Segment}
use Rattle.reference.specs.Run.{ending_of}
use Rattle.reference.specs.State.{State}
use Rattle.page_text.specs.Pages.{IsPage}

-- a whole page went out
pub record SendsPage (old new : Writing) : Type 0 where
  pub page : List ℕ
  pub is_page : IsPage page
  pub sends : SendsAll page old new

-- a call of the writer failed, and what was put is a prefix of a page
pub record CutsPage (old new : Writing) : Type 0 where
  pub page : List ℕ
  pub is_page : IsPage page
  pub cut : IsCut page old new

-- a page was sent; or memory ran out for it, and nothing was put; or a call of the writer failed
abbrev pub PutsPage : Writing → Writing → Result (Unit {0}) Error → Type 0
PutsPage old new (Ok done) = SendsPage old new
PutsPage old new (Err error) = ((error ≡ Start NoMemory) × (new ≡ old)) ⊎ ((error ≡ Io) × CutsPage old new)

-- a run from a state ends with the reference machine's stop, and a page was sent, or wasn't
abbrev pub Surveys : ℕ → State → Writing → Writing → Result Stop Error → Type 0
Surveys steps s old new (Ok why) = (why ≡ ending_of steps s) × PutsPage old new (Ok tt)
Surveys steps s old new (Err error) = PutsPage old new (Err error)

-- a run of a machine before its first step; or a refusal, with which nothing is put
abbrev pub SurveysFrom : ℕ → Result Opened Error → Writing → Writing → Result Stop Error → Type 0
SurveysFrom steps (Ok opened) old new result = Surveys steps opened.machine.state old new result
SurveysFrom steps (Err error) old new result = (result ≡ Err error) × (new ≡ old)

-- an image is run on a board and reported, and the status is that of the end
pub record ReportsTo (image : Result (List Segment) LoadError) (board : Result Described BoardError) (steps : ℕ)
    (old new : Writing) (status : ℕ) : Type 0 where
  pub opened : Result Opened Error
  pub opens : Opens image board opened
  pub result : Result Stop Error
  pub surveys : SurveysFrom steps opened old new result
  pub is : status ≡ status_of None result
