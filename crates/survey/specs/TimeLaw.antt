-- What the marks of a timeline are: what was made by the steps whose ticks a column stands for.
use Rattle.std.specs.Prelude.{◌≡◌, ℕ, zero, suc, ◌+◌, ◌*◌, ◌^◌, ◌<◌, Bool, false, ◌||◌, ◌==◌, List, [], ◌∷◌, ◌++◌}
use Rattle.std.specs.Prelude.{length}
use Rattle.std.specs.Prelude.{if◌then◌else◌, Option, Some, None}
use Rattle.platform.specs.declared.event.Event.{Event}
use Rattle.platform.specs.declared.event.EventKind.{EventKind}
use Rattle.platform.specs.Events.{is_access_with}
use Rattle.reference.specs.Run.{after}
use Rattle.reference.specs.State.{State}
use Rattle.reference.specs.Step.{step}
use Rattle.survey.specs.declared.mark.Mark.{Mark}
use Rattle.survey.specs.declared.survey.Survey.{Survey}
use Rattle.survey.specs.Surveys.{step_start_of, surveyed}
use Rattle.survey.specs.Timeline.{Timeline, has_mark, mark_number, mark_of_access, running_mark}

-- a mark, if there is one, is that of a number
abbrev pub is_mark : ℕ → Option Mark → Bool
is_mark number None = false
is_mark number (Some mark) = mark_number mark == number

-- an event makes the mark of a number
abbrev pub event_makes : ℕ → EventKind → Bool
event_makes number what = is_access_with (λ d. is_mark number (mark_of_access d)) what

-- some of these events makes it
abbrev pub events_make : ℕ → List Event → Bool
events_make number [] = false
events_make number (e ∷ es) = event_makes number e.what || events_make number es

-- a step from a state makes it: it is what the core runs then, by the lanes that there are, or an event makes it
abbrev pub step_makes : ℕ → List ℕ → State → Bool
step_makes number handlers s =
    (mark_number (running_mark handlers (step_start_of s)) == number) || events_make number (step s).events

-- step i of a run that is surveyed makes it, counted from 0
abbrev pub makes : State → Survey → ℕ → ℕ → Bool
makes s v number i = step_makes number (surveyed i s v).timeline.handlers (after i s)

-- some of `count` steps makes it, from step `first` on
abbrev pub some_makes : (ℕ → Bool) → ℕ → ℕ → Bool
some_makes made first zero = false
some_makes made first (suc n) = some_makes made first n || made (first + n)

-- how many ticks a column stands for so far
abbrev pub ticks_in : Timeline → ℕ → ℕ
ticks_in t column = if column + 1 == t.used then t.filled else t.column_ticks

-- a timeline without ticks
pub record IsBlank (t : Timeline) : Type 0 where
  pub long : length t.columns ≡ 1024
  pub used : t.used ≡ 0
  pub column_ticks : t.column_ticks ≡ 1
  pub filled : t.filled ≡ 1

-- the columns stand for the first n ticks, and a column that has begun has a mark exactly where a step made it whose
-- tick is one of its ticks
pub record ShowsSteps (n : ℕ) (s : State) (v : Survey) (t : Timeline) : Type 0 where
  pub total : n + t.column_ticks ≡ t.used * t.column_ticks + t.filled
  pub marks : (column : ℕ) (mark : Mark) → column < t.used → mark_number mark < 30
      → has_mark t column mark
      ≡ some_makes (makes s v (mark_number mark)) (column * t.column_ticks) (ticks_in t column)

-- after n steps, none of a machine that had stopped, the timeline of a survey that began without ticks shows them
abbrev pub TimelineShows : ℕ → State → Survey → Type 0
TimelineShows n s v =
    IsBlank v.timeline → ((k : ℕ) → k < n → (after k s).stop ≡ None) → n < 2 ^ 64
    → ShowsSteps n s v (surveyed n s v).timeline

abbrev pub TimelinesShow : Type 0
TimelinesShow = (n : ℕ) (s : State) (v : Survey) → TimelineShows n s v

-- a list begins with another
pub record BeginsWith (first whole : List ℕ) : Type 0 where
  pub rest : List ℕ
  pub is : whole ≡ first ++ rest

-- an exception that has a lane keeps it: the lanes after more steps begin with those before
abbrev pub LanesStay : Type 0
LanesStay =
    (n k : ℕ) (s : State) (v : Survey)
    → BeginsWith (surveyed n s v).timeline.handlers (surveyed (n + k) s v).timeline.handlers
