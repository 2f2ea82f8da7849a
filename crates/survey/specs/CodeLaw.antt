-- What the counters of code are: numbers of instructions.
use Rattle.std.specs.Prelude.{◌≡◌, ℕ, zero, suc, ◌+◌, ◌-◌, ◌*◌, ◌^◌, ◌≤◌, min, Bool, true, ◌&&◌, ◌==◌, List, [], ◌∷◌}
use Rattle.std.specs.Prelude.{length, if◌then◌else◌}
use Rattle.platform.specs.declared.access.DecidedAccess.{DecidedAccess}
use Rattle.platform.specs.declared.event.Event.{Event}
use Rattle.platform.specs.Events.{is_access_with}
use Rattle.reference.specs.Run.{after}
use Rattle.reference.specs.State.{State}
use Rattle.reference.specs.Step.{step}
use Rattle.survey.specs.declared.survey.Survey.{Survey}
use Rattle.survey.specs.CodeCounts.{CodeCounts, begins_instruction, code_number, code_place, halfword_of, has_halfword}
use Rattle.survey.specs.Surveys.{surveyed}

-- an access is the fetch with which the instruction at `pc` begins, was carried out, and is counted at a place
abbrev pub is_counted_fetch : CodeCounts → ℕ → ℕ → DecidedAccess → Bool
is_counted_fetch c place pc d =
    begins_instruction pc d
    && (has_halfword c d.access.address && (code_place c d.access.privileged d.access.address == place))

-- how many of the events of a step that began at `pc` are such fetches
abbrev pub instructions_in : CodeCounts → ℕ → ℕ → List Event → ℕ
instructions_in c place pc [] = 0
instructions_in c place pc (e ∷ es) =
    if is_access_with (λ d. is_counted_fetch c place pc d) e.what then 1 + instructions_in c place pc es
    else instructions_in c place pc es

-- how many events of n steps from a state are such fetches, each of the instruction at which its step began
unfoldable pub instructions_of : CodeCounts → ℕ → ℕ → State → ℕ
instructions_of c place zero s = 0
instructions_of c place (suc n) s =
    instructions_of c place n s + instructions_in c place (after n s).registers.pc (step (after n s)).events

-- The counter of an address of a memory and of a privilege has counted the instructions of n steps that began there, up
-- to its highest value, beyond what it was before.
abbrev pub CountsInstructions : (Survey → CodeCounts) → ℕ → State → Survey → Bool → ℕ → Type 0
CountsInstructions memory n s v privileged a =
    let c = memory v in
    length c.counters ≡ 2 * c.halfwords → has_halfword c a ≡ true → code_number c privileged a ≤ 2 ^ 64 - 1
    → code_number (memory (surveyed n s v)) privileged a
    ≡ min (code_number c privileged a + instructions_of c (code_place c privileged a) n s) (2 ^ 64 - 1)

-- each counter of a memory of each survey has counted such instructions
abbrev pub CodeIsCounted : (Survey → CodeCounts) → Type 0
CodeIsCounted memory =
    (n : ℕ) (s : State) (v : Survey) (privileged : Bool) (a : ℕ) → CountsInstructions memory n s v privileged a

-- no two halfwords of a memory have one counter, nor has one halfword one counter for both privileges
abbrev pub HalfwordsDiffer : Type 0
HalfwordsDiffer =
    (c : CodeCounts) (privileged : Bool) (a : ℕ) (privileged' : Bool) (a' : ℕ) → has_halfword c a ≡ true
    → has_halfword c a' ≡ true → code_place c privileged a ≡ code_place c privileged' a'
    → (privileged ≡ privileged') × (halfword_of c a ≡ halfword_of c a')
