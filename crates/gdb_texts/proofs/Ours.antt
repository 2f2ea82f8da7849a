-- The first action that is for the one thread.
use Rattle.std.proofs.Common.{◌≡◌, ◌∙◌, ℕ, List, [], ◌∷◌, Option, None, ap}
use Rattle.gdb_texts.specs.Actions.{action_of, first_ours, or_next}
use Rattle.gdb_texts.specs.declared.actions.Action.{Action}
use Rattle.gdb_texts.specs.declared.actions.Resume.{Resume}

-- an action decides, or leaves it to the next ones
pub ours_next : (part : List ℕ) (parts : List (List ℕ)) (a : Action) (whole : Option Resume) → a ≡ action_of part
    → first_ours (part ∷ parts) ≡ whole → or_next a (first_ours parts) ≡ whole
unfolding first_ours
ours_next part parts a whole e so = ap (λ v. or_next v (first_ours parts)) e ∙ so

-- the last action decides
pub ours_last : (part : List ℕ) (a : Action) (whole : Option Resume) → a ≡ action_of part
    → first_ours (part ∷ []) ≡ whole → or_next a None ≡ whole
unfolding first_ours
ours_last part a whole e so = ap (λ v. or_next v None) e ∙ so
