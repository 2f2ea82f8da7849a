-- What is refused, or stops, changes nothing.
use Rattle.std.proofs.Common.{ℕ, ◌/◌, ◌*◌, ◌||◌, not, Result, Ok, Err, refl}
use Rattle.std.proofs.lemmas.Bool.{cond_both}
use Rattle.platform.specs.declared.access.Request.{Request}
use Rattle.platform.specs.declared.access.Rule.{Rule}
use Rattle.platform.specs.declared.stop.Stop.{Stop as Why}
use Rattle.platform.specs.declared.system.SystemRegister.{SystemRegister}
use Rattle.platform.specs.Kinds.{is_load, is_store}
use Rattle.platform.specs.Outcomes.{Outcome, LeavesUnlessDone}
use Rattle.platform.specs.System.{System, write_performed, has_access, has_width, register_written, register_at}
use Rattle.platform.specs.System.{register_access, system_access}

abbrev Keeps : System → Outcome System → Type 0
Keeps s o = LeavesUnlessDone o.performed s o.after

write_keeps : (s : System) (rule : Rule) (made : Result System Why) → Keeps s (write_performed s rule made)
write_keeps s rule (Ok after) = tt
write_keeps s rule (Err why) = refl

register_keeps : (x : ℕ) (s : System) (rule : Rule) (q : Request) (it : SystemRegister)
    → Keeps s (register_access x s rule q it)
unfolding register_access
register_keeps x s rule q it =
    cond_both (not (has_access s q)) _ _ (Keeps s) (λ e. refl)
    (λ e. cond_both (not (has_width it q.access.size)) _ _ (Keeps s) (λ f. refl)
    (λ f. cond_both (is_store q.access.kind) _ _ (Keeps s) (λ g. write_keeps s rule (register_written s q it))
    (λ g. tt)))

-- an access that isn't carried out leaves the system as it was
pub system_keeps : (x : ℕ) (s : System) (rule : Rule) (q : Request)
    → LeavesUnlessDone (system_access x s rule q).performed s (system_access x s rule q).after
unfolding system_access
system_keeps x s rule q =
    cond_both (is_load q.access.kind || is_store q.access.kind) _ _ (Keeps s)
    (λ e. register_keeps x s rule q (register_at (q.access.address / 4 * 4))) (λ e. refl)
