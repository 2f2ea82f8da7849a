-- What isn't carried out changes nothing.
use Rattle.std.proofs.Common.{ℕ, refl, ap}
use Rattle.std.proofs.lemmas.Bool.{cond_both}
use Rattle.instruction_set.specs.Sizes.{bytes_in}
use Rattle.platform.specs.declared.access.Decision.{Decision}
use Rattle.platform.specs.declared.access.Performed.{Performed}
use Rattle.platform.specs.declared.access.Performed.TheVariants.{Done, Denied, Stop}
use Rattle.platform.specs.declared.access.Request.{Request}
use Rattle.platform.specs.declared.access.Rule.{Rule}
use Rattle.reference.specs.Accesses.{carried_out, decided, decision, is_to_device, perform}
use Rattle.platform.specs.Kinds.{is_probe, is_write}
use Rattle.platform.specs.Map.{is_in_ppb, is_in_window}
use Rattle.platform.specs.Memory.{Memory, is_writable_at}
use Rattle.platform.specs.Outcomes.{LeavesUnlessDone, Outcome, within}
use Rattle.platform.specs.Space.{written_to, written_to_window, memory_access}
use Rattle.reference.specs.State.{Bus}
use Rattle.access.proofs.Devices.{device_there}
use Rattle.scs.proofs.Devices.{device_leaves}
use Rattle.scs.proofs.Refusals.{system_keeps}

abbrev Keeps : {A : Type 0} → A → Outcome A → Type 0
Keeps before o = LeavesUnlessDone o.performed before o.after

within_by : {A B : Type 0} (whole : A → B) (before after : A) (performed : Performed)
    → LeavesUnlessDone performed before after → LeavesUnlessDone performed (whole before) (whole after)
within_by whole before after (Done access) kept = tt
within_by whole before after (Denied rule cause) kept = ap whole kept
within_by whole before after (Stop why) kept = ap whole kept

-- what keeps a part keeps the whole
within_keeps : {A B : Type 0} (whole : A → B) (before : A) (o : Outcome A) → Keeps before o
    → Keeps (whole before) (within whole o)
within_keeps whole before o kept = within_by whole before o.after o.performed kept

unchanged_keeps : {A : Type 0} (before : A) (performed : Performed) → LeavesUnlessDone performed before before
unchanged_keeps before (Done access) = tt
unchanged_keeps before (Denied rule cause) = refl
unchanged_keeps before (Stop why) = refl

writing_keeps : (m : Memory) (rule : Rule) (q : Request) → Keeps m (written_to m rule q)
writing_keeps m rule q =
    cond_both (is_in_window q.access.address) _ _ (Keeps m) (λ f. unchanged_keeps m (written_to_window rule q))
    (λ f. cond_both (is_writable_at m q.access.address (bytes_in q.access.size)) _ _ (Keeps m) (λ g. tt) (λ g. refl))

space_keeps : (m : Memory) (ticks : ℕ) (rule : Rule) (q : Request) → Keeps m (memory_access m ticks rule q)
unfolding memory_access
space_keeps m ticks rule q =
    cond_both (is_write q.access.kind) _ _ (Keeps m) (λ f. writing_keeps m rule q) (λ f. unchanged_keeps m _)

carrying_keeps : (exception : ℕ) (b : Bus) (rule : Rule) (q : Request) → Keeps b (carried_out exception b rule q)
unfolding carried_out
carrying_keeps exception b rule q =
    cond_both (is_probe q.access.kind) _ _ (Keeps b) (λ f. tt)
    (λ f. cond_both (is_in_ppb q.access.address) _ _ (Keeps b)
    (λ g. within_keeps (λ system. record b { system = system }) b.system _ (system_keeps exception b.system rule q))
    (λ g. cond_both (is_to_device b q.access) _ _ (Keeps b)
    (λ h. within_keeps (λ system. record b { system = system }) b.system _
    (device_leaves b.system rule q (device_there b q.access h)))
    (λ h. within_keeps (λ memory. record b { memory = memory }) b.memory _
    (space_keeps b.memory b.system.time.ticks rule q))))

decided_keeps : (exception : ℕ) (b : Bus) (q : Request) (d : Decision) → Keeps b (decided exception b q d)
decided_keeps exception b q d =
    cond_both d.granted _ _ (Keeps b) (λ f. carrying_keeps exception b d.rule q) (λ f. refl)

pub perform_keeps : (exception : ℕ) (b : Bus) (q : Request)
    → LeavesUnlessDone (perform exception b q).performed b (perform exception b q).after
unfolding perform
perform_keeps exception b q = decided_keeps exception b q (decision b q)
