-- An access, and a list of them, keep what holds of the System Control Space and of memory.
use Rattle.std.proofs.Common.{ℕ, List, [], ◌∷◌, Result, Ok, Err}
use Rattle.std.proofs.lemmas.Bool.{cond_both}
use Rattle.nvic.proofs.Systems.{access_kept, device_kept}
use Rattle.platform.specs.declared.access.Request.{Request}
use Rattle.platform.specs.declared.access.Rule.{Rule}
use Rattle.platform.specs.declared.event.Event.{Event}
use Rattle.reference.specs.declared.failure.Failure.{Failure}
use Rattle.reference.specs.Accesses.{ListResult, carried_out, decision, followed, is_to_device, perform, perform_all}
use Rattle.reference.specs.Accesses.{value_of}
use Rattle.platform.specs.SystemInvariant.{IsLaidOut}
use Rattle.platform.specs.Kinds.{is_probe}
use Rattle.platform.specs.Map.{is_in_ppb}
use Rattle.platform.specs.Outcomes.{Outcome}
use Rattle.reference.specs.State.{Bus}
use Rattle.state_laws.proofs.Memories.{space_laid_out}
use Rattle.state_laws.proofs.Systems.{IsWhole, parts_kept}

-- what holds of the System Control Space, and of memory
abbrev pub IsWholeBus : ℕ → ℕ → Bus → Type 0
IsWholeBus interrupts bits b = IsWhole interrupts bits b.system × IsLaidOut b.memory

-- what holds of the bus after an access
abbrev LeavesWhole : ℕ → ℕ → Outcome Bus → Type 0
LeavesWhole interrupts bits o = IsWholeBus interrupts bits o.after

pub carried_whole : (interrupts bits x : ℕ) (b : Bus) (rule : Rule) (q : Request) → IsWholeBus interrupts bits b →
    LeavesWhole interrupts bits (carried_out x b rule q)
unfolding carried_out
carried_whole interrupts bits x b rule q h =
    cond_both (is_probe q.access.kind) _ _ (LeavesWhole interrupts bits) (λ e. h)
    (λ e. cond_both (is_in_ppb q.access.address) _ _ (LeavesWhole interrupts bits)
    (λ f. (access_kept (parts_kept interrupts bits) x b.system rule q h.0, h.1))
    (λ f. cond_both (is_to_device b q.access) _ _ (LeavesWhole interrupts bits)
    (λ g. (device_kept (parts_kept interrupts bits) b.system rule q h.0, h.1))
    (λ g. (h.0, space_laid_out b.memory b.system.time.ticks rule q h.1))))

pub perform_whole : (interrupts bits x : ℕ) (b : Bus) (q : Request) → IsWholeBus interrupts bits b →
    LeavesWhole interrupts bits (perform x b q)
unfolding perform
perform_whole interrupts bits x b q h =
    cond_both (decision b q).granted _ _ (LeavesWhole interrupts bits)
    (λ e. carried_whole interrupts bits x b (decision b q).rule q h) (λ e. h)

followed_whole : (interrupts bits : ℕ) (events : List Event) (after : Bus) (value : Result ℕ Failure)
    (rest : ListResult) →
    IsWholeBus interrupts bits after → IsWholeBus interrupts bits rest.bus →
    IsWholeBus interrupts bits (followed events after value rest).bus
followed_whole interrupts bits events after (Ok value) rest first others = others
followed_whole interrupts bits events after (Err why) rest first others = first

pub served_whole : (interrupts bits x tick : ℕ) (b : Bus) (qs : List Request) → IsWholeBus interrupts bits b →
    IsWholeBus interrupts bits (perform_all x tick b qs).bus
unfolding perform_all
served_whole interrupts bits x tick b [] h = h
served_whole interrupts bits x tick b (q ∷ qs) h =
    let first = perform_whole interrupts bits x b q h in
    followed_whole interrupts bits _ _ (value_of q (perform x b q).performed) _ first
    (served_whole interrupts bits x tick (perform x b q).after qs first)
