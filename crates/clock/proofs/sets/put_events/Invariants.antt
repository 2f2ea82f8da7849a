use Rattle.std.proofs.Common.{◌≡◌, ◌||◌, ◌<◌, ℕ, drop}
use Rattle.std.specs.List.{list_any}
use Rattle.platform.specs.Priorities.{is_in_words}
use Rattle.platform.specs.Time.{pends}
use Rattle.clock.proofs.sets.put_events.Given as goal

abbrev pub invariant-loop-event : goal.invariant-loop-event
invariant-loop-event l = (n : ℕ) → n < 256 →
    (list_any (λ e. pends e.what n) (drop l.event-index l.events) || is_in_words l.due n)
    ≡ (list_any (λ e. pends e.what n) l.fn.events || is_in_words l.fn.due n)
