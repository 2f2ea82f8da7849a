use Rattle.std.proofs.Common.{◌≡◌, ◌+◌, drop}
use Rattle.platform.specs.Time.{due_count}
use Rattle.clock.proofs.script.due_count.Given as goal

abbrev pub invariant-loop-count : goal.invariant-loop-count
invariant-loop-count l = l.count + due_count l.tick (drop l.count l.script) ≡ due_count l.tick l.script
