use Rattle.debugger.proofs.Rooms.{Unsaved}
use Rattle.debugger.proofs.slots.Slots.new.Given as goal

-- this many slots were made
abbrev pub invariant-slots : goal.invariant-slots
invariant-slots g l = Unsaved l.number l.slots.items (g.T.Target.model l.machine).state.bus
