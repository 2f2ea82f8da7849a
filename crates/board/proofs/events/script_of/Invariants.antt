use Rattle.std.proofs.Common.{◌≡◌, true, drop, List}
use Rattle.toml.specs.View.{items_view}
use Rattle.platform.specs.declared.script.ScriptedEvent.{ScriptedEvent}
use Rattle.board.specs.Texts.{script_in}
use Rattle.board.proofs.Scripts.{after}
use Rattle.board.proofs.events.script_of.Given as goal

-- the events that were read stand in front of those that are left; they were all gathered, unless memory was wanting
abbrev pub invariant-values : goal.invariant-values
invariant-values l = record {
  done : List ScriptedEvent;
  whole : after done (script_in l.interrupts l.devices l.before (items_view (drop l.value-index l.values)))
      ≡ script_in l.interrupts l.devices 1 (items_view l.values);
  gathered : l.is_complete ≡ true → l.events.items ≡ done;
}
