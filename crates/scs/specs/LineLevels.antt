-- What is known of pokes and of the levels of lines before they are made.
use Rattle.std.specs.Prelude.{ℕ, Bool, true, false, List, [], ◌∷◌}
use Rattle.devices.specs.declared.device.Poke.{Poke}
use Rattle.platform.specs.Priorities.{with_due}
use Rattle.platform.specs.System.{System}

-- whether there are pokes
abbrev pub are_pokes : List Poke → Bool
are_pokes [] = false
are_pokes (p ∷ ps) = true

-- the system with these exceptions pending too, and with these interrupts high
abbrev pub with_due_and_high : System → List ℕ → List Bool → System
with_due_and_high s due high = record s { nvic = with_due s.nvic due; time = record s.time { high = high } }
