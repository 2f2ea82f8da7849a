-- What a debugger holds between two bytes: what a session keeps, with slots in place of what was saved in them.
use Rattle.std.specs.Prelude.{ℕ, Bool, true, not, if◌then◌else◌, List, [], length, Option, Some}
use Rattle.debugger.specs.Sessions.{SessionData, debugging, is_line_feed, line_asked}
use Rattle.debugger.specs.Slots.{Slot, saved_in, slots_after}
use Rattle.debugger_commands.specs.Commands.{change_of, quits}
use Rattle.debugger_commands.specs.Settings.{Settings, opened_settings, settings_after}
use Rattle.debugger_commands.specs.Words.{with_byte}
use Rattle.platform.specs.Boards.{Numbers}
use Rattle.reference.specs.State.{State}
use Rattle.serving.specs.Conduct.{Conduct, lifted}

pub record Held : Type 0 where
  pub settings : Settings
  pub line : Option (List ℕ)
  pub slots : List Slot
  -- whether no `quit` was read
  pub is_open : Bool

-- what the session keeps of it
abbrev pub data_of : Held → SessionData
data_of h = record { settings = h.settings; line = h.line; saved = saved_in h.slots; is_open = h.is_open }

-- before the first byte of a session of a machine of a board, with these slots
abbrev pub held_first : Numbers → List Slot → Held
held_first board slots = record {
  settings = opened_settings board (length slots);
  line = Some [];
  slots = slots;
  is_open = true;
}

-- after the answer to the line
abbrev pub held_after_line : Held → State → Held
held_after_line h s = record {
  settings = settings_after h.settings (line_asked (data_of h));
  line = Some [];
  slots = slots_after s h.slots (change_of (line_asked (data_of h)));
  is_open = not (quits (line_asked (data_of h)));
}

abbrev pub held_after : Held → State → ℕ → Held
held_after h s byte =
    if is_line_feed byte then held_after_line h s else record h { line = with_byte h.line byte }

-- it makes the pieces of the session
abbrev pub holding : Conduct Held
holding = lifted data_of held_after debugging
