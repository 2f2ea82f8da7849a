-- The settings of the exceptions in the reference's record.
use Rattle.nvic.specs.declared.settings.Settings.{Settings}
use Rattle.platform.specs.Priorities.{Nvic}

-- the state of the exceptions except for the sets of pending, enabled and active ones
abbrev pub settings_of : Nvic → Settings
settings_of n = record {
  priorities = n.priorities;
  group = n.group;
  masks = n.masks;
  interrupts = n.interrupts;
  priority_bits = n.priority_bits;
}
