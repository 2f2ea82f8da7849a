-- How memory and the device window carry out a granted access (profile); at any other address it is a bus error.
use Rattle.std.specs.Prelude.{ℕ, ◌%◌, ◌^◌, Bool, ◌&&◌, ◌==◌, if◌then◌else◌, Option, Some, None}
use Rattle.instruction_set.specs.Sizes.{bytes_in, is_word}
use Rattle.platform.specs.declared.access.Performed.{Performed}
use Rattle.platform.specs.declared.access.Performed.TheVariants.{Done}
use Rattle.platform.specs.declared.access.Request.{Request}
use Rattle.platform.specs.declared.access.Rule.{Rule}
use Rattle.platform.specs.Kinds.{is_load, is_store, is_write}
use Rattle.platform.specs.Map.{is_in_window, out_register, tick_register}
use Rattle.platform.specs.Memory.{Memory, number_at, is_writable_at, bytes_of, overwritten}
use Rattle.platform.specs.Outcomes.{Outcome, bus_error, done, unchanged}

-- a word that is stored to OUT, whose low byte goes to the console
abbrev pub is_out : Request → Bool
is_out q = is_store q.access.kind && is_word q.access.size && (q.access.address == out_register)

-- a word that is loaded from TICK
abbrev pub is_tick_read : Request → Bool
is_tick_read q = is_load q.access.kind && is_word q.access.size && (q.access.address == tick_register)

-- a read of memory gives the number; it is a bus error where memory doesn't have all its bytes
abbrev pub number_read : Rule → Option ℕ → Performed
number_read rule None = bus_error rule
number_read rule (Some value) = done rule value

-- in the window TICK alone is read: the low word of how many ticks have gone by
abbrev pub read_from : Memory → ℕ → Rule → Request → Performed
read_from m ticks rule q =
    if is_in_window q.access.address
    then (if is_tick_read q then done rule (ticks % 2 ^ 32) else bus_error rule)
    else number_read rule (number_at m q.access.address (bytes_in q.access.size))

-- in the window OUT alone is written: the low byte of the word goes to the console
abbrev pub written_to_window : Rule → Request → Performed
written_to_window rule q =
    if is_out q then Done (record { rule = rule; value = 0; sent = Some (q.value % 256) }) else bus_error rule

-- elsewhere the blocks alone are written that a store may change: RAM and the second RAM
abbrev pub written_to : Memory → Rule → Request → Outcome Memory
written_to m rule q =
    if is_in_window q.access.address then unchanged m (written_to_window rule q)
    else if is_writable_at m q.access.address (bytes_in q.access.size)
    then record {
      after = overwritten m q.access.address (bytes_of (bytes_in q.access.size) q.value);
      performed = done rule 0;
    }
    else unchanged m (bus_error rule)

-- a request that a rule granted, at a tick, carried out by memory or the window
unfoldable pub memory_access : Memory → ℕ → Rule → Request → Outcome Memory
memory_access m ticks rule q =
    if is_write q.access.kind then written_to m rule q else unchanged m (read_from m ticks rule q)
