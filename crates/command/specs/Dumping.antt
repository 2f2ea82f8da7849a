-- The bytes of memory that go to files after a run.
use Rattle.std.specs.Prelude.{◌≡◌, ◌⊎◌, ◌+◌, ℕ, zero, suc, Bool, true, false, ◌&&◌, List, [], ◌∷◌, ◌++◌}
use Rattle.std.specs.Prelude.{is_some, option_to_list}
use Rattle.std.specs.List.{list_all}
use Rattle.command_line.specs.declared.dumps.Dump.{Dump}
use Rattle.instruction_set.specs.Words.{word_sum}
use Rattle.output.specs.Output.{IsCutShort, Writing, WritesAll}
use Rattle.platform.specs.Memory.{Memory, byte_at}
use Rattle.reference.specs.State.{State}

-- the n bytes from an address on, as far as they are in memory
unfoldable pub bytes_from : Memory → ℕ → ℕ → List ℕ
bytes_from m a zero = []
bytes_from m a (suc n) = bytes_from m a n ++ option_to_list (byte_at m (word_sum a n))

-- all of them are in memory
unfoldable pub are_in_memory : Memory → ℕ → ℕ → Bool
are_in_memory m a zero = true
are_in_memory m a (suc n) = are_in_memory m a n && is_some (byte_at m (word_sum a n))

-- all bytes of all dumps are
abbrev pub are_all_in_memory : Memory → List Dump → Bool
are_all_in_memory m dumps = list_all (λ d. are_in_memory m d.address d.length) dumps

-- the bytes of a dump
abbrev pub dump_bytes : Dump → State → List ℕ
dump_bytes dump s = bytes_from s.bus.memory dump.address dump.length

-- the bytes of a dump went to its writer; or a call of the writer failed, and a proper prefix of them did; or memory
-- ran out, and nothing did
abbrev pub Dumps : Dump → State → Writing → Writing → Bool → Type 0
Dumps dump s old new true = WritesAll old new (dump_bytes dump s)
Dumps dump s old new false =
    (IsCutShort old.written new.written (dump_bytes dump s) × (new.errors ≡ old.errors + 1)) ⊎ (new ≡ old)

-- the bytes of dumps, one dump after another
abbrev pub all_dump_bytes : List Dump → State → List ℕ
all_dump_bytes [] s = []
all_dump_bytes (dump ∷ dumps) s = dump_bytes dump s ++ all_dump_bytes dumps s

-- one of the dumps failed, after all bytes of those before it went out
pub record StopsAtDump (dumps : List Dump) (s : State) (old new : Writing) : Type 0 where
  pub before : List Dump
  pub dump : Dump
  pub later : List Dump
  pub are : dumps ≡ before ++ dump ∷ later
  pub mid : Writing
  pub went : WritesAll old mid (all_dump_bytes before s)
  pub failed : Dumps dump s mid new false

-- all bytes of all dumps went out, and no call failed; or one of them failed
abbrev pub DumpsAll : List Dump → State → Writing → Writing → Bool → Type 0
DumpsAll dumps s old new true = WritesAll old new (all_dump_bytes dumps s)
DumpsAll dumps s old new false = StopsAtDump dumps s old new
