-- What ran when: the ticks of a run in at most 1,024 columns, each of which stands for 1, 2, 4, .. of them.
use Rattle.std.specs.Prelude.{◌≡◌, ℕ, zero, suc, ◌+◌, ◌-◌, ◌*◌, ◌^◌, min, Bool, ◌&&◌, ◌==◌, nat_le, nat_lt}
use Rattle.std.specs.Prelude.{if◌then◌else◌, List, [], ◌∷◌, ◌++◌, length, replicate, slice_set, slice_index}
use Rattle.std.specs.Prelude.{Option, Some, None, bit_or}
use Rattle.instruction_set.specs.Words.{is_bit}
use Rattle.platform.specs.declared.access.Cause.{Cause}
use Rattle.platform.specs.declared.access.DecidedAccess.{DecidedAccess}
use Rattle.platform.specs.Kinds.{is_write}
use Rattle.survey.specs.declared.mark.Mark.{Mark}
use Rattle.survey.specs.declared.mark.Mark.TheVariants.{Unprivileged, Privileged, Sleep, Refused, MpuWritten}
use Rattle.survey.specs.declared.mark.Mark.TheVariants.{OtherHandler, Handler}
use Rattle.survey.specs.declared.step_start.StepStart.{StepStart}

-- The ticks so far. Of the 1,024 places of `columns` the first `used` have begun. The bits of a column are its marks.
pub record Timeline : Type 0 where
  pub columns : List ℕ
  pub used : ℕ
  -- how many ticks a column stands for
  pub column_ticks : ℕ
  -- how many ticks the last column that has begun stands for so far
  pub filled : ℕ
  -- the exceptions that have lanes of their own, in the order in which their handlers first ran
  pub handlers : List ℕ

-- how many columns there are at most
abbrev pub max_columns : ℕ
max_columns = 1024

-- how many exceptions have lanes of their own at most
abbrev pub max_lanes : ℕ
max_lanes = 24

-- no tick has begun, and no exception has a lane
abbrev pub HasNoTicks : Timeline → Type 0
HasNoTicks t =
    (t.used ≡ 0) × (t.column_ticks ≡ 1) × (t.filled ≡ 1) × (t.handlers ≡ []) × (t.columns ≡ replicate 1024 0)

-- Marks

-- the number of a mark: the bit that it has in a column
abbrev pub mark_number : Mark → ℕ
mark_number Unprivileged = 0
mark_number Privileged = 1
mark_number Sleep = 2
mark_number Refused = 3
mark_number MpuWritten = 4
mark_number OtherHandler = 5
mark_number (Handler lane) = 6 + lane

-- whether a column that has begun has a mark
abbrev pub has_mark : Timeline → ℕ → Mark → Bool
has_mark t column mark =
    (nat_lt column t.used && nat_lt (mark_number mark) 30) && is_bit (slice_index t.columns column) (mark_number mark)

-- a column with one mark more
abbrev pub with_bit : List ℕ → ℕ → ℕ → List ℕ
with_bit columns column number = slice_set columns column (bit_or (slice_index columns column) (2 ^ number))

-- the last tick gets a mark: its column is the last that has begun
abbrev pub marked : Timeline → Mark → Timeline
marked t mark =
    if nat_lt 0 t.used then record t { columns = with_bit t.columns (t.used - 1) (mark_number mark) } else t

-- Ticks

-- a column joined with its neighbour: column c of the ones that come of it is made of the columns 2c and 2c + 1
abbrev pub join_at : List ℕ → ℕ → List ℕ
join_at columns c =
    slice_set columns c (bit_or (slice_index columns (2 * c)) (slice_index columns (2 * c + 1)))

-- the first n columns are joined so, one after another
unfoldable pub joined_to : ℕ → List ℕ → List ℕ
joined_to zero columns = columns
joined_to (suc n) columns = join_at (joined_to n columns) n

-- twice as many ticks; the number stays at its highest value
abbrev pub doubled : ℕ → ℕ
doubled ticks = min (ticks * 2) (2 ^ 64 - 1)

-- neighbours are joined: half of the columns are used, and each stands for twice as many ticks
abbrev pub joined : Timeline → Timeline
joined t = record t { columns = joined_to 512 t.columns; used = 512; column_ticks = doubled t.column_ticks }

-- a column without marks begins, with one tick
abbrev pub appended : Timeline → Timeline
appended t = record t { columns = slice_set t.columns t.used 0; used = t.used + 1; filled = 1 }

-- a column begins, after neighbours were joined where all columns had begun
abbrev pub with_column : Timeline → Timeline
with_column t = if t.used == max_columns then appended (joined t) else appended t

-- a tick begins, in the last column if that doesn't have all its ticks
abbrev pub begun : Timeline → Timeline
begun t = if nat_lt t.filled t.column_ticks then record t { filled = t.filled + 1 } else with_column t

-- What ran

-- the lane of an exception, or the number of lanes where it has none
abbrev pub lane_in : ℕ → List ℕ → ℕ
lane_in exception [] = 0
lane_in exception (handler ∷ handlers) = if handler == exception then 0 else lane_in exception handlers + 1

-- the lanes after the handler of an exception ran, whose lane is known: a new one where there is room for it
abbrev pub with_lane : List ℕ → ℕ → ℕ → List ℕ
with_lane handlers exception lane =
    if (lane == length handlers) && nat_lt lane max_lanes then handlers ++ exception ∷ [] else handlers

-- the mark of a handler, by the lane of its exception
abbrev pub handler_mark : ℕ → Mark
handler_mark lane = if nat_lt lane max_lanes then Handler lane else OtherHandler

-- what the core runs when a step begins, by the lanes that there are
abbrev pub running_mark : List ℕ → StepStart → Mark
running_mark handlers m =
    if m.asleep then Sleep
    else if m.exception == 0 then (if m.privileged then Privileged else Unprivileged)
    else handler_mark (lane_in m.exception handlers)

-- the lanes after a step began
abbrev pub lanes_after : List ℕ → StepStart → List ℕ
lanes_after handlers m =
    if m.asleep then handlers
    else if m.exception == 0 then handlers
    else with_lane handlers m.exception (lane_in m.exception handlers)

-- the timeline after the handler of an exception ran, which has a lane then, if there is room for it
abbrev pub with_handler : Timeline → ℕ → Timeline
with_handler t exception = record t { handlers = with_lane t.handlers exception (lane_in exception t.handlers) }

-- the last tick is that of a step of the handler of an exception
abbrev pub handled : Timeline → ℕ → Timeline
handled t exception = marked (with_handler t exception) (handler_mark (lane_in exception t.handlers))

-- the last tick is that of a step that begins at a moment
abbrev pub ran : Timeline → StepStart → Timeline
ran t m = marked (record t { handlers = lanes_after t.handlers m }) (running_mark t.handlers m)

-- the tick of a step that begins at a moment: it belongs to what the core runs then
unfoldable pub with_tick : Timeline → StepStart → Timeline
with_tick t m = ran (begun t) m

-- What a step did

-- whether an address is that of a register of the MPU (ARM DDI 0403, "MPU register support")
abbrev pub is_mpu_register : ℕ → Bool
is_mpu_register a = nat_le 0xE000_ED90 a && nat_le a 0xE000_EDB8

-- the mark that an access makes: a refused one, or a write to a register of the MPU that was granted and carried out
abbrev pub mark_by : DecidedAccess → Option Cause → Option Mark
mark_by d (Some cause) = Some Refused
mark_by d None = if is_write d.access.kind && is_mpu_register d.access.address then Some MpuWritten else None

abbrev pub mark_of_access : DecidedAccess → Option Mark
mark_of_access d = mark_by d d.refused

-- the last tick gets a mark, if there is one
abbrev pub marked_by : Timeline → Option Mark → Timeline
marked_by t None = t
marked_by t (Some mark) = marked t mark

-- after an access
abbrev pub with_accessed_mark : Timeline → DecidedAccess → Timeline
with_accessed_mark t d = marked_by t (mark_of_access d)
