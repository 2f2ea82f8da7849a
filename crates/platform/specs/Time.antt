-- Time: the clock, SysTick (ARM DDI 0403, "System timer, SysTick"), the interrupts of the external interrupts and the
-- script of events. That each tick is one count of SysTick is this project's choice, and so is all that is said of the
-- clock, of interrupts and of scripts (profile).
use Rattle.std.specs.Prelude.{ℕ, ◌+◌, ◌-◌, ◌%◌, ◌^◌, ◌<◌, min, Bool, true, false, ◌&&◌, ◌||◌, nat_le, ◌==◌, ◌≡◌}
use Rattle.std.specs.Prelude.{if◌then◌else◌, List, [], ◌∷◌, take, drop, slice_set, slice_index_or, replicate}
use Rattle.std.specs.List.{prefix_len, list_any}
use Rattle.instruction_set.specs.Registers.{mask_if}
use Rattle.instruction_set.specs.Words.{is_bit}
use Rattle.platform.specs.declared.exception.TheConstants.{NMI, SYS_TICK, FIRST_INTERRUPT, MAX_INTERRUPTS}
use Rattle.platform.specs.declared.script.ScriptedEvent.{ScriptedEvent}
use Rattle.platform.specs.declared.script.Signal.{Signal}
use Rattle.platform.specs.declared.script.Signal.TheVariants.{Rise, Fall, Pulse, Nmi, Poke}
use Rattle.platform.specs.Priorities.{is_in_words}

pub record SysTick : Type 0 where
  -- SYST_CSR.ENABLE, TICKINT and COUNTFLAG
  pub enable : Bool
  pub tickint : Bool
  pub countflag : Bool
  -- SYST_RVR and SYST_CVR, of 24 bits
  pub reload : ℕ
  pub current : ℕ

pub record Time : Type 0 where
  -- how many ticks have gone by
  pub ticks : ℕ
  pub systick : SysTick
  -- for each interrupt, whether it is high
  pub high : List Bool
  -- the events that are still to come, in file order
  pub script : List ScriptedEvent

-- the last tick that a clock reaches
abbrev pub last_tick : ℕ
last_tick = 2 ^ 48

-- the exception that an interrupt makes pending
abbrev pub interrupt_exception : ℕ → ℕ
interrupt_exception interrupt = FIRST_INTERRUPT + interrupt

-- SysTick, one count

-- whether the next count goes from 1 to 0
abbrev pub reaches_zero : SysTick → Bool
reaches_zero t = t.enable && (t.current == 1)

-- SYST_CVR after the next tick: while SysTick is enabled, 0 is followed by SYST_RVR, any other value by one less
abbrev pub next_current : SysTick → ℕ
next_current t = if t.enable then (if t.current == 0 then t.reload else t.current - 1) else t.current

-- SysTick after the next tick: a count from 1 to 0 sets COUNTFLAG
abbrev pub counted : SysTick → SysTick
counted t = record t { current = next_current t; countflag = t.countflag || reaches_zero t }

-- The registers of SysTick

-- SYST_CSR: ENABLE, TICKINT, CLKSOURCE, which is always 1 (profile), and COUNTFLAG
abbrev pub csr : SysTick → ℕ
csr t = mask_if t.enable 1 + mask_if t.tickint (2 ^ 1) + 2 ^ 2 + mask_if t.countflag (2 ^ 16)

-- a read of SYST_CSR clears COUNTFLAG
abbrev pub after_csr_read : SysTick → SysTick
after_csr_read t = record t { countflag = false }

-- a write to SYST_CSR writes ENABLE and TICKINT
abbrev pub with_csr : SysTick → ℕ → SysTick
with_csr t v = record t { enable = is_bit v 0; tickint = is_bit v 1 }

-- a write to SYST_RVR keeps 24 bits
abbrev pub with_rvr : SysTick → ℕ → SysTick
with_rvr t v = record t { reload = v % 2 ^ 24 }

-- any write to SYST_CVR clears it, and COUNTFLAG
abbrev pub with_cvr_cleared : SysTick → SysTick
with_cvr_cleared t = record t { current = 0; countflag = false }

-- SysTick after a reset; what the manual leaves UNKNOWN is 0 (profile)
abbrev pub reset_systick : SysTick
reset_systick = record { enable = false; tickint = false; countflag = false; reload = 0; current = 0 }

-- The script

-- how many events at the head of a script are due by a tick
abbrev pub due_count : ℕ → List ScriptedEvent → ℕ
due_count tick script = prefix_len (λ e. nat_le e.at tick) script

-- the events that apply in a tick, and those that are left after it
abbrev pub events_at : ℕ → List ScriptedEvent → List ScriptedEvent
events_at tick script = take (due_count tick script) script

abbrev pub events_after : ℕ → List ScriptedEvent → List ScriptedEvent
events_after tick script = drop (due_count tick script) script

-- the interrupts after a signal
abbrev pub with_signal : List Bool → Signal → List Bool
with_signal high (Rise interrupt) = slice_set high interrupt true
with_signal high (Fall interrupt) = slice_set high interrupt false
with_signal high (Pulse interrupt) = high
with_signal high Nmi = high
with_signal high (Poke p) = high

-- the interrupts after events, one after another
abbrev pub with_events : List Bool → List ScriptedEvent → List Bool
with_events high [] = high
with_events high (e ∷ events) = with_events (with_signal high e.what) events

-- whether a signal makes exception n pending
abbrev pub pends : Signal → ℕ → Bool
pends (Rise interrupt) n = n == interrupt_exception interrupt
pends (Fall interrupt) n = false
pends (Pulse interrupt) n = n == interrupt_exception interrupt
pends Nmi n = n == NMI
pends (Poke p) n = false

-- whether an interrupt is high
abbrev pub is_high : Time → ℕ → Bool
is_high t interrupt = slice_index_or t.high interrupt false

-- A tick

-- time after the next tick: the clock goes on by one, SysTick counts, and then the tick's events apply in file order
unfoldable pub time_after_tick : Time → Time
time_after_tick t = record {
  ticks = t.ticks + 1;
  systick = counted t.systick;
  high = with_events t.high (events_at (t.ticks + 1) t.script);
  script = events_after (t.ticks + 1) t.script;
}

-- whether SysTick's next count makes exception n pending
abbrev pub timer_pends : SysTick → ℕ → Bool
timer_pends t n = reaches_zero t && t.tickint && (n == SYS_TICK)

-- whether the next tick makes exception n pending
unfoldable pub tick_pends : Time → ℕ → Bool
tick_pends t n =
    timer_pends t.systick n
    || list_any (λ e. pends e.what n) (events_at (t.ticks + 1) t.script)

-- time at the start
abbrev pub start_time : List ScriptedEvent → Time
start_time script = record {
  ticks = 0;
  systick = reset_systick;
  high = replicate MAX_INTERRUPTS false;
  script = script;
}

-- Not used by a step, but by the contracts of the crates nvic and clock: the rest of this file

-- these eight words hold exactly the exceptions for which the test holds
abbrev pub IsSetOf : List ℕ → (ℕ → Bool) → Type 0
IsSetOf words test = (n : ℕ) → n < 256 → is_in_words words n ≡ test n

-- When something is due

-- a tick that never comes
abbrev pub never : ℕ
never = last_tick + 1

-- the tick at which SYST_CVR will go from 1 to 0, if no register is written before
abbrev pub timer_due : ℕ → SysTick → ℕ
timer_due ticks t =
    if t.enable
    then (if t.current == 0 then (if t.reload == 0 then never else ticks + t.reload + 1) else ticks + t.current)
    else never

-- the tick of the script's first event, or `never`
abbrev pub script_due : List ScriptedEvent → ℕ
script_due [] = never
script_due (e ∷ events) = e.at

-- the earlier of SysTick's next 0 and the tick `event` of the script's next event, but no later than `never`
abbrev pub next_due : ℕ → SysTick → ℕ → ℕ
next_due ticks t event = min never (min (timer_due ticks t) event)

-- the next tick at which SysTick reaches 0 or an event applies
abbrev pub due_of : Time → ℕ
due_of t = next_due t.ticks t.systick (script_due t.script)

-- time after a tick at which nothing is due: the clock goes on, SYST_CVR counts, and nothing else changes
abbrev pub passed : Time → Time
passed t = record t { ticks = t.ticks + 1; systick = record t.systick { current = next_current t.systick } }
