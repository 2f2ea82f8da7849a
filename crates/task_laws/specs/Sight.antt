-- What a task sees and what it may change, by the decision on its accesses, and when two states look the same to it.
use Rattle.std.specs.Prelude.{◌≡◌, ℕ, Bool, false, not, ◌||◌}
use Rattle.platform.specs.declared.access.Kind.{Kind}
use Rattle.platform.specs.declared.access.Kind.TheVariants.{Fetch, Load, Store}
use Rattle.platform.specs.Memory.{Agree, Memory}
use Rattle.platform.specs.Priorities.{is_below_zero}
use Rattle.platform.specs.Regions.{Mpu}
use Rattle.platform.specs.Rules.{decision_of}
use Rattle.reference.specs.State.{State}

-- ---- what the decision grants

-- whether the decision grants unprivileged code an access of a kind at an address, by the registers of the MPU and by
-- whether the execution priority is below 0
abbrev pub may : Mpu → Bool → Kind → ℕ → Bool
may m below_zero kind a = (decision_of m a kind false below_zero).granted

-- whether it grants a load or a fetch
abbrev pub sees : Mpu → Bool → ℕ → Bool
sees m below_zero a = may m below_zero Load a || may m below_zero Fetch a

-- whether it does in a state
abbrev pub is_seen : State → ℕ → Bool
is_seen s a = sees s.bus.system.mpu (is_below_zero s.bus.system.nvic) a

-- whether the decision denies unprivileged code a store at an address, in a state
abbrev pub denies_store : State → ℕ → Bool
denies_store s a = not (may s.bus.system.mpu (is_below_zero s.bus.system.nvic) Store a)

-- ---- two states that look the same

-- a state with another memory
abbrev pub with_memory : State → Memory → State
with_memory s m = record s { bus = record s.bus { memory = m } }

-- two states agree in everything but bytes that aren't seen
pub record AgreeBut (seen : ℕ → Bool) (s t : State) : Type 0 where
  pub memory : Agree seen s.bus.memory t.bus.memory
  pub rest : t ≡ with_memory s t.bus.memory

-- two states look the same to a task: they agree in everything but bytes of which the decision denies an unprivileged
-- load and an unprivileged fetch
abbrev pub Same : State → State → Type 0
Same s t = AgreeBut (is_seen s) s t

-- ---- what a task may not change

-- a memory became another one, and has the byte that it had wherever the decision in a state denies an unprivileged
-- store
abbrev pub KeepsDenied : State → Memory → Memory → Type 0
KeepsDenied s old new = Agree (denies_store s) old new
