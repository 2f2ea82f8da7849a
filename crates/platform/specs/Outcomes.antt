-- What became of an access: memory, the system registers, the bus and the MPU in front of it say it alike.
use Rattle.std.specs.Prelude.{◌≡◌, ℕ, ◌^◌, ◌<◌, ⊤, true, None, IfSome}
use Rattle.instruction_set.specs.Sizes.{bytes_in}
use Rattle.platform.specs.declared.access.Cause.TheVariants.{Bus}
use Rattle.platform.specs.declared.access.Performed.{Performed}
use Rattle.platform.specs.declared.access.Performed.TheVariants.{Done, Denied, Stop}
use Rattle.platform.specs.declared.access.Request.{Request}
use Rattle.platform.specs.declared.access.Rule.{Rule}
use Rattle.platform.specs.Kinds.{is_store}

-- what an access leaves, and what became of it
pub record Outcome (A : Type 0) : Type 0 where
  pub after : A
  pub performed : Performed

-- an access that leaves everything as it was
abbrev pub unchanged : {A : Type 0} → A → Performed → Outcome A
unchanged before performed = record { after = before; performed = performed }

-- the outcome of an access to a part, as one of the whole
abbrev pub within : {A B : Type 0} → (A → B) → Outcome A → Outcome B
within whole o = record { after = whole o.after; performed = o.performed }

-- done under a rule, with this value; nothing goes to the console
abbrev pub done : Rule → ℕ → Performed
done rule value = Done (record { rule = rule; value = value; sent = None })

-- granted by a rule, and refused by the bus
abbrev pub bus_error : Rule → Performed
bus_error rule = Denied rule Bus

-- a value that was read has no more bits than the access moves, and a store alone sends a byte to the console
abbrev pub IsOf : Request → Performed → Type 0
IsOf q (Done access) =
    (access.value < 256 ^ bytes_in q.access.size) × IfSome access.sent (λ byte. is_store q.access.kind ≡ true)
IsOf q (Denied rule cause) = ⊤
IsOf q (Stop why) = ⊤

-- an access that is refused, or stops the machine, changes nothing
abbrev pub LeavesUnlessDone : {A : Type 0} → Performed → A → A → Type 0
LeavesUnlessDone (Done access) old new = ⊤
LeavesUnlessDone (Denied rule cause) old new = new ≡ old
LeavesUnlessDone (Stop why) old new = new ≡ old
