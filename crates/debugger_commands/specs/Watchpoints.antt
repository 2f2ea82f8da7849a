-- The watchpoints of a session (profile).
use Rattle.std.specs.Prelude.{ℕ, ◌+◌, nat_lt, Bool, false, ◌&&◌, ◌||◌, ◌==◌, if◌then◌else◌, List, [], ◌∷◌, ◌++◌}
use Rattle.std.specs.Prelude.{length, codes, Option}
use Rattle.std.specs.Bool.{beq}
use Rattle.std.specs.List.{list_any, position}
use Rattle.debugger_commands.specs.declared.watchpoints.Watchpoint.{Watchpoint}
use Rattle.instruction_set.specs.Sizes.{bytes_in}
use Rattle.platform.specs.declared.access.Access.{Access}
use Rattle.platform.specs.declared.access.Kind.{Kind}
use Rattle.platform.specs.declared.access.Kind.TheVariants as kind
use Rattle.platform.specs.Text.{line_feed}

-- how many watchpoints can be set at most
abbrev pub max_watchpoints : ℕ
max_watchpoints = 16

abbrev pub is_same : Watchpoint → Watchpoint → Bool
is_same w other =
    (beq w.reads other.reads && beq w.writes other.writes) && ((w.address == other.address) && (w.size == other.size))

abbrev pub is_set : List Watchpoint → Watchpoint → Bool
is_set watchpoints w = list_any (λ other. is_same w other) watchpoints

-- the watchpoints with one more, where there is room for it
abbrev pub with_watchpoint : List Watchpoint → Watchpoint → List Watchpoint
with_watchpoint watchpoints w =
    if is_set watchpoints w then watchpoints
    else if nat_lt (length watchpoints) max_watchpoints then watchpoints ++ w ∷ []
    else watchpoints

abbrev pub watchpoint_text : List Watchpoint → Watchpoint → List ℕ
watchpoint_text watchpoints w =
    if is_set watchpoints w || nat_lt (length watchpoints) max_watchpoints then codes "ok" ++ line_feed
    else codes "error 3" ++ line_feed

-- reads are loads, pops and vector reads; writes are stores and pushes
abbrev pub watches_kind : Watchpoint → Kind → Bool
watches_kind w kind.Fetch = false
watches_kind w kind.Load = w.reads
watches_kind w kind.Store = w.writes
watches_kind w kind.Push = w.writes
watches_kind w kind.Pop = w.reads
watches_kind w kind.Vector = w.reads
watches_kind w kind.Probe = false

-- an access and a watchpoint have a byte in common
abbrev pub shares_byte : Watchpoint → Access → Bool
shares_byte w a = nat_lt a.address (w.address + w.size) && nat_lt w.address (a.address + bytes_in a.size)

abbrev pub watches : Watchpoint → Access → Bool
watches w a = watches_kind w a.kind && shares_byte w a

-- the number of the watchpoint that an access meets: the first one set
abbrev pub met : List Watchpoint → Access → Option ℕ
met watchpoints a = position (λ w. watches w a) watchpoints
