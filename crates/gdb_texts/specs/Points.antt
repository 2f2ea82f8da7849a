-- Breakpoints (GDB manual, "Packets", z0 to z4).
use Rattle.std.specs.Prelude.{ℕ, nat_lt, Bool, true, false, ◌&&◌, ◌||◌, ◌==◌, if◌then◌else◌, List, [], ◌∷◌, ◌++◌}
use Rattle.std.specs.Prelude.{length, position, remove, Option, Some, None}
use Rattle.std.specs.List.{list_any}
use Rattle.gdb_texts.specs.declared.points.Breakpoint.{Breakpoint}
use Rattle.gdb_texts.specs.declared.points.BreakpointKind.{BreakpointKind}
use Rattle.gdb_texts.specs.declared.points.BreakpointKind.TheVariants.{Software, Hardware}
use Rattle.gdb_texts.specs.declared.replies.ErrorCode.TheVariants.{NoRoom}
use Rattle.gdb_texts.specs.declared.replies.Reply.{Reply}
use Rattle.gdb_texts.specs.declared.replies.Reply.TheVariants.{Done, Error}

-- the most breakpoints, of both kinds together (profile)
abbrev pub max_breakpoints : ℕ
max_breakpoints = 64

abbrev pub is_same_kind : BreakpointKind → BreakpointKind → Bool
is_same_kind Software Software = true
is_same_kind Software Hardware = false
is_same_kind Hardware Software = false
is_same_kind Hardware Hardware = true

abbrev pub is_same : Breakpoint → Breakpoint → Bool
is_same b other = is_same_kind b.kind other.kind && b.address == other.address

abbrev pub is_set : List Breakpoint → Breakpoint → Bool
is_set breakpoints b = list_any (λ other. is_same b other) breakpoints

-- the breakpoints with one more, where it isn't set and there is room for it
abbrev pub with_breakpoint : List Breakpoint → Breakpoint → List Breakpoint
with_breakpoint breakpoints b =
    if is_set breakpoints b then breakpoints
    else if nat_lt (length breakpoints) max_breakpoints then breakpoints ++ b ∷ []
    else breakpoints

-- the reply to Z. A breakpoint that is set is no error: GDB may send a packet again
abbrev pub insertion : List Breakpoint → Breakpoint → Reply
insertion breakpoints b =
    if is_set breakpoints b || nat_lt (length breakpoints) max_breakpoints then Done else Error NoRoom

abbrev pub without_at : List Breakpoint → Option ℕ → List Breakpoint
without_at breakpoints None = breakpoints
without_at breakpoints (Some index) = remove breakpoints index

-- the breakpoints without one, where it is set
abbrev pub without_breakpoint : List Breakpoint → Breakpoint → List Breakpoint
without_breakpoint breakpoints b = without_at breakpoints (position (λ other. is_same b other) breakpoints)

-- the kind of the breakpoint at an address: Software where both are set (profile)
abbrev pub kind_at : List Breakpoint → ℕ → Option BreakpointKind
kind_at breakpoints a =
    if is_set breakpoints (record { kind = Software; address = a }) then Some Software
    else if is_set breakpoints (record { kind = Hardware; address = a }) then Some Hardware
    else None
