-- Watchpoints (GDB manual, "Packets", z2 to z4).
use Rattle.std.specs.Prelude.{ℕ, ◌+◌, max, nat_lt, Bool, true, false, ◌&&◌, ◌||◌, ◌==◌, if◌then◌else◌, List, [], ◌∷◌}
use Rattle.std.specs.Prelude.{◌++◌, length, position, remove, Option, Some, None}
use Rattle.std.specs.List.{find, list_any}
use Rattle.instruction_set.specs.Sizes.{bytes_in}
use Rattle.platform.specs.declared.access.Access.{Access}
use Rattle.platform.specs.declared.access.Kind.{Kind}
use Rattle.platform.specs.declared.access.Kind.TheVariants as access
use Rattle.gdb_texts.specs.declared.points.WatchKind.{WatchKind}
use Rattle.gdb_texts.specs.declared.points.WatchKind.TheVariants as watch
use Rattle.gdb_texts.specs.declared.replies.ErrorCode.TheVariants.{NoRoom}
use Rattle.gdb_texts.specs.declared.replies.Reply.{Reply}
use Rattle.gdb_texts.specs.declared.replies.Reply.TheVariants.{Done, Error}
use Rattle.gdb_texts.specs.declared.watchpoints.WatchHit.{WatchHit}
use Rattle.gdb_texts.specs.declared.watchpoints.Watchpoint.{Watchpoint}

-- the most watchpoints (profile)
abbrev pub max_watchpoints : ℕ
max_watchpoints = 16

abbrev pub is_same_kind : WatchKind → WatchKind → Bool
is_same_kind watch.Write watch.Write = true
is_same_kind watch.Write watch.Read = false
is_same_kind watch.Write watch.Access = false
is_same_kind watch.Read watch.Write = false
is_same_kind watch.Read watch.Read = true
is_same_kind watch.Read watch.Access = false
is_same_kind watch.Access watch.Write = false
is_same_kind watch.Access watch.Read = false
is_same_kind watch.Access watch.Access = true

abbrev pub is_same : Watchpoint → Watchpoint → Bool
is_same w other = is_same_kind w.kind other.kind && (w.address == other.address && w.length == other.length)

abbrev pub is_set : List Watchpoint → Watchpoint → Bool
is_set watchpoints w = list_any (λ other. is_same w other) watchpoints

-- the watchpoints with one more, where it isn't set and there is room for it
abbrev pub with_watchpoint : List Watchpoint → Watchpoint → List Watchpoint
with_watchpoint watchpoints w =
    if is_set watchpoints w then watchpoints
    else if nat_lt (length watchpoints) max_watchpoints then watchpoints ++ w ∷ []
    else watchpoints

-- the reply to Z2, Z3 and Z4
abbrev pub insertion : List Watchpoint → Watchpoint → Reply
insertion watchpoints w =
    if is_set watchpoints w || nat_lt (length watchpoints) max_watchpoints then Done else Error NoRoom

abbrev pub without_at : List Watchpoint → Option ℕ → List Watchpoint
without_at watchpoints None = watchpoints
without_at watchpoints (Some index) = remove watchpoints index

-- the watchpoints without one, where it is set
abbrev pub without_watchpoint : List Watchpoint → Watchpoint → List Watchpoint
without_watchpoint watchpoints w = without_at watchpoints (position (λ other. is_same w other) watchpoints)

-- ---- accesses: writes are stores and pushes; reads are loads, pops and vector reads (profile)

abbrev pub writes : WatchKind → Bool
writes watch.Write = true
writes watch.Read = false
writes watch.Access = true

abbrev pub reads : WatchKind → Bool
reads watch.Write = false
reads watch.Read = true
reads watch.Access = true

abbrev pub watches_kind : WatchKind → Kind → Bool
watches_kind w access.Fetch = false
watches_kind w access.Load = reads w
watches_kind w access.Store = writes w
watches_kind w access.Push = writes w
watches_kind w access.Pop = reads w
watches_kind w access.Vector = reads w
watches_kind w access.Probe = false

-- an access and a watchpoint have a byte in common
abbrev pub shares_byte : Watchpoint → Access → Bool
shares_byte w a = nat_lt a.address (w.address + w.length) && nat_lt w.address (a.address + bytes_in a.size)

abbrev pub watches : Watchpoint → Access → Bool
watches w a = watches_kind w.kind a.kind && shares_byte w a

-- the kind of a watchpoint, and the first byte that it has in common with an access
abbrev pub hit_by : Access → Option Watchpoint → Option WatchHit
hit_by a None = None
hit_by a (Some w) = Some (record { kind = w.kind; address = max w.address a.address })

-- what a granted access hits: the first watchpoint set that watches it
abbrev pub hit_of : List Watchpoint → Access → Option WatchHit
hit_of watchpoints a = hit_by a (find (λ w. watches w a) watchpoints)
