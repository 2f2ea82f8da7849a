-- What nothing watches: no access hits a watchpoint, and no instruction has a breakpoint.
use Rattle.std.proofs.Common.{◌≡◌, ◌==◌, List, [], ◌∷◌, length, Option, Some, None, Bool, true, false, is_some}
use Rattle.std.proofs.Common.{refl, ap, arith}
use Rattle.std.specs.List.{find}
use Rattle.std.proofs.lemmas.Bool.Decides.{nat_tests}
use Rattle.gdb.specs.Reasons.{event_hit, first_hit, hit_by_access, reason_at_breakpoint, watch_reason}
use Rattle.gdb_texts.specs.declared.points.Breakpoint.{Breakpoint}
use Rattle.gdb_texts.specs.declared.points.WatchKind.{WatchKind}
use Rattle.gdb_texts.specs.declared.watchpoints.Watchpoint.{Watchpoint}
use Rattle.gdb_texts.specs.Watchpoints.{hit_by, hit_of, watches, watches_kind}
use Rattle.platform.specs.declared.access.Access.{Access}
use Rattle.platform.specs.declared.access.DecidedAccess.{DecidedAccess}
use Rattle.platform.specs.declared.access.Kind.{Kind}
use Rattle.platform.specs.declared.access.Kind.TheVariants.{Fetch, Probe}
use Rattle.platform.specs.declared.event.Event.{Event}
use Rattle.platform.specs.Events.{access_of}
use Rattle.reference.specs.State.{State}

-- no access hits a watchpoint where there is none
none_of : (a : DecidedAccess) (b : Bool) → is_some a.refused ≡ b → hit_by_access [] (Some a) ≡ None
none_of a true is = rw is refl
none_of a false is = rw is refl

none_by : (o : Option DecidedAccess) → hit_by_access [] o ≡ None
none_by None = refl
none_by (Some a) = none_of a (is_some a.refused) refl

-- without watchpoints nothing is hit
pub none_hit : (events : List Event) → first_hit [] events ≡ None
unfolding first_hit
none_hit [] = refl
none_hit (e ∷ es) = (let is : event_hit [] e.what ≡ None = none_by (access_of e.what) in rw is (none_hit es))

pub none_watched : (watchpoints : List Watchpoint) (events : List Event) → (length watchpoints == 0) ≡ true
    → watch_reason (first_hit watchpoints events) ≡ None
none_watched [] events empty = ap watch_reason (none_hit events)
none_watched (w ∷ ws) events empty =
    let none : length (w ∷ ws) ≡ 0 = grind (arith, nat_tests) in
    absurd (omega arith)

-- a kind of access that no watchpoint is for hits none
none_for : (ws : List Watchpoint) (a : Access) → ((w : WatchKind) → watches_kind w a.kind ≡ false)
    → find (λ w. watches w a) ws ≡ None
none_for [] a none = refl
none_for (w ∷ ws) a none = rw (none w.kind) (none_for ws a none)

pub fetch_hits_none : (ws : List Watchpoint) (a : Access) → a.kind ≡ Fetch → hit_of ws a ≡ None
fetch_hits_none ws a is =
    ap (λ o. hit_by a o) (none_for ws a (λ (w : WatchKind). ap (λ (k : Kind). watches_kind w k) is))

pub probe_hits_none : (ws : List Watchpoint) (a : Access) → a.kind ≡ Probe → hit_of ws a ≡ None
probe_hits_none ws a is =
    ap (λ o. hit_by a o) (none_for ws a (λ (w : WatchKind). ap (λ (k : Kind). watches_kind w k) is))

-- without breakpoints there is none at the next instruction
pub no_breakpoint : (points : List Breakpoint) (s : State) → (length points == 0) ≡ true
    → reason_at_breakpoint points s ≡ None
no_breakpoint [] s empty = refl
no_breakpoint (p ∷ ps) s empty =
    let none : length (p ∷ ps) ≡ 0 = grind (arith, nat_tests) in
    absurd (omega arith)
