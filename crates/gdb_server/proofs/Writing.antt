-- Registers that are written one after another.
use Rattle.std.proofs.Common.{◌≡◌, ℕ, ◌+◌, ◌-◌, ◌<◌, suc, Bool, true, false, List, Option, Some, None, is_some}
use Rattle.std.proofs.Common.{refl, sym, ◌∙◌, ap, arith}
use Rattle.gdb_server.specs.Writes.{Writes, Written, later_unless, register_after, registers_from, registers_written}
use Rattle.machine.specs.MachineModel.{MachineModel}
use Rattle.platform.specs.declared.error.PlaceError.{PlaceError}
use Rattle.reference.specs.State.{State}

-- after a refusal there is nothing more
refused_now : (why : Option PlaceError) (w later : Written) → is_some why ≡ true → later_unless why w later ≡ w
refused_now None w later is = cc
refused_now (Some error) w later is = refl

taken_now : (why : Option PlaceError) (w later : Written) → is_some why ≡ false → later_unless why w later ≡ later
taken_now None w later is = refl
taken_now (Some error) w later is = cc

one_left : (index : ℕ) → index < 23 → 23 - index ≡ suc (23 - (index + 1))
one_left index inside = omega arith

-- a register is refused
register_ends : (s : State) (digits : List ℕ) (index : ℕ) → index < 23
    → is_some (register_after s digits index).refused ≡ true
    → registers_from s digits index (23 - index) ≡ register_after s digits index
unfolding registers_from
register_ends s digits index inside is =
    rw (one_left index inside) (refused_now (register_after s digits index).refused _ _ is)

-- a register is written, and then the others
register_on : (s : State) (digits : List ℕ) (index : ℕ) → index < 23
    → is_some (register_after s digits index).refused ≡ false
    → registers_from s digits index (23 - index)
    ≡ registers_from (register_after s digits index).state digits (index + 1) (23 - (index + 1))
unfolding registers_from
register_on s digits index inside is =
    rw (one_left index inside) (taken_now (register_after s digits index).refused _ _ is)

-- the same machine, but for its state
same_but : (old mid : MachineModel) (s : State) → mid.broken ≡ old.broken → record mid { state = s }
    ≡ record old { state = s }
same_but old mid s same = ap (λ (b : Bool). record { state = s; broken = b }) same

pub registers_end : (old mid new : MachineModel) (digits : List ℕ) (index : ℕ) (why : Option PlaceError) → index < 23
    → registers_from mid.state digits index (23 - index) ≡ registers_written old.state digits
    → mid.broken ≡ old.broken → Writes (register_after mid.state digits index) mid new why → is_some why ≡ true
    → Writes (registers_written old.state digits) old new why
registers_end old mid new digits index why inside left same wrote is =
    let refused : is_some (register_after mid.state digits index).refused ≡ true =
    ap (λ (o : Option PlaceError). is_some o) (sym wrote.1) ∙ is in
    let all : registers_written old.state digits ≡ register_after mid.state digits index =
    sym left ∙ register_ends mid.state digits index inside refused in
    rw all (wrote.0 ∙ same_but old mid (register_after mid.state digits index).state same, wrote.1)

pub registers_on : (old mid new : MachineModel) (digits : List ℕ) (index : ℕ) (why : Option PlaceError) → index < 23
    → registers_from mid.state digits index (23 - index) ≡ registers_written old.state digits
    → Writes (register_after mid.state digits index) mid new why → is_some why ≡ false
    → registers_from new.state digits (index + 1) (23 - (index + 1)) ≡ registers_written old.state digits
registers_on old mid new digits index why inside left wrote is =
    let taken : is_some (register_after mid.state digits index).refused ≡ false =
    ap (λ (o : Option PlaceError). is_some o) (sym wrote.1) ∙ is in
    let state : new.state ≡ (register_after mid.state digits index).state =
    ap (λ (m : MachineModel). m.state) wrote.0 in
    rw state (sym (register_on mid.state digits index inside taken) ∙ left)

pub registers_all : (old mid : MachineModel) (digits : List ℕ) (index : ℕ) → index ≡ 23
    → registers_from mid.state digits index (23 - index) ≡ registers_written old.state digits
    → mid.broken ≡ old.broken → Writes (registers_written old.state digits) old mid None
unfolding registers_from
registers_all old mid digits index all left same =
    let none : registers_from mid.state digits index 0 ≡ registers_written old.state digits =
    rw all at left in
    rw (← none) (same_but old mid mid.state same, refl)
