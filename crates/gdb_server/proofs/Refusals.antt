-- A write that is refused, or that writes nothing, changes nothing. Of the registers that G writes one after another
-- the first one alone is refused: it asks for what the others ask for, and no register changes that.
use Rattle.std.proofs.Common.{◌≡◌, ◌==◌, ◌<◌, ◌+◌, ◌%◌, ℕ, zero, suc, Bool, true, false, not, ◌||◌, ◌&&◌}
use Rattle.std.proofs.Common.{List, [], ◌∷◌, Option, Some, None, Result, Ok, Err, is_some, length, nat_lt, refl, ap}
use Rattle.std.proofs.Common.{arith}
use Rattle.std.specs.Prelude.{⊤}
use Rattle.std.proofs.lemmas.Bool.{cond_both}
use Rattle.std.proofs.lemmas.Bool.Decides.{nat_tests}
use Rattle.gdb.specs.Targets.{altered_if, register_written}
use Rattle.gdb_server.specs.Replies.{bytes_in}
use Rattle.gdb_server.specs.declared.purposes.MachineChange.{MachineChange}
use Rattle.gdb_server.specs.declared.purposes.MachineChange.TheVariants as change
use Rattle.gdb_server.specs.Writes.{Written, after_place, are_there, block_written, done, later_unless, memory_written}
use Rattle.gdb_server.specs.Writes.{is_of_device, refused, register_after, registers_from}
use Rattle.gdb_server.specs.Writes.{registers_written, with_bytes, word_of, word_written, writes, written}
use Rattle.gdb_texts.specs.Bytes.{first_bytes}
use Rattle.gdb_texts.specs.Registers.{word_at, written_register}
use Rattle.instruction_set.specs.declared.system.SpecialRegister.{SpecialRegister}
use Rattle.instruction_set.specs.declared.system.SpecialRegister.TheVariants as special
use Rattle.instruction_set.specs.Registers.{Registers, is_handler, uses_psp, with_register}
use Rattle.instruction_set.specs.RowOperands.{special_of}
use Rattle.platform.specs.Map.{is_in_ppb}
use Rattle.platform.specs.SpecialRegisters.{with_special}
use Rattle.platform.specs.declared.error.PlaceError.{PlaceError}
use Rattle.platform.specs.declared.error.PlaceError.TheVariants.{NotAligned, NoSuchPlace, Stopped}
use Rattle.reference.specs.declared.place.Place.{Place}
use Rattle.reference.specs.declared.place.Place.TheVariants.{Reg, Special, Word}
use Rattle.reference.specs.Places.{altered}
use Rattle.reference.specs.State.{State}

-- the state t after a write to s, refused or not, of something or nothing
abbrev pub Unless : Bool → Option PlaceError → State → State → Type 0
Unless something (Some error) s t = t ≡ s
Unless true None s t = ⊤
Unless false None s t = t ≡ s

-- ---- one value

pub placed_unless : (s : State) (r : Result State PlaceError)
    → Unless true (after_place s r).refused s (after_place s r).state
placed_unless s (Ok after) = tt
placed_unless s (Err error) = refl

-- ---- registers, one after another

-- whether the machine refuses a register that isn't plain
abbrev IsBusy : State → Bool
IsBusy s = is_some s.stop || (is_some s.entry || is_handler s.registers)

register_mode : (r : Registers) (n v : ℕ) → is_handler (with_register r n v) ≡ is_handler r
register_mode r n v =
    let P = λ (q : Registers). is_handler q ≡ is_handler r in
    cond_both (n == 13) _ _ P (λ e. cond_both (uses_psp r) _ _ P (λ f. refl) (λ f. refl))
    (λ e. cond_both (n == 14) _ _ P (λ f. refl) (λ f. cond_both (n == 15) _ _ P (λ h. refl) (λ h. refl)))

special_mode : (r : Registers) (it : SpecialRegister) (v : ℕ) → is_handler (with_special r it v) ≡ is_handler r
unfolding with_special
special_mode r special.Apsr v = refl
special_mode r special.Iapsr v = refl
special_mode r special.Eapsr v = refl
special_mode r special.Xpsr v = refl
special_mode r special.Ipsr v = refl
special_mode r special.Epsr v = refl
special_mode r special.Iepsr v = refl
special_mode r special.Msp v = refl
special_mode r special.Psp v = refl
special_mode r special.Primask v = refl
special_mode r special.Basepri v = refl
special_mode r special.BasepriMax v = refl
special_mode r special.Faultmask v = refl
special_mode r special.Control v = refl

-- a value was taken, and the next one will be
abbrev Takes : Result State PlaceError → Type 0
Takes (Ok after) = IsBusy after ≡ false
Takes (Err error) = ⊥

stays_idle : (s : State) (r : Registers) → is_handler r ≡ is_handler s.registers → IsBusy s ≡ false
    → (is_some s.stop || (is_some s.entry || is_handler r)) ≡ false
stays_idle s r same idle = rw same idle

or_last : (a b c : Bool) → (a || b) ≡ false → (a || (not c && b)) ≡ false
or_last true b c is = is
or_last false true c is = absurd cc
or_last false false true is = is
or_last false false false is = is

takes_register : (s : State) (n v : ℕ) → nat_lt n 16 ≡ true → IsBusy s ≡ false → Takes (altered s (Reg n v))
unfolding altered
takes_register s n v there idle =
    let free : (is_some s.stop
    || (not (nat_lt n 13 || (n == 14)) && (is_some s.entry || is_handler s.registers))) ≡ false =
    or_last (is_some s.stop) (is_some s.entry || is_handler s.registers) (nat_lt n 13 || (n == 14)) idle in
    rw (there, free) (stays_idle s (with_register s.registers n v) (register_mode s.registers n v) idle)

takes_special : (s : State) (n v : ℕ) (it : SpecialRegister) → special_of n ≡ Some it → IsBusy s ≡ false
    → Takes (altered s (Special n v))
unfolding altered
takes_special s n v it is idle =
    rw (is, idle) (stays_idle s (with_special s.registers it v) (special_mode s.registers it v) idle)

none_left : (n : ℕ) (P : Type 0) → n < 23 → nat_lt n 16 ≡ false → (n == 16) ≡ false → (n == 17) ≡ false
    → (n == 18) ≡ false → (n == 19) ≡ false → (n == 20) ≡ false → (n == 21) ≡ false → (n == 22) ≡ false → P
none_left n P inside a b c d e f g h = absurd (grind (arith, nat_tests))

takes_number : (s : State) (n v : ℕ) → n < 23 → IsBusy s ≡ false → Takes (register_written s n v)
takes_number s n v inside idle =
    let P = λ (o : Option Place). Takes (altered_if s o) in
    cond_both (nat_lt n 16) _ _ P (λ a. takes_register s n v a idle)
    (λ a. cond_both (n == 16) _ _ P (λ b. takes_special s 3 v special.Xpsr refl idle)
    (λ b. cond_both (n == 17) _ _ P (λ c. takes_special s 8 v special.Msp refl idle)
    (λ c. cond_both (n == 18) _ _ P (λ d. takes_special s 9 v special.Psp refl idle)
    (λ d. cond_both (n == 19) _ _ P (λ e. takes_special s 16 v special.Primask refl idle)
    (λ e. cond_both (n == 20) _ _ P (λ f. takes_special s 17 v special.Basepri refl idle)
    (λ f. cond_both (n == 21) _ _ P (λ h. takes_special s 19 v special.Faultmask refl idle)
    (λ h. cond_both (n == 22) _ _ P (λ i. takes_special s 20 v special.Control refl idle)
    (λ i. none_left n (P None) inside a b c d e f h i))))))))

-- a machine that takes the first register takes all
abbrev AllTaken : Written → Type 0
AllTaken w = w.refused ≡ None

then_taken : (s : State) (r : Result State PlaceError) (later : State → Written) → Takes r
    → ((t : State) → IsBusy t ≡ false → AllTaken (later t))
    → AllTaken (later_unless (after_place s r).refused (after_place s r) (later (after_place s r).state))
then_taken s (Ok after) later idle others = others after idle
then_taken s (Err error) later never others = absurd never

register_number : (index : ℕ) → index < 23 → written_register index < 23
register_number index inside =
    cond_both (nat_lt index 7) _ _ (λ n. n < 23) (λ e. grind (arith, nat_tests)) (λ e. omega (arith, inside))

all_taken : (s : State) (digits : List ℕ) (index left : ℕ) → index + left ≡ 23 → IsBusy s ≡ false
    → AllTaken (registers_from s digits index left)
unfolding registers_from
all_taken s digits index zero count idle = refl
all_taken s digits index (suc left) count idle =
    let n = written_register index in
    let inside : index < 23 = omega (arith, count) in
    then_taken s (register_written s n (word_at digits n)) (λ t. registers_from t digits (index + 1) left)
    (takes_number s n (word_at digits n) (register_number index inside) idle)
    (λ t free. all_taken t digits (index + 1) left (omega (arith, count)) free)

-- and one that refuses the first takes none
first_refused : (s : State) (digits : List ℕ) → IsBusy s ≡ true → register_after s digits 0 ≡ refused s Stopped
unfolding altered
first_refused s digits busy = rw busy refl

none_taken : (s : State) (digits : List ℕ) → IsBusy s ≡ true → registers_written s digits ≡ refused s Stopped
unfolding registers_from
none_taken s digits busy =
    ap (λ (w : Written). later_unless w.refused w (registers_from w.state digits 1 22)) (first_refused s digits busy)

registers_by : (s : State) (digits : List ℕ) (busy : Bool) → IsBusy s ≡ busy
    → Unless true (registers_written s digits).refused s (registers_written s digits).state
registers_by s digits true is = rw (none_taken s digits is) refl
registers_by s digits false is = rw (all_taken s digits 0 23 refl is) tt

-- ---- bytes

abbrev LeavesUnless : Bool → State → Written → Type 0
LeavesUnless something s w = Unless something w.refused s w.state

nothing_unless : (something : Bool) (s : State) → LeavesUnless something s (done s)
nothing_unless true s = tt
nothing_unless false s = refl

block_unless : (s : State) (a : ℕ) (bytes : List ℕ) → LeavesUnless true s (block_written s a bytes)
block_unless s a bytes =
    cond_both (is_some s.stop) (refused s Stopped) (done (with_bytes s a bytes)) (LeavesUnless true s) (λ e. refl)
    (λ e. tt)

word_unless : (s : State) (a : ℕ) (bytes : List ℕ) → LeavesUnless true s (word_written s a bytes)
word_unless s a bytes =
    cond_both (not (is_in_ppb a || is_of_device s.bus a)) (refused s NoSuchPlace) _ (LeavesUnless true s) (λ e. refl)
    (λ e. cond_both (not (a % 4 == 0) || not (length bytes == 4)) (refused s NotAligned) _ (LeavesUnless true s)
    (λ f. refl) (λ f. placed_unless s (altered s (Word a (word_of bytes)))))

some_unless : (s : State) (a : ℕ) (bytes : List ℕ) → LeavesUnless true s (memory_written s a bytes)
some_unless s a bytes =
    cond_both (length bytes == 0) (done s) _ (LeavesUnless true s) (λ e. tt)
    (λ e. cond_both (are_there s.bus.memory a (length bytes)) (block_written s a bytes) (word_written s a bytes)
    (LeavesUnless true s) (λ f. block_unless s a bytes) (λ f. word_unless s a bytes))

bytes_unless : (s : State) (a : ℕ) (bytes : List ℕ) (something : Bool) → (something ≡ false → length bytes ≡ 0)
    → LeavesUnless something s (memory_written s a bytes)
bytes_unless s a bytes true none = some_unless s a bytes
bytes_unless s a bytes false none = rw (none refl) refl

-- ---- all of these

is_empty : (tail : List ℕ) → not (length tail == 0) ≡ false → tail ≡ []
is_empty [] e = refl
is_empty (x ∷ xs) e = absurd (let some : not (suc (length xs) == 0) ≡ false = e in grind (arith, nat_tests))

no_bytes : (tail : List ℕ) → tail ≡ [] → length (bytes_in tail) ≡ 0
unfolding first_bytes
no_bytes tail e = ap (λ (t : List ℕ). length (bytes_in t)) e

pub written_unless : (s : State) (c : MachineChange) (tail : List ℕ)
    → Unless (writes c tail) (written s c tail).refused s (written s c tail).state
written_unless s (change.Register n) tail = placed_unless s (register_written s n (word_at tail 0))
written_unless s change.Registers tail = registers_by s tail (IsBusy s) refl
written_unless s (change.Digits a) tail =
    bytes_unless s a (bytes_in tail) (not (length tail == 0)) (λ e. no_bytes tail (is_empty tail e))
written_unless s (change.Bytes a) tail =
    bytes_unless s a tail (not (length tail == 0)) (λ e. ap length (is_empty tail e))
