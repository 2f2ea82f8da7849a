-- What is written keeps the sizes of memory and the devices.
use Rattle.std.proofs.Common.{◌+◌, ◌*◌, ◌/◌, ◌%◌, ◌==◌, ◌||◌, ℕ, zero, suc, not}
use Rattle.std.proofs.Common.{List, [], ◌∷◌, length, is_some, Option, Some, None, Result, Ok, Err}
use Rattle.std.proofs.lemmas.Bool.{cond_both}
use Rattle.gdb.specs.Targets.{altered_if, place_of}
use Rattle.gdb_past.proofs.Following.{board_alike, same_refl, same_trans}
use Rattle.gdb_past.specs.Places.{AreOfOneMachine}
use Rattle.gdb_server.specs.Replies.{bytes_in}
use Rattle.gdb_server.specs.declared.purposes.MachineChange.{MachineChange}
use Rattle.gdb_server.specs.declared.purposes.MachineChange.TheVariants as change
use Rattle.gdb_server.specs.Writes.{Written, after_place, are_there, block_written, done, later_unless, memory_written}
use Rattle.gdb_server.specs.Writes.{is_of_device, one_register, refused, register_after, registers_from, with_byte}
use Rattle.gdb_server.specs.Writes.{with_bytes, word_beside, word_of, word_written, written}
use Rattle.gdb_texts.specs.Registers.{word_at, written_register}
use Rattle.platform.specs.Map.{is_in_ppb}
use Rattle.platform.specs.declared.error.PlaceError.{PlaceError}
use Rattle.platform.specs.declared.error.PlaceError.TheVariants.{NotAligned, NoSuchPlace, Stopped}
use Rattle.reference.specs.declared.place.Place.{Place}
use Rattle.reference.specs.declared.place.Place.TheVariants.{Word}
use Rattle.reference.specs.Places.{altered}
use Rattle.reference.specs.State.{State}
use Rattle.step_laws.proofs.Sizes.{alter_board}
use Rattle.step_laws.specs.SizeLaw.{KeepsBoard}

-- the state after a write is one of the same machine
abbrev Stays : State → Written → Type 0
Stays s w = AreOfOneMachine s w.state

placed_stays : (s : State) (r : Result State PlaceError) → KeepsBoard s r → Stays s (after_place s r)
placed_stays s (Ok after) h = board_alike s after h
placed_stays s (Err why) h = same_refl s

altered_keeps : (s : State) (place : Option Place) → KeepsBoard s (altered_if s place)
altered_keeps s None = tt
altered_keeps s (Some place) = alter_board s place

pub put_stays : (s : State) (place : Option Place) → Stays s (after_place s (altered_if s place))
put_stays s place = placed_stays s (altered_if s place) (altered_keeps s place)

register_stays : (s : State) (number value : ℕ) → Stays s (one_register s number value)
register_stays s number value = put_stays s (place_of number value)

later_stays : (s : State) (o : Option PlaceError) (w later : Written) → Stays s w → Stays s later
    → Stays s (later_unless o w later)
later_stays s None w later h i = i
later_stays s (Some error) w later h i = h

registers_stay : (s : State) (digits : List ℕ) (index left : ℕ) → Stays s (registers_from s digits index left)
unfolding registers_from
registers_stay s digits index zero = same_refl s
registers_stay s digits index (suc left) =
    let w : Written = register_after s digits index in
    let first : Stays s w = register_stays s (written_register index) (word_at digits (written_register index)) in
    later_stays s w.refused w _ first
    (same_trans s w.state (registers_from w.state digits (index + 1) left).state first
    (registers_stay w.state digits (index + 1) left))

byte_stays : (s : State) (a byte : ℕ) → AreOfOneMachine s (with_byte s a byte)
byte_stays s a byte =
    let place : Place = Word (a / 4 * 4) (word_beside s.bus.memory a byte) in
    placed_stays s (altered s place) (alter_board s place)

bytes_stay : (s : State) (a : ℕ) (bytes : List ℕ) → AreOfOneMachine s (with_bytes s a bytes)
unfolding with_bytes
bytes_stay s a [] = same_refl s
bytes_stay s a (byte ∷ bytes) =
    same_trans s (with_byte s a byte) (with_bytes (with_byte s a byte) (a + 1) bytes) (byte_stays s a byte)
    (bytes_stay (with_byte s a byte) (a + 1) bytes)

block_stays : (s : State) (a : ℕ) (bytes : List ℕ) → Stays s (block_written s a bytes)
block_stays s a bytes =
    cond_both (is_some s.stop) (refused s Stopped) (done (with_bytes s a bytes)) (Stays s) (λ e. same_refl s)
    (λ e. bytes_stay s a bytes)

word_stays : (s : State) (a : ℕ) (bytes : List ℕ) → Stays s (word_written s a bytes)
word_stays s a bytes =
    cond_both (not (is_in_ppb a || is_of_device s.bus a)) (refused s NoSuchPlace) _ (Stays s) (λ e. same_refl s)
    (λ e. cond_both (not (a % 4 == 0) || not (length bytes == 4)) (refused s NotAligned) _ (Stays s) (λ f. same_refl s)
    (λ f. placed_stays s (altered s (Word a (word_of bytes))) (alter_board s (Word a (word_of bytes)))))

memory_stays : (s : State) (a : ℕ) (bytes : List ℕ) → Stays s (memory_written s a bytes)
memory_stays s a bytes =
    cond_both (length bytes == 0) (done s) _ (Stays s) (λ e. same_refl s)
    (λ e. cond_both (are_there s.bus.memory a (length bytes)) (block_written s a bytes) (word_written s a bytes)
    (Stays s) (λ f. block_stays s a bytes) (λ f. word_stays s a bytes))

pub written_stays : (s : State) (change : MachineChange) (tail : List ℕ) → Stays s (written s change tail)
written_stays s (change.Register n) tail = register_stays s n (word_at tail 0)
written_stays s change.Registers tail = registers_stay s tail 0 23
written_stays s (change.Digits a) tail = memory_stays s a (bytes_in tail)
written_stays s (change.Bytes a) tail = memory_stays s a tail
