-- Loads and stores of several registers (ARM DDI 0403, the operation of LDM, LDMDB, STM, STMDB, PUSH, POP, LDRD and
-- STRD): each access is of a word, and they go upward from the lowest address.
use Rattle.std.specs.Prelude.{ℕ, ◌*◌, Bool, if◌then◌else◌, List, [], ◌∷◌, length, drop, slice_index, Result, Ok, Err}
use Rattle.std.specs.Int.RustNames.{count_ones}
use Rattle.std.specs.List.{filter, range_with_len}
use Rattle.instruction_set.specs.declared.instruction.InstructionLength.{InstructionLength}
use Rattle.instruction_set.specs.declared.load_store.LoadStoreMultiple.{LoadStoreMultiple}
use Rattle.instruction_set.specs.declared.load_store.LoadStoreMultiple.TheVariants as family
use Rattle.instruction_set.specs.declared.load_store.ListOrder.{ListOrder}
use Rattle.instruction_set.specs.declared.load_store.ListOrder.TheVariants.{IncrementAfter, DecrementBefore}
use Rattle.instruction_set.specs.declared.load_store.LoadDualLiteral.{LoadDualLiteral}
use Rattle.instruction_set.specs.declared.load_store.LoadMultiple.{LoadMultiple}
use Rattle.instruction_set.specs.declared.size.Size.TheVariants.{Word}
use Rattle.instruction_set.specs.declared.unpredictable.UnpredictableCase.TheVariants.{LiteralPc}
use Rattle.instruction_set.specs.Registers.{Registers, register, with_register, is_privileged}
use Rattle.instruction_set.specs.Words.{word_sum, negated, is_bit}
use Rattle.platform.specs.declared.access.Kind.{Kind}
use Rattle.platform.specs.declared.access.Kind.TheVariants.{Load, Store}
use Rattle.platform.specs.declared.access.Request.{Request}
use Rattle.reference.specs.declared.failure.Failure.{Failure}
use Rattle.reference.specs.declared.failure.Failure.TheVariants.{Usage, Stop}
use Rattle.reference.specs.declared.failure.UsageFault.TheVariants.{Unaligned}
use Rattle.platform.specs.declared.stop.Stop.TheVariants.{Unpredictable}
use Rattle.platform.specs.Kinds.{is_store}
use Rattle.reference.specs.LoadStore.{request, is_aligned, immediate_address, with_base}
use Rattle.reference.specs.ProgramCounter.{Finished, exchanges, advances}

-- ---- lists

-- the registers of a list that have a number below `top`, the lowest first
unfoldable pub registers_below : ℕ → ℕ → List ℕ
registers_below top list = filter (λ n. is_bit list n) (range_with_len 0 top)

-- all registers of a list
abbrev pub registers_of : ℕ → List ℕ
registers_of list = registers_below 16 list

-- how many bytes they take: 4 * BitCount(registers)
abbrev pub bytes_of_list : ℕ → ℕ
bytes_of_list list = 4 * count_ones list

-- the lowest address of a list at a base
abbrev pub lowest_address : ListOrder → ℕ → ℕ → ℕ
lowest_address IncrementAfter list base = base
lowest_address DecrementBefore list base = word_sum base (negated (bytes_of_list list))

-- the base after the instruction
abbrev pub moved_base : ListOrder → ℕ → ℕ → ℕ
moved_base IncrementAfter list base = word_sum base (bytes_of_list list)
moved_base DecrementBefore list base = word_sum base (negated (bytes_of_list list))

-- the base is written back, where the row does so
abbrev pub with_moved_base : Bool → ℕ → ListOrder → ℕ → Registers → Registers
with_moved_base writes n order list r =
    if writes then with_register r n (moved_base order list (register r n)) else r

-- ---- accesses

-- the value written: the register for a store, 0 for a load
abbrev pub written_word : Kind → ℕ → Registers → ℕ
written_word kind n r = if is_store kind then register r n else 0

-- the access for register n
abbrev pub word_request : Kind → ℕ → ℕ → Registers → Request
word_request kind address n r = request kind (is_privileged r) Word address (written_word kind n r)

-- a word for each register, upward from an address, 2^32 - 1 being followed by 0
unfoldable pub word_requests : Kind → ℕ → List ℕ → Registers → List Request
word_requests kind address [] r = []
word_requests kind address (n ∷ ns) r = word_request kind address n r ∷ word_requests kind (word_sum address 4) ns r

-- the accesses of several registers, or of the two of LDRD and STRD: MemA[] of an address that isn't a multiple of 4 is
-- UsageFault UNALIGNED, whatever CCR.UNALIGN_TRP is
unfoldable pub several : Kind → List ℕ → ℕ → Registers → Result (List Request) Failure
several kind registers address r =
    if is_aligned Word address then Ok (word_requests kind address registers r) else Err (Usage Unaligned)

-- LDRD (literal): UNPREDICTABLE where the PC, as the instruction reads it, isn't a multiple of 4
abbrev pub load_dual_literal : LoadDualLiteral → Registers → Result (List Request) Failure
load_dual_literal o r =
    if is_aligned Word (register r 15)
    then several Load (o.first ∷ o.second ∷ []) (word_sum (register r 15) o.offset) r
    else Err (Stop (Unpredictable LiteralPc))

-- ---- values

-- each register, in order, gets the value that its own access read
unfoldable pub loaded : List ℕ → List ℕ → Registers → Registers
loaded [] values r = r
loaded (n ∷ ns) values r = loaded ns (drop 1 values) (with_register r n (slice_index values 0))

-- the base is written back, then R0 to LR are loaded. The manual's LDM writes the base last, with the same result,
-- since no row writes back a base that is in its list. Where the value for the PC begins a return from an exception,
-- all these registers are written before the return begins (profile)
abbrev pub loaded_below_pc : LoadMultiple → List ℕ → Registers → Registers
loaded_below_pc o values r =
    loaded (registers_below 15 o.list) values (with_moved_base o.write_back o.base o.order o.list r)

-- LDM, LDMDB and POP: at last a value for the PC, LoadWritePC(MemA[address, 4])
unfoldable pub load_multiple : InstructionLength → LoadMultiple → List ℕ → Registers → Finished
load_multiple bytes o values r =
    if is_bit o.list 15
    then exchanges (slice_index values (length (registers_below 15 o.list))) (loaded_below_pc o values r)
    else advances bytes (loaded_below_pc o values r)

-- ---- the family

-- the accesses of a load or store of several registers. LoadDual is LDRD (immediate), LoadDualLiteral is LDRD
-- (literal), and StoreDual is STRD. LoadMultiple is LDM, LDMDB and POP; StoreMultiple is STM, STMDB and PUSH
unfoldable pub load_store_multiple_requests : LoadStoreMultiple → Registers → Result (List Request) Failure
load_store_multiple_requests (family.LoadDual o) r =
    several Load (o.first ∷ o.second ∷ []) (immediate_address o.address r) r
load_store_multiple_requests (family.LoadDualLiteral o) r = load_dual_literal o r
load_store_multiple_requests (family.StoreDual o) r =
    several Store (o.first ∷ o.second ∷ []) (immediate_address o.address r) r
load_store_multiple_requests (family.LoadMultiple o) r =
    several Load (registers_of o.list) (lowest_address o.order o.list (register r o.base)) r
load_store_multiple_requests (family.StoreMultiple o) r =
    several Store (registers_of o.list) (lowest_address o.order o.list (register r o.base)) r

-- what such an instruction does with the values read
unfoldable pub load_store_multiple_effect : InstructionLength → LoadStoreMultiple → Registers → List ℕ → Finished
load_store_multiple_effect length (family.LoadDual o) r values =
    advances length (loaded (o.first ∷ o.second ∷ []) values (with_base o.address r))
load_store_multiple_effect length (family.LoadDualLiteral o) r values =
    advances length (loaded (o.first ∷ o.second ∷ []) values r)
load_store_multiple_effect length (family.StoreDual o) r values = advances length (with_base o.address r)
load_store_multiple_effect length (family.LoadMultiple o) r values = load_multiple length o values r
load_store_multiple_effect length (family.StoreMultiple o) r values =
    advances length (with_moved_base o.write_back o.base o.order o.list r)
