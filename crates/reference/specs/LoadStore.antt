-- Loads and stores of one register (ARM DDI 0403, MemU[], and the operation of LDR, STR and their forms of a byte and
-- of a halfword): the address, the accesses, and the use of the values read.
use Rattle.std.specs.Prelude.{ℕ, ◌+◌, ◌*◌, ◌%◌, ◌^◌, Bool, not, ◌&&◌, ◌==◌, if◌then◌else◌, List, [], ◌∷◌, Result, Ok}
use Rattle.std.specs.Prelude.{Err}
use Rattle.std.specs.List.{list_any}
use Rattle.instruction_set.specs.declared.instruction.InstructionLength.{InstructionLength}
use Rattle.instruction_set.specs.declared.load_store.LoadStore.{LoadStore}
use Rattle.instruction_set.specs.declared.load_store.LoadStore.TheVariants.{LoadImmediate, LoadRegister, LoadLiteral}
use Rattle.instruction_set.specs.declared.load_store.LoadStore.TheVariants.{StoreImmediate, StoreRegister}
use Rattle.instruction_set.specs.declared.load_store.ImmediateAddress.{ImmediateAddress}
use Rattle.instruction_set.specs.declared.load_store.Indexing.{Indexing}
use Rattle.instruction_set.specs.declared.load_store.Indexing.TheVariants.{Offset, PreIndexed, PostIndexed}
use Rattle.instruction_set.specs.declared.load_store.LoadForm.{LoadForm}
use Rattle.instruction_set.specs.declared.load_store.RegisterAddress.{RegisterAddress}
use Rattle.instruction_set.specs.declared.shift.ShiftType.TheVariants.{Lsl}
use Rattle.instruction_set.specs.declared.size.Size.{Size}
use Rattle.instruction_set.specs.declared.size.Size.TheVariants.{Byte, Halfword, Word}
use Rattle.instruction_set.specs.declared.unpredictable.UnpredictableCase.TheVariants.{LoadPc}
use Rattle.instruction_set.specs.Arithmetic.{shift_c}
use Rattle.instruction_set.specs.Fields.{extended, width_of}
use Rattle.instruction_set.specs.Registers.{Registers, register, with_register, is_privileged}
use Rattle.instruction_set.specs.RowOperands.{writes_back}
use Rattle.instruction_set.specs.Sizes.{bytes_in}
use Rattle.instruction_set.specs.DataProcessing.{aligned_pc}
use Rattle.instruction_set.specs.Words.{word_sum}
use Rattle.platform.specs.declared.access.Kind.{Kind}
use Rattle.platform.specs.declared.access.Kind.TheVariants.{Fetch, Load, Store}
use Rattle.platform.specs.declared.access.Request.{Request}
use Rattle.reference.specs.declared.failure.Failure.{Failure}
use Rattle.reference.specs.declared.failure.Failure.TheVariants.{Usage, Stop}
use Rattle.reference.specs.declared.failure.Traps.{Traps}
use Rattle.reference.specs.declared.failure.UsageFault.TheVariants.{Unaligned}
use Rattle.platform.specs.declared.stop.Unsupported.TheVariants.{UnalignedDevice}
use Rattle.platform.specs.declared.stop.Stop.TheVariants.{OutOfProfile, Unpredictable}
use Rattle.platform.specs.Map.{has_side_effects}
use Rattle.platform.specs.Memory.{bytes_of}
use Rattle.reference.specs.ProgramCounter.{Finished, advances, loads_into}

-- ---- addresses

-- the sum of the base and the offset: offset_addr
abbrev pub offset_address : Registers → ImmediateAddress → ℕ
offset_address r a = word_sum (register r a.base) a.offset

-- the address of the access: the sum, but the base itself where the offset is added after the access
abbrev pub indexed_address : Indexing → ImmediateAddress → Registers → ℕ
indexed_address Offset a r = offset_address r a
indexed_address PreIndexed a r = offset_address r a
indexed_address PostIndexed a r = register r a.base

-- the address of an access by a base register and an immediate
abbrev pub immediate_address : ImmediateAddress → Registers → ℕ
immediate_address a r = indexed_address a.indexing a r

-- R[n] = offset_addr, where the base is written back
abbrev pub with_base : ImmediateAddress → Registers → Registers
with_base a r = if writes_back a.indexing then with_register r a.base (offset_address r a) else r

-- the address of an access by a base register and an index register: R[n] + LSL(R[m], shift_n)
abbrev pub register_address : RegisterAddress → Registers → ℕ
register_address a r = word_sum (register r a.base) (shift_c (register r a.index) Lsl a.shift r.flags.carry).0

-- the address of an access at the PC, rounded down to a word, and an offset: Align(PC, 4) + imm32
abbrev pub literal_address : ℕ → Registers → ℕ
literal_address offset r = word_sum (aligned_pc r) offset

-- ---- accesses

-- an access before it is decided; a load's value is 0
abbrev pub request : Kind → Bool → Size → ℕ → ℕ → Request
request kind privileged size address value =
    record { access = record { address = address; kind = kind; size = size; privileged = privileged }; value = value }

-- the fetch of a halfword
abbrev pub fetch_at : ℕ → Bool → Request
fetch_at address privileged = request Fetch privileged Halfword address 0

-- whether an address is a multiple of the size in bytes
abbrev pub is_aligned : Size → ℕ → Bool
is_aligned size address = address % bytes_in size == 0

-- bytes upward from an address, 2^32 - 1 being followed by 0
abbrev pub byte_requests : Kind → Bool → ℕ → List ℕ → List Request
byte_requests kind privileged address [] = []
byte_requests kind privileged address (byte ∷ bytes) =
    request kind privileged Byte address byte ∷ byte_requests kind privileged (word_sum address 1) bytes

-- whether one of the accesses is to where an access can have a side effect
abbrev pub meets_device : Bool → List Request → Bool
meets_device devices requests = list_any (λ q. has_side_effects devices q.access.address) requests

-- the byte accesses that an unaligned access makes, or its stop before the first, where one is to a device
-- (profile)
abbrev pub unaligned : Bool → List Request → Result (List Request) Failure
unaligned devices requests =
    if meets_device devices requests then Err (Stop (OutOfProfile UnalignedDevice)) else Ok requests

-- an unaligned access is UsageFault UNALIGNED where CCR.UNALIGN_TRP is set, and otherwise made byte by byte
abbrev pub unless_trapped : Traps → List Request → Result (List Request) Failure
unless_trapped traps requests = if traps.unaligned then Err (Usage Unaligned) else unaligned traps.devices requests

-- the list of accesses of a load or a store: MemU[]
unfoldable pub transfer : Traps → Kind → Bool → Size → ℕ → ℕ → Result (List Request) Failure
transfer traps kind privileged size address value =
    if is_aligned size address
    then Ok (request kind privileged size address value ∷ [])
    else unless_trapped traps (byte_requests kind privileged address (bytes_of (bytes_in size) value))

-- whether an access is made as by privileged code: MemU_unpriv[] never is
abbrev pub is_made_privileged : Bool → Registers → Bool
is_made_privileged unprivileged r = is_privileged r && not unprivileged

-- the list of accesses of a load to R[t]; one to the PC from an address that isn't a multiple of 4 is UNPREDICTABLE
unfoldable pub load : Traps → LoadForm → ℕ → Bool → ℕ → Result (List Request) Failure
load traps form t privileged address =
    if t == 15 && not (is_aligned Word address)
    then Err (Stop (Unpredictable LoadPc))
    else transfer traps Load privileged form.size address 0

-- ---- values

-- the number that was read: one value, or bytes, the lowest first
unfoldable pub joined : List ℕ → ℕ
joined [] = 0
joined (value ∷ values) = (value + 256 * joined values) % 2 ^ 32

-- what a load writes to its register: the number, extended with its sign or with zeros
unfoldable pub loaded_value : LoadForm → List ℕ → ℕ
loaded_value form values = extended form.signed (width_of form.size) (joined values)

-- ---- the family

-- the accesses of a load or store of one register
unfoldable pub load_store_requests : Traps → LoadStore → Registers → Result (List Request) Failure
load_store_requests traps (LoadImmediate o) r =
    load traps o.form o.target (is_made_privileged o.unprivileged r) (immediate_address o.address r)
load_store_requests traps (LoadRegister o) r =
    load traps o.form o.target (is_privileged r) (register_address o.address r)
load_store_requests traps (LoadLiteral o) r = load traps o.form o.target (is_privileged r) (literal_address o.offset r)
load_store_requests traps (StoreImmediate o) r =
    transfer traps Store (is_made_privileged o.unprivileged r) o.size (immediate_address o.address r)
    (register r o.target)
load_store_requests traps (StoreRegister o) r =
    transfer traps Store (is_privileged r) o.size (register_address o.address r) (register r o.target)

-- what such an instruction does with the values read
unfoldable pub load_store_effect : InstructionLength → LoadStore → Registers → List ℕ → Finished
load_store_effect length (LoadImmediate o) r values =
    loads_into length o.target (loaded_value o.form values) (with_base o.address r)
load_store_effect length (LoadRegister o) r values = loads_into length o.target (loaded_value o.form values) r
load_store_effect length (LoadLiteral o) r values = loads_into length o.target (loaded_value o.form values) r
load_store_effect length (StoreImmediate o) r values = advances length (with_base o.address r)
load_store_effect length (StoreRegister o) r values = advances length r
