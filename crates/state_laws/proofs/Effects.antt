-- What each write of a core register keeps, each instruction keeps.
--
-- - `KeepsWrites P` lists the writes of registers that there are, and that each keeps P. An instance proves these
--   alone.
-- - The lemmas follow `effect` from the leaves up: a PC that moves on or branches, a register with flags, then the
--   instructions of a family, then `effect_kept` for all.
-- - In a family the first line splits the cases and the second is one proof for them: `search` with the rules of
--   `writes`.
-- - `Leaves` says besides that only code in Handler mode returns from an exception, so each case names its ending.
use Rattle.std.proofs.Common.{ℕ, Bool, List, [], ◌∷◌, drop, slice_index, arith, ◌≡◌, ◌^◌, ◌<◌, true, ◌==◌, slice_set}
use Rattle.std.proofs.Common.{Option}
use Rattle.std.proofs.lemmas.Bool.{cond_both, and_parts}
use Rattle.instruction_set.specs.declared.branch.Branch.{Branch}
use Rattle.instruction_set.specs.declared.branch.Branch.TheVariants as branch
use Rattle.instruction_set.specs.declared.instruction.CodedInstruction.{CodedInstruction}
use Rattle.instruction_set.specs.declared.data_processing.DataProcessing.{DataProcessing}
use Rattle.instruction_set.specs.declared.data_processing.DataProcessing.TheVariants as data_processing
use Rattle.instruction_set.specs.declared.load_store.Exclusive.{Exclusive}
use Rattle.instruction_set.specs.declared.load_store.Exclusive.TheVariants as exclusive
use Rattle.instruction_set.specs.declared.system.Hint.{Hint}
use Rattle.instruction_set.specs.declared.system.Hint.TheVariants as hint
use Rattle.instruction_set.specs.declared.instruction.Instruction.{Instruction}
use Rattle.instruction_set.specs.declared.instruction.Instruction.TheVariants as family
use Rattle.instruction_set.specs.declared.instruction.InstructionLength.{InstructionLength}
use Rattle.instruction_set.specs.declared.load_store.LoadStore.{LoadStore}
use Rattle.instruction_set.specs.declared.load_store.LoadStore.TheVariants as load_store
use Rattle.instruction_set.specs.declared.load_store.LoadStoreMultiple.{LoadStoreMultiple}
use Rattle.instruction_set.specs.declared.load_store.LoadStoreMultiple.TheVariants as multiple
use Rattle.instruction_set.specs.declared.system.System.{System}
use Rattle.instruction_set.specs.declared.system.System.TheVariants as system
use Rattle.instruction_set.specs.declared.data_processing.FlagSetting.{FlagSetting}
use Rattle.instruction_set.specs.declared.load_store.ImmediateAddress.{ImmediateAddress}
use Rattle.instruction_set.specs.declared.load_store.ListOrder.{ListOrder}
use Rattle.instruction_set.specs.declared.load_store.LoadMultiple.{LoadMultiple}
use Rattle.instruction_set.specs.declared.registers.Flags.{Flags}
use Rattle.instruction_set.specs.declared.registers.Marked.{Marked}
use Rattle.instruction_set.specs.Arithmetic.{condition_holds}
use Rattle.instruction_set.specs.DataProcessing.{processed, writes_pc}
use Rattle.instruction_set.specs.Registers.{Registers, register, with_register, with_exchange, is_handler, uses_psp}
use Rattle.instruction_set.specs.Registers.{stack_pointer, with_sp, code_address, with_pc}
use Rattle.instruction_set.specs.RowOperands.{writes_back}
use Rattle.instruction_set.specs.Sizes.{instruction_bytes}
use Rattle.instruction_set.specs.Results.{sets_flags, written}
use Rattle.instruction_set.specs.Words.{is_bit, low_word, word_sum}
use Rattle.reference.specs.declared.ending.Ending.{Ending}
use Rattle.reference.specs.declared.ending.Ending.TheVariants as ending
use Rattle.reference.specs.Branches.{with_link, takes_branch, it_state_of, branch_effect}
use Rattle.reference.specs.Operations.{data_processing_effect, is_carried_out, effect, result_of}
use Rattle.reference.specs.Exclusives.{exclusive_effect}
use Rattle.reference.specs.Invariant.{IsStackPointer, IsCodeAddress}
use Rattle.reference.specs.LoadStore.{with_base, load_store_effect, offset_address}
use Rattle.reference.specs.LoadStoreMultiple.{registers_below, with_moved_base, moved_base, loaded, loaded_below_pc}
use Rattle.reference.specs.LoadStoreMultiple.{load_multiple, load_store_multiple_effect}
use Rattle.reference.specs.ProgramCounter.{advances, Finished, advanced, branches, branches_by, is_exception_return}
use Rattle.reference.specs.ProgramCounter.{exchanges, loads_into}
use Rattle.reference.specs.SystemInstructions.{hint_ending, system_effect, advances_and}

-- ---- values

pub stack_pointer_is : (v : ℕ) → IsStackPointer (stack_pointer v)
stack_pointer_is v = record { word = omega arith; aligned = omega arith }

pub code_address_is : (v : ℕ) → IsCodeAddress (code_address v)
code_address_is v = record { word = omega arith; even = omega arith }

-- ---- writes

-- each write of a register keeps a property: the write of any value that the register may have, of the next
-- instruction's address to the PC, and of the advanced ITSTATE
pub record KeepsWrites (P : Registers → Type 0) : Type 0 where
  pub general : (r : Registers) (n v : ℕ) → v < 2 ^ 32 → P r → P (record r { general = slice_set r.general n v })
  pub msp : (r : Registers) (v : ℕ) → IsStackPointer v → P r → P (record r { msp = v })
  pub psp : (r : Registers) (v : ℕ) → IsStackPointer v → P r → P (record r { psp = v })
  pub lr : (r : Registers) (v : ℕ) → v < 2 ^ 32 → P r → P (record r { lr = v })
  pub pc : (r : Registers) (v : ℕ) → IsCodeAddress v → P r → P (record r { pc = v })
  pub next : (r : Registers) (length : InstructionLength) → P r →
      P (record r { pc = word_sum r.pc (instruction_bytes length) })
  pub flags : (r : Registers) (f : Flags) → P r → P (record r { flags = f })
  pub it_state : (r : Registers) (it : ℕ) → it < 2 ^ 8 → P r → P (record r { it_state = it })
  pub advanced : (r : Registers) → P r → P (advanced r)
  pub thumb : (r : Registers) (on : Bool) → P r → P (record r { thumb = on })
  pub monitor : (r : Registers) (m : Option Marked) → P r → P (record r { monitor = m })

-- ---- the end of an instruction

-- an instruction ends with a return from an exception only in Handler mode
abbrev pub IsEndIn : Registers → Ending → Type 0
IsEndIn r (ending.ExceptionReturn value) = is_handler r ≡ true
IsEndIn r end = Unit {0}

-- the registers that an instruction leaves have the property, and it returns from an exception only in Handler mode
pub record Leaves (P : Registers → Type 0) (f : Finished) : Type 0 where
  pub kept : P f.registers
  pub ending : IsEndIn f.registers f.ending

-- no hint returns from an exception
hint_ends : (hint : Hint) (r : Registers) → IsEndIn r (hint_ending hint)
hint_ends hint.WaitForInterrupt r = tt
hint_ends it r = tt

-- ---- what the writes keep, each instruction keeps

module _ {P : Registers → Type 0} (k : KeepsWrites P) where
  flags_kept : (r : Registers) (f : Flags) → P r → P (record r { flags = f })
  flags_kept = k.flags

  pub sp_kept : (r : Registers) (v : ℕ) → P r → P (with_sp r v)
  sp_kept r v p =
      cond_both (uses_psp r) _ _ P (λ e. k.psp r (stack_pointer v) (stack_pointer_is v) p)
      (λ e. k.msp r (stack_pointer v) (stack_pointer_is v) p)

  pc_kept : (r : Registers) (v : ℕ) → P r → P (with_pc r v)
  pc_kept r v p = k.pc r (code_address v) (code_address_is v) p

  pub exchange_kept : (r : Registers) (v : ℕ) → P r → P (with_exchange r v)
  exchange_kept r v p = k.thumb (with_pc r v) _ (pc_kept r v p)

  pub register_kept : (r : Registers) (n v : ℕ) → P r → P (with_register r n v)
  register_kept r n v p =
      let word : low_word v < 2 ^ 32 = omega arith in
      cond_both (n == 13) _ _ P (λ e. sp_kept r v p)
      (λ e. cond_both (n == 14) _ _ P (λ f. k.lr r (low_word v) word p)
      (λ f. cond_both (n == 15) _ _ P (λ g. pc_kept r v p) (λ g. k.general r n (low_word v) word p)))

  pub advances_kept : (length : InstructionLength) (r : Registers) → P r → Leaves P (advances length r)
  advances_kept length r p = record { kept = k.next (advanced r) length (k.advanced r p); ending = tt }

  -- the PC moves past the instruction, which ends with e
  advances_and_kept : (e : Ending) (length : InstructionLength) (r : Registers) →
      IsEndIn (advances length r).registers e → P r → Leaves P (advances_and e length r)
  advances_and_kept e length r end p = record { kept = (advances_kept length r p).kept; ending = end }

  branches_kept : (r : Registers) → P r → Leaves P (branches r)
  branches_kept r p = record { kept = k.advanced r p; ending = tt }

  branches_by_kept : (offset : ℕ) (r : Registers) → P r → Leaves P (branches_by offset r)
  branches_by_kept offset r p =
      branches_kept (with_pc r (word_sum (register r 15) offset))
      (pc_kept r (word_sum (register r 15) offset) p)

  exchanges_kept : (v : ℕ) (r : Registers) → P r → Leaves P (exchanges v r)
  exchanges_kept v r p =
      cond_both (is_exception_return v r) _ _ (Leaves P) (λ e. record { kept = p; ending = (and_parts _ _ e).0 })
      (λ e. branches_kept (with_exchange r v) (exchange_kept r v p))

  loads_into_kept : (length : InstructionLength) (t value : ℕ) (r : Registers) → P r →
      Leaves P (loads_into length t value r)
  loads_into_kept length t value r p =
      cond_both (t == 15) _ _ (Leaves P) (λ e. exchanges_kept value r p)
      (λ e. advances_kept length (with_register r t value) (register_kept r t value p))

  -- ---- the instructions that compute

  written_kept : (setting : FlagSetting) (d : ℕ) (given : ℕ × Flags) (r : Registers) → P r →
      P (written setting d given r)
  written_kept setting d given r h =
      let value = register_kept r d given.0 h in
      cond_both (sets_flags setting r) _ _ P (λ e. k.flags (with_register r d given.0) given.1 value)
      (λ e. value)

  ruleset writes = (written_kept, register_kept, flags_kept)

  -- the first line splits the cases; the second is one proof for each other variant
  processed_kept : (i : DataProcessing) (r : Registers) → P r → P (processed i r)
  unfolding processed
  processed_kept (data_processing.CompareImmediate o) r h = flags_kept r _ h
  processed_kept i r h = search writes

  data_kept : (length : InstructionLength) (i : DataProcessing) (r : Registers) → P r →
      Leaves P (data_processing_effect length i r)
  data_kept length i r h =
      let after = processed_kept i r h in
      cond_both (writes_pc i) _ _ (Leaves P) (λ e. branches_kept (processed i r) after)
      (λ e. advances_kept length (processed i r) after)

  -- ---- loads and stores

  base_kept : (a : ImmediateAddress) (r : Registers) → P r → P (with_base a r)
  base_kept a r h =
      cond_both (writes_back a.indexing) _ _ P (λ e. register_kept r a.base (offset_address r a) h) (λ e. h)

  load_store_kept : (length : InstructionLength) (i : LoadStore) (r : Registers) (values : List ℕ) → P r →
      Leaves P (load_store_effect length i r values)
  unfolding load_store_effect
  load_store_kept length (load_store.LoadImmediate o) r values h =
      loads_into_kept length o.target _ (with_base o.address r) (base_kept o.address r h)
  load_store_kept length (load_store.LoadRegister o) r values h = loads_into_kept length o.target _ r h
  load_store_kept length (load_store.LoadLiteral o) r values h = loads_into_kept length o.target _ r h
  load_store_kept length (load_store.StoreImmediate o) r values h =
      advances_kept length (with_base o.address r) (base_kept o.address r h)
  load_store_kept length (load_store.StoreRegister o) r values h = advances_kept length r h

  moved_kept : (writes : Bool) (n : ℕ) (order : ListOrder) (list : ℕ) (r : Registers) → P r →
      P (with_moved_base writes n order list r)
  moved_kept writes n order list r h =
      cond_both writes _ _ P (λ e. register_kept r n (moved_base order list (register r n)) h) (λ e. h)

  loaded_kept : (ns values : List ℕ) (r : Registers) → P r → P (loaded ns values r)
  unfolding loaded
  loaded_kept [] values r h = h
  loaded_kept (n ∷ ns) values r h =
      loaded_kept ns (drop 1 values) (with_register r n (slice_index values 0))
      (register_kept r n (slice_index values 0) h)

  load_multiple_kept : (length : InstructionLength) (o : LoadMultiple) (values : List ℕ) (r : Registers) → P r →
      Leaves P (load_multiple length o values r)
  unfolding load_multiple
  load_multiple_kept length o values r h =
      let moved = moved_kept o.write_back o.base o.order o.list r h in
      let below = loaded_kept (registers_below 15 o.list) values _ moved in
      cond_both (is_bit o.list 15) _ _ (Leaves P) (λ e. exchanges_kept _ (loaded_below_pc o values r) below)
      (λ e. advances_kept length (loaded_below_pc o values r) below)

  multiple_kept : (length : InstructionLength) (i : LoadStoreMultiple) (r : Registers) (values : List ℕ) → P r →
      Leaves P (load_store_multiple_effect length i r values)
  unfolding load_store_multiple_effect
  multiple_kept length (multiple.LoadDual o) r values h =
      advances_kept length _
      (loaded_kept (o.first ∷ o.second ∷ []) values (with_base o.address r) (base_kept o.address r h))
  multiple_kept length (multiple.LoadDualLiteral o) r values h =
      advances_kept length _ (loaded_kept (o.first ∷ o.second ∷ []) values r h)
  multiple_kept length (multiple.StoreDual o) r values h =
      advances_kept length (with_base o.address r) (base_kept o.address r h)
  multiple_kept length (multiple.LoadMultiple o) r values h = load_multiple_kept length o values r h
  multiple_kept length (multiple.StoreMultiple o) r values h =
      advances_kept length _ (moved_kept o.write_back o.base o.order o.list r h)

  exclusive_kept : (length : InstructionLength) (i : Exclusive) (r : Registers) (values : List ℕ) → P r →
      Leaves P (exclusive_effect length i r values)
  unfolding exclusive_effect
  exclusive_kept length (exclusive.Load o) r values h =
      advances_kept length _ (register_kept _ o.target _ (k.monitor r _ h))
  exclusive_kept length (exclusive.Store o) r values h =
      advances_kept length _ (register_kept _ o.status _ (k.monitor r _ h))
  exclusive_kept length exclusive.Clear r values h = advances_kept length _ (k.monitor r _ h)

  -- ---- branches and the rest

  link_kept : (length : InstructionLength) (r : Registers) → P r → P (with_link length r)
  link_kept length r h = register_kept r 14 _ h

  branch_kept : (length : InstructionLength) (i : Branch) (r : Registers) (values : List ℕ) → P r →
      Leaves P (branch_effect length i r values)
  unfolding branch_effect
  branch_kept length (branch.Immediate o) r values h = branches_by_kept o.offset r h
  branch_kept length (branch.Conditional o) r values h =
      cond_both (condition_holds o.condition r.flags) _ _ (Leaves P) (λ e. branches_by_kept o.offset r h)
      (λ e. advances_kept length r h)
  branch_kept length (branch.WithLink o) r values h =
      branches_by_kept o.offset (with_link length r) (link_kept length r h)
  branch_kept length (branch.Exchange o) r values h =
      cond_both o.links _ _ (Leaves P)
      (λ e. branches_kept (with_exchange (with_link length r) (register r o.target))
      (exchange_kept (with_link length r) (register r o.target) (link_kept length r h)))
      (λ e. exchanges_kept (register r o.target) r h)
  branch_kept length (branch.CompareAndBranch o) r values h =
      cond_both (takes_branch o r) _ _ (Leaves P) (λ e. branches_by_kept o.offset r h) (λ e. advances_kept length r h)
  branch_kept length (branch.Table o) r values h = branches_by_kept _ r h
  branch_kept length (branch.IfThen o) r values h =
      let begins : P (record r { it_state = it_state_of o }) = k.it_state r (it_state_of o) (omega arith) h in
      record { kept = k.next (record r { it_state = it_state_of o }) length begins; ending = tt }

  system_kept : (length : InstructionLength) (i : System) (r : Registers) → P r → Leaves P (system_effect length i r)
  unfolding system_effect
  system_kept length (system.ChangeProcessorState o) r h = advances_and_kept _ length r tt h
  system_kept length (system.MoveToSpecial o) r h = advances_and_kept _ length r tt h
  system_kept length (system.MoveFromSpecial o) r h = advances_and_kept _ length r tt h
  system_kept length (system.Hint hint) r h =
      advances_and_kept _ length r (hint_ends hint (advances length r).registers) h
  system_kept length (system.SupervisorCall number) r h = record { kept = h; ending = tt }
  system_kept length (system.Breakpoint number) r h = record { kept = h; ending = tt }

  effect_kept : (length : InstructionLength) (i : Instruction) (r : Registers) (values : List ℕ) → P r →
      Leaves P (effect length i r values)
  unfolding effect
  effect_kept length (family.DataProcessing i) r values h = data_kept length i r h
  effect_kept length (family.LoadStore i) r values h = load_store_kept length i r values h
  effect_kept length (family.LoadStoreMultiple i) r values h = multiple_kept length i r values h
  effect_kept length (family.Exclusive i) r values h = exclusive_kept length i r values h
  effect_kept length (family.Branch i) r values h = branch_kept length i r values h
  effect_kept length (family.System i) r values h = system_kept length i r h

  pub result_kept : (i : CodedInstruction) (r : Registers) (values : List ℕ) → P r → Leaves P (result_of i r values)
  unfolding result_of
  result_kept i r values h =
      cond_both (is_carried_out i.instruction r) _ _ (Leaves P) (λ e. effect_kept i.length i.instruction r values h)
      (λ e. advances_kept i.length r h)
