-- The pairs of rows whose texts fit the same halfwords, with the row that wins: what the manual says by "SEE".
use Rattle.std.specs.Prelude.{List, [], ◌∷◌}
use Rattle.instruction_set.specs.LongControl.{msr_t1, mrs_t1, nop_t2, clrex_t1, dsb_t1, dmb_t1, isb_t1, b_t3}
use Rattle.instruction_set.specs.LongDual.{strex_t1, ldrex_t1, strexb_t1, ldrexb_t1, tbb_t1, ldrd_literal_t1}
use Rattle.instruction_set.specs.LongDual.{ldrd_immediate_t1, strd_immediate_t1}
use Rattle.instruction_set.specs.LongImmediate.{tst_immediate_t1, and_immediate_t1, mov_immediate_t2, orr_immediate_t1}
use Rattle.instruction_set.specs.LongImmediate.{mvn_immediate_t1, orn_immediate_t1, teq_immediate_t1, eor_immediate_t1}
use Rattle.instruction_set.specs.LongImmediate.{cmn_immediate_t1, add_immediate_t3, cmp_immediate_t2, sub_immediate_t3}
use Rattle.instruction_set.specs.LongLoad.{pld_literal_t1, ldrb_literal_t1, pld_immediate_t1, ldrb_immediate_t2}
use Rattle.instruction_set.specs.LongLoad.{pld_register_t1, ldrb_register_t2, pld_immediate_t2, ldrbt_t1}
use Rattle.instruction_set.specs.LongLoad.{ldrb_immediate_t3, ldr_literal_t2, ldr_immediate_t3, ldr_register_t2}
use Rattle.instruction_set.specs.LongLoad.{ldrt_t1, ldr_immediate_t4}
use Rattle.instruction_set.specs.LongMultiply.{mul_t2, mla_t1}
use Rattle.instruction_set.specs.LongPlain.{adr_t3, add_immediate_t4, adr_t2, sub_immediate_t4, bfc_t1, bfi_t1}
use Rattle.instruction_set.specs.LongShifted.{tst_register_t2, and_register_t2, mov_register_t3, orr_register_t2}
use Rattle.instruction_set.specs.LongShifted.{mvn_register_t2, orn_register_t1, teq_register_t1, eor_register_t2}
use Rattle.instruction_set.specs.LongShifted.{cmn_register_t2, add_register_t3, cmp_register_t3, sub_register_t2}
use Rattle.instruction_set.specs.LongStore.{strt_t1, str_immediate_t4}
use Rattle.instruction_set.specs.Rows.{Row}
use Rattle.instruction_set.specs.ShortBranches.{udf_t1, svc_t1, b_t1}
use Rattle.instruction_set.specs.ShortMiscellaneous.{nop_t1, it_t1}
use Rattle.instruction_set.specs.ShortShifts.{mov_register_t2, lsl_immediate_t1}

-- a row, and the others that win where its text and theirs fit
pub record Overlap : Type 0 where
  pub row : Row
  pub others : List Row

-- the rows of 16 bits
abbrev pub short_overlaps : List Overlap
short_overlaps =
    record { row = lsl_immediate_t1; others = mov_register_t2 ∷ [] } ∷
    record { row = it_t1; others = nop_t1 ∷ [] } ∷
    record { row = b_t1; others = udf_t1 ∷ svc_t1 ∷ [] } ∷
    []

-- the rows of 32 bits
abbrev pub long_overlaps : List Overlap
long_overlaps =
    record { row = and_immediate_t1; others = tst_immediate_t1 ∷ [] } ∷
    record { row = orr_immediate_t1; others = mov_immediate_t2 ∷ [] } ∷
    record { row = orn_immediate_t1; others = mvn_immediate_t1 ∷ [] } ∷
    record { row = eor_immediate_t1; others = teq_immediate_t1 ∷ [] } ∷
    record { row = add_immediate_t3; others = cmn_immediate_t1 ∷ [] } ∷
    record { row = sub_immediate_t3; others = cmp_immediate_t2 ∷ [] } ∷
    record { row = and_register_t2; others = tst_register_t2 ∷ [] } ∷
    record { row = orr_register_t2; others = mov_register_t3 ∷ [] } ∷
    record { row = orn_register_t1; others = mvn_register_t2 ∷ [] } ∷
    record { row = eor_register_t2; others = teq_register_t1 ∷ [] } ∷
    record { row = add_register_t3; others = cmn_register_t2 ∷ [] } ∷
    record { row = sub_register_t2; others = cmp_register_t3 ∷ [] } ∷
    record { row = add_immediate_t4; others = adr_t3 ∷ [] } ∷
    record { row = sub_immediate_t4; others = adr_t2 ∷ [] } ∷
    record { row = bfi_t1; others = bfc_t1 ∷ [] } ∷
    record { row = b_t3; others = msr_t1 ∷ mrs_t1 ∷ nop_t2 ∷ clrex_t1 ∷ dsb_t1 ∷ dmb_t1 ∷ isb_t1 ∷ [] } ∷
    record { row = strd_immediate_t1; others = strex_t1 ∷ strexb_t1 ∷ [] } ∷
    record { row = ldrd_literal_t1; others = ldrex_t1 ∷ ldrexb_t1 ∷ tbb_t1 ∷ [] } ∷
    record { row = ldrd_immediate_t1; others = ldrex_t1 ∷ ldrexb_t1 ∷ tbb_t1 ∷ ldrd_literal_t1 ∷ [] } ∷
    record { row = str_immediate_t4; others = strt_t1 ∷ [] } ∷
    record { row = ldrb_literal_t1; others = pld_literal_t1 ∷ [] } ∷
    record { row = pld_immediate_t1; others = pld_literal_t1 ∷ ldrb_literal_t1 ∷ [] } ∷
    record { row = ldrb_immediate_t2; others = pld_literal_t1 ∷ ldrb_literal_t1 ∷ pld_immediate_t1 ∷ [] } ∷
    record { row = pld_register_t1; others = pld_literal_t1 ∷ ldrb_literal_t1 ∷ [] } ∷
    record { row = ldrb_register_t2; others = pld_literal_t1 ∷ ldrb_literal_t1 ∷ pld_register_t1 ∷ [] } ∷
    record { row = pld_immediate_t2; others = pld_literal_t1 ∷ ldrb_literal_t1 ∷ [] } ∷
    record { row = ldrbt_t1; others = pld_literal_t1 ∷ ldrb_literal_t1 ∷ [] } ∷
    record { row = ldrb_immediate_t3; others = pld_literal_t1 ∷ ldrb_literal_t1 ∷ pld_immediate_t2 ∷ ldrbt_t1 ∷ [] } ∷
    record { row = ldr_immediate_t3; others = ldr_literal_t2 ∷ [] } ∷
    record { row = ldr_register_t2; others = ldr_literal_t2 ∷ [] } ∷
    record { row = ldrt_t1; others = ldr_literal_t2 ∷ [] } ∷
    record { row = ldr_immediate_t4; others = ldr_literal_t2 ∷ ldrt_t1 ∷ [] } ∷
    record { row = mla_t1; others = mul_t2 ∷ [] } ∷
    []
