-- The values of the registers, as a debugger shows them.
use Rattle.instruction_set.specs.Registers.{Registers, xpsr, control, mask_if}
use Rattle.platform.specs.declared.exception.Masks.{Masks}
use Rattle.target.specs.declared.values.RegValues.{RegValues}

abbrev pub values_of : Registers → Masks → RegValues
values_of r m = record {
  general = r.general;
  msp = r.msp;
  psp = r.psp;
  lr = r.lr;
  pc = r.pc;
  xpsr = xpsr r;
  control = control r;
  primask = mask_if m.primask 1;
  faultmask = mask_if m.faultmask 1;
  basepri = m.basepri;
}
