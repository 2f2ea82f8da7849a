use Rattle.std.proofs.Common.{◌∙◌, ◌+◌, ◌≤◌, sym, arith}
use Rattle.std.proofs.lemmas.Result.{err_from_is_err_and}
use Rattle.board.proofs.Devices.{refused, taken, finished, one_longer}
use Rattle.board.proofs.device_tables.devices_of.Goals as goal

-- a table is refused
pub returns-in_err-device : goal.returns-in_err-device
returns-in_err-device c =
    let p = err_from_is_err_and c.from_residual.result c.from_residual.ensures.1 in
    rw (p.1, p.2)
    (refused _ _ _ _ _ _ _ _ _ c.values-test.true c.value-item.is c.devices.ensures.value
    (sym c.listed_device.ensures.read ∙ c.in_err-device.was) c.values.invariant.whole)

-- a device is put after those that were read
pub values-preserved : goal.values-preserved
values-preserved c = record {
  whole = taken _ _ _ _ _ _ _ _ _ _ _ c.values-test.true c.value-item.is c.devices.ensures.value
      (sym c.listed_device.ensures.read ∙ c.in_ok-device.was) c.from-before.ensures c.push.ensures
      c.values.invariant.whole;
  count = one_longer _ _ _ _ c.push.ensures c.values.invariant.count;
  few =
      let more : c.values.before + c.in_ok-device.device.size ≤ 0x10_0000 = c.in_ok-device.ensures.few in
      omega arith;
}

pub returns : goal.returns
returns c = finished _ _ _ _ _ _ c.values-test.false c.values.invariant.whole
