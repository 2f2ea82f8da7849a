use Rattle.std.proofs.Common.{◌+◌, ◌≤◌, refl, sym, arith}
use Rattle.board.proofs.Devices.{refused, taken, finished, one_longer}
use Rattle.reasons.proofs.device_tables.listed_problem.Goals as goal

-- a table is refused
pub returns-in-Err : goal.returns-in-Err
returns-in-Err c =
    refused _ _ _ _ _ _ _ _ _ c.values-test.true c.index-values-index.is c.devices.ensures.value c.in-Err.ensures
    c.values.invariant.whole

-- a device is put after those that were read
pub values-preserved : goal.values-preserved
values-preserved c = record {
  whole = taken _ _ _ _ _ _ _ _ _ _ _ c.values-test.true c.index-values-index.is c.devices-in-values.ensures.value
      (sym c.in-Ok.ensures.read) c.from-before.ensures c.push.ensures c.values.invariant.whole;
  count = one_longer _ _ _ _ c.push.ensures c.values.invariant.count;
  few =
      let more : c.values.before + c.in-Ok.device.size ≤ 0x10_0000 = c.in-Ok.ensures.few in
      omega arith;
}

pub returns : goal.returns
returns c = rw (finished _ _ _ _ _ _ c.values-test.false c.values.invariant.whole) refl
