use Rattle.std.proofs.Common.{◌≤◌, ◌^◌, arith}
use Rattle.symbol_steps.specs.Ends.{next_above}
use Rattle.symbol_steps.proofs.Extents.{next_most}
use Rattle.symbol_steps.proofs.cover.next_above.Goals as goal

pub loop-symbol-init : goal.loop-symbol-init
loop-symbol-init c =
    let most : next_above c.args.address c.args.symbols.now ≤ 2 ^ 32 = next_most c.args.address c.args.symbols.now in
    record { value = omega (arith, most); within = omega arith }
