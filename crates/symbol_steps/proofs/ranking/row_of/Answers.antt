use Rattle.std.proofs.Common.{refl, arith}
use Rattle.symbol_steps.proofs.Ranked.{row_first}
use Rattle.symbol_steps.proofs.ranking.row_of.Goals as goal

pub returns-clause-right : goal.returns-clause-right
returns-clause-right c = (
  row_first c.args.symbols.now.list.items c.as_slice-list.result.now c.args.place _ c.has_twin.result
      c.as_slice-list.ensures.value c.requires c.has_twin.ensures c.if-has_twin.false,
  rw (c.and-totals.ensures, c.named_totals-flash.ensures, c.named_totals-ram.ensures) refl,
  omega arith,
)
