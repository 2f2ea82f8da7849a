use Rattle.std.proofs.Common.{◌∙◌, arith, sym}
use Rattle.page_text.proofs.RowsMade.{all_columns, column_on}
use Rattle.page_text.proofs.access_rows.AccessRow.at.Goals as goal

pub columns-preserved : goal.columns-preserved
columns-preserved c = record {
  first = c.columns.invariant.first;
  some = let f = c.at-interval.ensures.first in let s = c.at-interval.ensures.some in omega (arith, f, s);
  last = let i = c.columns.invariant.last in let l = c.at-interval.ensures.last in omega (arith, i, l);
  right = column_on c.args.columns.now c.args.place c.columns.column c.columns.row c.index-columns-column.result _
      c.at-interval.result c.columns.invariant.right c.columns-test.true c.requires.few c.index-columns-column.is
      c.at-interval.ensures.right (c.at-interval.ensures.first ∙ sym c.columns.invariant.first)
      c.at-interval.ensures.last;
}

pub returns-clause-right : goal.returns-clause-right
returns-clause-right c =
    all_columns _ _ c.columns.column c.columns.row c.columns.invariant.right (omega (arith, c.columns-test.false))
