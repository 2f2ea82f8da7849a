use Rattle.std.proofs.Common.{◌≡◌, arith}
use Rattle.page_text.proofs.Joining.{where_ok}
use Rattle.page_text.proofs.RowsMade.{made_first, made_last, made_next, made_same}
use Rattle.page_text.proofs.access_rows.ShownRows.add_span.Goals as goal

pub rows-init : goal.rows-init
rows-init c = record {
  made = made_first _ _ _ _ c.at-current.result c.at-current.ensures.first c.at-current.ensures.some
      c.at-current.ensures.right;
  upto = c.at-current.ensures.last;
}

pub rows-preserved-then-has_rights_of : goal.rows-preserved-then-has_rights_of
rows-preserved-then-has_rights_of c = record {
  made = made_same _ _ _ _ _ c.rows.current c.at-next.result c.rows.invariant.made c.at-next.ensures.first
      c.at-next.ensures.some c.at-next.ensures.right (c.has_rights_of.ensures.0 c.if-has_rights_of.true);
  upto = c.at-next.ensures.last;
}

pub rows-preserved : goal.rows-preserved
rows-preserved c = record {
  made = made_next _ _ _ _ _ _ c.rows.current c.at-next.result c.rows.invariant.made c.in_ok-add.ensures
      c.at-next.ensures.first c.at-next.ensures.some c.at-next.ensures.right
      (λ e. let t = c.has_rights_of.ensures.1 e in let f = c.if-has_rights_of.false in cc);
  upto = c.at-next.ensures.last;
}

pub returns : goal.returns
returns c =
    let last : c.rows.current.last ≡ c.args.span.last = let u = c.rows.invariant.upto in omega arith in
    where_ok _ (λ adds. made_last _ _ _ _ _ _ _ c.rows.current c.rows.invariant.made adds last) c.add-2.ensures
