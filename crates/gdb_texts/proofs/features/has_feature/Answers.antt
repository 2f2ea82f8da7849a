use Rattle.std.proofs.Common.{◌∙◌, sym, bytes_eq, arith}
use Rattle.std.specs.List.{list_any}
use Rattle.gdb_texts.proofs.Splitting.{any_found, any_last, any_other, value_begun, value_ended, value_last}
use Rattle.gdb_texts.proofs.Splitting.{value_longer}
use Rattle.gdb_texts.proofs.features.has_feature.Goals as goal
use Rattle.gdb_texts.proofs.features.has_feature.Goals.{then-byte-eq59+else-is_same, else-byte-eq59}

pub returns-then-is_same : goal.returns-then-is_same
returns-then-is_same c =
    any_found (λ part. bytes_eq part c.args.name.now) _ _ _ (sym c.is_same.ensures ∙ c.if-is_same.true)
    (value_ended (list_any (λ part. bytes_eq part c.args.name.now)) c.args.text.now c.bytes.start c.bytes.index _
    c.bytes-test.true c.if-byte-eq59.true c.bytes.invariant.rest)

pub bytes-preserved : goal.bytes-preserved
bytes-preserved c =
    elim c.if-byte-eq59.branch [
      | then-byte-eq59+else-is_same w ↦ record {
        order = omega arith;
        rest =
            value_begun (list_any (λ part. bytes_eq part c.args.name.now)) c.args.text.now c.bytes.index _ _ w.start-is
            (any_other (λ part. bytes_eq part c.args.name.now) _ _ _ (sym w.is_same.ensures ∙ w.if-is_same.false)
            (value_ended (list_any (λ part. bytes_eq part c.args.name.now)) c.args.text.now c.bytes.start
            c.bytes.index _ c.bytes-test.true w.if-byte-eq59.true c.bytes.invariant.rest));
      }
      | else-byte-eq59 w ↦ record {
        order = omega arith;
        rest =
            value_longer (list_any (λ part. bytes_eq part c.args.name.now)) c.args.text.now c.bytes.start c.bytes.index
            _ _ w.start-is c.bytes.invariant.order c.bytes-test.true w.if-byte-eq59.false c.bytes.invariant.rest;
      }
    ]

pub returns : goal.returns
returns c =
    c.is_same-2.ensures
    ∙ any_last (λ part. bytes_eq part c.args.name.now) _ _
    (value_last (list_any (λ part. bytes_eq part c.args.name.now)) c.args.text.now c.bytes.start c.bytes.index _
    c.bytes-test.false c.bytes.auto.index-end c.bytes.invariant.rest)
