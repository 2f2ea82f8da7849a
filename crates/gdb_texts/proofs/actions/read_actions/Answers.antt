use Rattle.std.proofs.Common.{◌∙◌, arith}
use Rattle.gdb_texts.specs.Actions.{first_ours}
use Rattle.gdb_texts.proofs.Ours.{ours_last, ours_next}
use Rattle.gdb_texts.proofs.Splitting.{value_begun, value_ended, value_last, value_longer}
use Rattle.gdb_texts.proofs.actions.read_actions.Goals as goal
use Rattle.gdb_texts.proofs.actions.read_actions.Goals.{then-byte-eq59+in-Other, else-byte-eq59}

pub returns-in-Malformed : goal.returns-in-Malformed
returns-in-Malformed c =
    ours_next _ _ _ _ c.in-Malformed.ensures
    (value_ended first_ours c.args.tail.now c.bytes.start c.bytes.index _
    c.bytes-test.true c.if-byte-eq59.true c.bytes.invariant.rest)

pub returns-in-Ours : goal.returns-in-Ours
returns-in-Ours c =
    ours_next _ _ _ _ c.in-Ours.ensures
    (value_ended first_ours c.args.tail.now c.bytes.start c.bytes.index _
    c.bytes-test.true c.if-byte-eq59.true c.bytes.invariant.rest)

pub bytes-preserved : goal.bytes-preserved
bytes-preserved c =
    elim c.if-byte-eq59.branch [
      | then-byte-eq59+in-Other w ↦ record {
        order = omega arith;
        rest =
            value_begun first_ours c.args.tail.now c.bytes.index _ _ w.start-is
            (ours_next _ _ _ _ w.in-Other.ensures
            (value_ended first_ours c.args.tail.now c.bytes.start c.bytes.index _
            c.bytes-test.true w.if-byte-eq59.true c.bytes.invariant.rest));
      }
      | else-byte-eq59 w ↦ record {
        order = omega arith;
        rest =
            value_longer first_ours c.args.tail.now c.bytes.start c.bytes.index
            _ _ w.start-is c.bytes.invariant.order c.bytes-test.true w.if-byte-eq59.false c.bytes.invariant.rest;
      }
    ]

pub returns : goal.returns
returns c =
    c.last_action.ensures
    ∙ ours_last _ _ _ c.read_action-2.ensures
    (value_last first_ours c.args.tail.now c.bytes.start c.bytes.index _
    c.bytes-test.false c.bytes.auto.index-end c.bytes.invariant.rest)
