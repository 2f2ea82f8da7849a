use Rattle.std.proofs.Common.{arith}
use Rattle.reasons.proofs.Firsts.{none_more, none_of_all, pair_found}
use Rattle.reasons.specs.Segments.{SharesWithLater, header_at, segment_if}
use Rattle.reasons.proofs.image.overlap.Goals as goal

pub headers-init : goal.headers-init
headers-init c = λ k below. absurd (omega (arith, below))

pub headers-preserved : goal.headers-preserved
headers-preserved c =
    none_more (λ m. SharesWithLater (λ k. segment_if c.args.file.now (header_at c.args.table k)) c.args.table.count
    (segment_if c.args.file.now (header_at c.args.table m)) m) c.headers.index c.headers.invariant c.in_default.ensures

pub returns-in-Some : goal.returns-in-Some
returns-in-Some c =
    pair_found (λ k. segment_if c.args.file.now (header_at c.args.table k)) c.args.table.count c.headers.index
    c.in-Some.pair c.headers-test.true c.headers.invariant c.in-Some.ensures

pub returns : goal.returns
returns c =
    none_of_all (λ m. SharesWithLater (λ k. segment_if c.args.file.now (header_at c.args.table k)) c.args.table.count
    (segment_if c.args.file.now (header_at c.args.table m)) m) c.args.table.count c.headers.index c.headers-test.false
    c.headers.invariant
