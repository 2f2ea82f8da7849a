use Rattle.std.proofs.Common.{arith}
use Rattle.elf.specs.Segment.{segment_of}
use Rattle.reasons.proofs.Firsts.{first_found, none_more, none_of_all}
use Rattle.reasons.specs.Segments.{SharesLater, header_at, segment_if}
use Rattle.reasons.proofs.image.overlap_with.Goals as goal

pub headers-init : goal.headers-init
headers-init c = λ k below. absurd (omega (arith, below))

pub headers-preserved : goal.headers-preserved
headers-preserved c =
    none_more (SharesLater (λ k. segment_if c.args.file.now (header_at c.args.table k))
    (segment_of c.args.one.now.segment) c.args.one.now.index) c.headers.index c.headers.invariant c.in_default.ensures

pub returns-in-Some : goal.returns-in-Some
returns-in-Some c =
    first_found (λ k. segment_if c.args.file.now (header_at c.args.table k))
    (SharesLater (λ k. segment_if c.args.file.now (header_at c.args.table k)) (segment_of c.args.one.now.segment)
    c.args.one.now.index) c.args.table.count c.headers.index c.in-Some.other c.headers-test.true c.headers.invariant
    c.in-Some.ensures

pub returns : goal.returns
returns c =
    none_of_all (SharesLater (λ k. segment_if c.args.file.now (header_at c.args.table k))
    (segment_of c.args.one.now.segment) c.args.one.now.index) c.args.table.count c.headers.index c.headers-test.false
    c.headers.invariant
