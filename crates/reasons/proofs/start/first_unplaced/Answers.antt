use Rattle.std.proofs.Common.{arith}
use Rattle.reasons.proofs.Firsts.{first_found, none_more, none_of_all}
use Rattle.reasons.specs.Segments.{IsUnplaced, header_at, segment_if}
use Rattle.platform.specs.Boards.{numbers_of}
use Rattle.platform.specs.Boards.{blank}
use Rattle.reasons.proofs.start.first_unplaced.Goals as goal

pub headers-init : goal.headers-init
headers-init c = λ k below. absurd (omega (arith, below))

pub headers-preserved : goal.headers-preserved
headers-preserved c =
    none_more (λ k. IsUnplaced (blank (numbers_of c.args.layout.now))
    (segment_if c.args.file.now (header_at c.args.table k))) c.headers.index c.headers.invariant c.in_default.ensures

pub returns-in-Some : goal.returns-in-Some
returns-in-Some c =
    first_found (λ k. segment_if c.args.file.now (header_at c.args.table k))
    (λ k. IsUnplaced (blank (numbers_of c.args.layout.now)) (segment_if c.args.file.now (header_at c.args.table k)))
    c.args.table.count c.headers.index c.in-Some.numbered c.headers-test.true c.headers.invariant c.in-Some.ensures

pub returns : goal.returns
returns c =
    none_of_all (λ k. IsUnplaced (blank (numbers_of c.args.layout.now))
    (segment_if c.args.file.now (header_at c.args.table k))) c.args.table.count c.headers.index c.headers-test.false
    c.headers.invariant
