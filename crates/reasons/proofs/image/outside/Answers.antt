use Rattle.std.proofs.Common.{◌≡◌, true, arith}
use Rattle.reasons.proofs.Firsts.{none_more, none_of_all, not_true}
use Rattle.reasons.specs.Segments.{header_at, lies_outside}
use Rattle.reasons.proofs.image.outside.Goals as goal

pub headers-init : goal.headers-init
headers-init c = λ k below. absurd (omega (arith, below))

pub headers-preserved : goal.headers-preserved
headers-preserved c =
    none_more (λ k. lies_outside c.args.file.now (header_at c.args.table k) ≡ true) c.headers.index c.headers.invariant
    (not_true _ cc)

pub returns : goal.returns
returns c =
    none_of_all (λ k. lies_outside c.args.file.now (header_at c.args.table k) ≡ true) c.args.table.count c.headers.index
    c.headers-test.false c.headers.invariant
