use Rattle.std.proofs.Common.{[], ap, drop, sym, take}
use Rattle.std.specs.Io.KnownBytes.{prepend_known}
use Rattle.command.proofs.Waiting.{does_over_streams, nothing_ahead, nothing_waits}
use Rattle.command.proofs.streams.over_streams.Goals as goal
use Rattle.output.specs.Output.{Writing, with_page}

pub returns : goal.returns
returns g c =
    let input = c.do_args-status.new.streams.input in
    let out = c.do_args-status.new.streams.out in
    let ahead = drop input.at (take input.end input.bytes) in
    let lost = drop out.at out.page in
    does_over_streams _ _ _ _ _ _ _ _ ahead lost
    (nothing_ahead _ _ _ _ _ c.new.ensures.empty.0 c.new.ensures.empty.1
    (ap (λ o. g.I.Read.remaining o.inner.inner) c.new.ensures.inner))
    (ap (λ o. o.book.total) c.new.ensures.inner)
    (ap (λ o. prepend_known ahead (g.I.Read.remaining o.inner.inner)) (sym c.into_inner-input.ensures))
    (ap (λ o. o.book.total) (sym c.into_inner-input.ensures))
    (nothing_waits _ _ _ _ _ _ c.new-2.ensures.page.1 (ap (λ o. o.book.total) c.new-2.ensures.inner)
    c.new-2.ensures.page.0 (ap (λ o. g.W.Write.contents o.inner.inner) c.new-2.ensures.inner))
    (ap (λ o.
    let w : Writing = record { written = g.W.Write.contents o.inner.inner; errors = o.book.total; waits = [] } in
    with_page lost w) (sym c.into_inner-out.ensures))
    c.do_args-status.ensures
