use Rattle.std.proofs.Common.{◌≡◌, List, drop}
use Rattle.page_text.proofs.Joining.{SoFar}
use Rattle.page_text.proofs.shares.ShownShares.add_spans.Given as goal
use Rattle.page_text.specs.AccessTables.{shares_of}
use Rattle.page_text.specs.Growing.{AddsShares}
use Rattle.page_text.specs.declared.shares.Share.{Share}

-- what the shares so far lack are those of the other spans
abbrev pub invariant-spans : goal.invariant-spans
invariant-spans l =
    SoFar (λ (shares : List Share). shares ≡ shares_of l.writer.place l.reader.place l.span-items)
    (λ (more : List Share). more ≡ shares_of l.writer.place l.reader.place (drop l.span-index l.span-items))
    (λ (shares : List Share). AddsShares shares l.fn.self l.self)
