use Rattle.std.proofs.Common.{List, ◌+◌, drop}
use Rattle.platform.specs.Boards.{numbers_of}
use Rattle.page_text.proofs.Joining.{SoFar}
use Rattle.page_text.proofs.shares.ShownShares.add_all_of.Given as goal
use Rattle.page_text.specs.AccessTables.{AreSharesWith}
use Rattle.page_text.specs.Growing.{AddsShares}
use Rattle.page_text.specs.declared.shares.Share.{Share}

-- what the shares so far lack are those with the other worlds
abbrev pub invariant-others : goal.invariant-others
invariant-others l =
    SoFar (AreSharesWith (numbers_of l.board) l.one.place l.one.world.now (l.one.place + 1) l.later)
    (AreSharesWith (numbers_of l.board) l.one.place l.one.world.now (l.one.place + 1 + l.next) (drop l.next l.later))
    (λ (shares : List Share). AddsShares shares l.fn.self l.self)
