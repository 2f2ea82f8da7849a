use Rattle.std.proofs.Common.{List, drop}
use Rattle.platform.specs.Boards.{numbers_of}
use Rattle.page_text.proofs.Joining.{SoFar}
use Rattle.page_text.proofs.shares.ShownShares.of.Given as goal
use Rattle.page_text.specs.AccessTables.{AreSharesAmong, Shows, max_shares}
use Rattle.page_text.specs.declared.shares.Share.{Share}

-- what the shares so far lack are those among the other worlds
abbrev pub invariant-worlds : goal.invariant-worlds
invariant-worlds l =
    SoFar (AreSharesAmong (numbers_of l.board) 0 l.rows)
    (AreSharesAmong (numbers_of l.board) l.place (drop l.place l.rows))
    (λ (all : List Share). Shows max_shares all l.shown.items.items l.shown.others)
