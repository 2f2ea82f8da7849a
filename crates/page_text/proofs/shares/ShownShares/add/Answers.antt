use Rattle.std.proofs.Common.{arith}
use Rattle.page_text.proofs.Shown.{counts_one, shows_one}
use Rattle.page_text.proofs.shares.ShownShares.add.Goals as goal

pub returns-in_ok-push : goal.returns-in_ok-push
returns-in_ok-push c all shows = shows_one _ all _ _ _ c.args.share shows (omega arith) c.in_ok-push.ensures.items

pub returns-else-len-lt-MAX_SHARES : goal.returns-else-len-lt-MAX_SHARES
returns-else-len-lt-MAX_SHARES c all shows =
    counts_one _ all _ _ _ c.args.share shows (omega arith) c.saturating_add-self.ensures
