use Rattle.std.proofs.Common.{ℕ, ◌<◌, length, get_or}
use Rattle.access_map.specs.declared.counting.WorldSteps.{WorldSteps}
use Rattle.access_map.specs.Sharing.{AreWorldsApart}
use Rattle.platform.specs.Boards.{numbers_of}
use Rattle.access_map.proofs.apart.are_pairs_apart.Given as goal

-- the rows so far are apart from all that follow them
abbrev pub invariant-each : goal.invariant-each
invariant-each l =
    (i j : ℕ) (d : WorldSteps) → i < l.place → i < j → j < length l.rows
    → AreWorldsApart (numbers_of l.board) (get_or l.rows i d).world (get_or l.rows j d).world l.allowed
