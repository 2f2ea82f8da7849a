use Rattle.std.proofs.Common.{ℕ, ◌+◌, List, ◌++◌, drop}
use Rattle.platform.specs.Boards.{numbers_of}
use Rattle.access_map.specs.WorldText.{AreAllPairTexts}
use Rattle.access_map.proofs.text.all_pair_texts.Given as goal

-- what the text lacks are the texts of the pairs of the other worlds
abbrev pub invariant-each : goal.invariant-each
invariant-each l =
    (rest : List ℕ) → AreAllPairTexts (numbers_of l.board) l.allowed (l.place + 1) (drop l.place l.rows) rest
    → AreAllPairTexts (numbers_of l.board) l.allowed 1 l.rows (l.text.items ++ rest)
