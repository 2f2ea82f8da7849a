use Rattle.std.proofs.Common.{ℕ, ◌+◌, List, ◌++◌, drop}
use Rattle.platform.specs.Boards.{numbers_of}
use Rattle.access_map.specs.WorldText.{ArePairTexts}
use Rattle.access_map.proofs.text.pair_texts.Given as goal

-- what the text lacks are the texts of the other pairs
abbrev pub invariant-each : goal.invariant-each
invariant-each l =
    (rest : List ℕ) → ArePairTexts (numbers_of l.board) l.allowed l.number l.world (l.number + 1 + l.place)
    (drop l.place l.others) rest
    → ArePairTexts (numbers_of l.board) l.allowed l.number l.world (l.number + 1) l.others (l.text.items ++ rest)
