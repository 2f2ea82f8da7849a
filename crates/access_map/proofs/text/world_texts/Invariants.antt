use Rattle.std.proofs.Common.{ℕ, ◌+◌, List, ◌++◌, drop}
use Rattle.platform.specs.Boards.{numbers_of}
use Rattle.access_map.specs.Names.{shown_name}
use Rattle.access_map.specs.WorldText.{AreWorldTexts}
use Rattle.access_map.proofs.text.world_texts.Given as goal

-- what the text lacks are the texts of the other worlds
abbrev pub invariant-each : goal.invariant-each
invariant-each l =
    (rest : List ℕ) → AreWorldTexts (numbers_of l.board) (shown_name l.symbols.strings.now l.symbols.list.items)
    (l.place + 1) (drop l.place l.rows) rest
    → AreWorldTexts (numbers_of l.board) (shown_name l.symbols.strings.now l.symbols.list.items) 1 l.rows
    (l.text.items ++ rest)
