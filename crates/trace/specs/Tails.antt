-- What follows the tick in a line.
use Rattle.std.specs.Prelude.{ℕ, List, ◌++◌, codes, decimal, take}
use Rattle.instruction_set.specs.Sizes.{bytes_in}
use Rattle.platform.specs.declared.access.Access.{Access}
use Rattle.platform.specs.declared.event.EventKind.{EventKind}
use Rattle.platform.specs.Text.{kind_text, hex_word, privilege_text, line_feed}
use Rattle.platform.specs.Events.{event_text}
use Rattle.trace.specs.declared.head.AccessHead.{AccessHead}

-- all of a line but its tick
unfoldable pub tail : EventKind → List ℕ
tail what = codes " " ++ (event_text what ++ line_feed)

-- what has the same length in the line of each access: from the space after the tick to the one before the outcome
unfoldable pub access_head : Access → List ℕ
access_head a =
    codes " " ++ (kind_text a.kind ++ (codes " " ++ (hex_word a.address
    ++ (codes " " ++ (decimal (bytes_in a.size) ++ (codes " " ++ (privilege_text a.privileged ++ codes " ")))))))

-- the text of a head, which is kept in pieces
abbrev pub head_text : AccessHead → List ℕ
head_text h = (((take 3 h.kind ++ h.upper) ++ h.high) ++ h.low) ++ h.size
