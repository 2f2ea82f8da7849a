use Rattle.std.proofs.Common.{◌≡◌, ◌++◌, drop}
use Rattle.access_map.specs.Lines.{map_text, places_text}
use Rattle.access_map.proofs.lines.map_text.Given as goal

-- the lines that were added and those of the places that are left are all lines
abbrev pub invariant-places : goal.invariant-places
invariant-places l = l.text.items ++ places_text l.number (drop l.part-index l.map.places.items)
    ≡ map_text l.number l.map
