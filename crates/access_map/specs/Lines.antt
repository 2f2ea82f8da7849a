-- The lines of worlds, of their access maps, and of what they share (profile). Numbers of worlds, steps and ticks are
-- decimal, addresses are eight upper-case hexadecimal digits, and each line ends with a line feed.
use Rattle.std.specs.Prelude.{ℕ, Bool, true, false, List, [], ◌∷◌, ◌++◌, codes, decimal}
use Rattle.access_map.specs.declared.counting.WorldSteps.{WorldSteps}
use Rattle.access_map.specs.declared.interval.Interval.{Interval}
use Rattle.access_map.specs.declared.map.AccessMap.{AccessMap}
use Rattle.access_map.specs.declared.map.PlaceMap.{PlaceMap}
use Rattle.access_map.specs.declared.world.Place.{Place}
use Rattle.access_map.specs.declared.world.Place.TheVariants.{Flash, Ram, SecondRam, Window}
use Rattle.access_map.specs.declared.world.Rights.{Rights}
use Rattle.mpu.specs.declared.spans.Span.{Span}
use Rattle.platform.specs.Text.{hex_word, line_feed, rule_text}

abbrev pub place_text : Place → List ℕ
place_text Flash = codes "flash"
place_text Ram = codes "ram"
place_text SecondRam = codes "ram"
place_text Window = codes "window"

-- the letter of a right, or `-` where it isn't granted
abbrev pub letter_or_dash : Bool → List ℕ → List ℕ
letter_or_dash true letter = letter
letter_or_dash false letter = codes "-"

abbrev pub rights_text : Rights → List ℕ
rights_text r =
    (letter_or_dash r.read (codes "r") ++ letter_or_dash r.write (codes "w")) ++ letter_or_dash r.execute (codes "x")

-- an address after a space
abbrev pub spaced : ℕ → List ℕ
spaced a = codes " " ++ hex_word a

unfoldable pub addresses_text : ℕ → ℕ → List ℕ
addresses_text first last = spaced first ++ spaced last

-- two numbers of worlds, each after a space
abbrev pub numbers_text : ℕ → ℕ → List ℕ
numbers_text j k = ((codes " " ++ decimal j) ++ codes " ") ++ decimal k

-- ---- world k: its steps, the tick and the PC of the first, the lowest and the highest PC, and the name of the symbol
-- that has the PC of the first, where the image has one

unfoldable pub steps_text : ℕ → WorldSteps → List ℕ
steps_text k row =
    ((((codes "world " ++ decimal k) ++ codes " steps ") ++ decimal row.steps) ++ codes " tick ") ++ decimal row.tick

unfoldable pub code_text : WorldSteps → List ℕ
code_text row = ((codes " pc" ++ spaced row.pc) ++ codes " code") ++ addresses_text row.lowest row.highest

-- a name after a space; an empty name is none
abbrev pub name_text : List ℕ → List ℕ
name_text [] = []
name_text (c ∷ name) = codes " " ++ (c ∷ name)

unfoldable pub world_line : ℕ → WorldSteps → List ℕ → List ℕ
world_line k row name = ((steps_text k row ++ code_text row) ++ name_text name) ++ line_feed

-- steps in further worlds
abbrev pub others_text : ℕ → List ℕ
others_text n = (codes "others " ++ decimal n) ++ line_feed

-- ---- the map of world k: a line for each interval

unfoldable pub map_line : ℕ → Place → Interval → List ℕ
map_line k place x =
    ((((((((codes "map " ++ decimal k) ++ addresses_text x.first x.last) ++ codes " ") ++ place_text place)
    ++ codes " ") ++ rights_text x.rights) ++ codes " ") ++ rule_text x.rule) ++ line_feed

abbrev pub map_lines : ℕ → Place → List Interval → List ℕ
map_lines k place [] = []
map_lines k place (x ∷ xs) = map_line k place x ++ map_lines k place xs

abbrev pub places_text : ℕ → List PlaceMap → List ℕ
places_text k [] = []
places_text k (m ∷ ms) = map_lines k m.place m.intervals.items ++ places_text k ms

unfoldable pub map_text : ℕ → AccessMap → List ℕ
map_text k m = places_text k m.places.items

-- ---- what worlds j and k share with one another

unfoldable pub shares_line : ℕ → ℕ → Span → List ℕ
shares_line j k x = ((codes "shares" ++ numbers_text j k) ++ addresses_text x.first x.last) ++ line_feed

abbrev pub shares_lines : ℕ → ℕ → List Span → List ℕ
shares_lines j k [] = []
shares_lines j k (x ∷ xs) = shares_line j k x ++ shares_lines j k xs

unfoldable pub apart_line : ℕ → ℕ → List ℕ
apart_line j k = (codes "apart" ++ numbers_text j k) ++ line_feed

-- the line `apart` where neither shares a span with the other, otherwise a line for each span: those that j shares with
-- k, and then those that k shares with j
abbrev pub pair_text : ℕ → ℕ → List Span → List Span → List ℕ
pair_text j k [] [] = apart_line j k
pair_text j k [] (y ∷ back) = shares_lines k j (y ∷ back)
pair_text j k (x ∷ there) back = shares_lines j k (x ∷ there) ++ shares_lines k j back
