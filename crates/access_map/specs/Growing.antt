-- How a list of places grows. No public contract cites it.
use Rattle.std.specs.Prelude.{List, [], ◌∷◌, ◌++◌, Option, Some, None}
use Rattle.access_map.specs.declared.board_place.BoardPlace.{BoardPlace}
use Rattle.access_map.specs.declared.board_place.Part.{Part}
use Rattle.access_map.specs.declared.board_place.PlaceKind.{PlaceKind}

-- a place of some kind that has the addresses of a part
abbrev pub place_of : PlaceKind → Part → BoardPlace
place_of kind x = record { kind = kind; first = x.first; last = x.last }

-- the places, and the part as one of some kind, if it has one
abbrev pub with_kind : List BoardPlace → Part → Option PlaceKind → List BoardPlace
with_kind ps x None = ps
with_kind ps x (Some kind) = ps ++ place_of kind x ∷ []

abbrev pub with_part : List BoardPlace → Part → List BoardPlace
with_part ps x = with_kind ps x x.kind
