-- A name without a name of UTF-8 isn't shown: it has a byte that isn't visible.
use Rattle.std.proofs.Common.{◌≡◌, refl, ap, ℕ, zero, suc, ◌<◌, Bool, true, false, nat_le, ◌&&◌, List, [], ◌∷◌}
use Rattle.std.proofs.Common.{Option, Some, None, arith}
use Rattle.std.proofs.lemmas.Bool.Decides.{nat_tests}
use Rattle.std.proofs.lemmas.Str.{IsUtf8-from_ascii}
use Rattle.std.proofs.lemmas.Str.Ascii.{IsAscii-nil}
use Rattle.std.specs.List.{list_all}
use Rattle.std.specs.Str.{IsAscii}
use Rattle.symbols.specs.declared.symbol.Symbol.{Symbol}
use Rattle.symbols.specs.Named.{IsNameless, NamesAddress}
use Rattle.symbols.specs.Tables.{name_in}
use Rattle.access_map.specs.Names.{is_visible, name_of, visible_name}

both : (a b : Bool) → (a && b) ≡ true → (a ≡ true) × (b ≡ true)
both true b e = (refl, e)
both false b e = absurd cc

visible_is_small : (b : ℕ) → is_visible b ≡ true → b < 128
visible_is_small b e =
    let below : nat_le b 0x7E ≡ true = (both (nat_le 0x21 b) _ e).1 in grind (arith, nat_tests, below)

visible_is_ascii : (bs : List ℕ) → list_all is_visible bs ≡ true → IsAscii bs
visible_is_ascii [] e i = IsAscii-nil i
visible_is_ascii (b ∷ bs) e zero = visible_is_small b (both _ _ e).0
visible_is_ascii (b ∷ bs) e (suc i) = visible_is_ascii bs (both (is_visible b) _ e).1 i

-- an address without a name shows none
pub nameless_shows_none : (strings : List ℕ) (o : Option Symbol) → IsNameless strings o → name_of strings o ≡ []
nameless_shows_none strings None h = refl
nameless_shows_none strings (Some s) h = lead (list_all is_visible (name_in strings s.name)) refl
  where
    lead : (b : Bool) → list_all is_visible (name_in strings s.name) ≡ b → name_of strings (Some s) ≡ []
    lead true e = absurd (h (IsUtf8-from_ascii _ (visible_is_ascii _ e)))
    lead false e = rw e refl

-- an address with a name shows it, if it is visible
pub named_shows_name : (strings : List ℕ) (a : ℕ) (o : Option Symbol) (name : List ℕ) (offset : ℕ)
    → NamesAddress strings a o name offset → visible_name name ≡ name_of strings o
named_shows_name strings a None name offset h = absurd h
named_shows_name strings a (Some s) name offset h = ap visible_name h.0

pub ruleset shown_lemmas = (nameless_shows_none, named_shows_name)
