-- The dumps that texts ask for, text by text.
use Rattle.std.proofs.Common.{◌≡◌, ◌∙◌, ◌<◌, ◌≤◌, ◌+◌, ℕ, List, [], ◌∷◌, ◌++◌, Option, Some, None, Bor}
use Rattle.std.proofs.Common.{ap, length, map, option_map, slice_index_or, sym}
use Rattle.command_line.proofs.Listing.{ListedSoFar, listed_all, listed_more, listed_none}
use Rattle.command_line.specs.Dumps.{dump_named, value_of}
use Rattle.command_line.specs.declared.dumps.Dump.{Dump}

-- the texts ask for these dumps, and then for what those from a place on ask for
abbrev pub AskedSoFar : List (Bor (List ℕ)) → List Dump → ℕ → Type 0
AskedSoFar texts dumps place = ListedSoFar dump_named value_of texts dumps place

-- the next text asks for one dump more
pub asked_more : (texts : List (Bor (List ℕ))) (dumps more : List Dump) (place : ℕ) (blank : Bor (List ℕ))
    (found : Option Dump) (dump : Dump)
    → place < length texts → option_map value_of found ≡ dump_named (slice_index_or texts place blank).now
    → found ≡ Some dump → more ≡ dumps ++ dump ∷ [] → AskedSoFar texts dumps place → AskedSoFar texts more (place + 1)
asked_more texts dumps more place blank found dump within is some longer so_far =
    listed_more dump_named value_of texts dumps more place blank dump within
    (sym (ap (option_map value_of) some) ∙ is) longer so_far

-- the next text asks for none, so the texts ask for no dumps
pub asked_none : (texts : List (Bor (List ℕ))) (dumps : List Dump) (place : ℕ) (blank : Bor (List ℕ))
    (found : Option Dump)
    → place < length texts → option_map value_of found ≡ dump_named (slice_index_or texts place blank).now
    → found ≡ None → AskedSoFar texts dumps place
    → (all : List Dump) → ¬ (map dump_named (map (λ t. t.now) texts) ≡ map (λ d. Some (value_of d)) all)
asked_none texts dumps place blank found within is none so_far =
    listed_none dump_named value_of texts dumps place blank within (sym (ap (option_map value_of) none) ∙ is) so_far

-- no text is left
pub asked_all : (texts : List (Bor (List ℕ))) (dumps : List Dump) (place : ℕ) → length texts ≤ place
    → AskedSoFar texts dumps place
    → map dump_named (map (λ t. t.now) texts) ≡ map (λ d. Some (value_of d)) dumps
asked_all texts dumps place all so_far = listed_all dump_named value_of texts dumps place all so_far

pub ruleset dumping = (asked_more, asked_none, asked_all)
