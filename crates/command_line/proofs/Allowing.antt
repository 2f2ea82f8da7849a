-- The spans that texts ask for, text by text.
use Rattle.std.proofs.Common.{◌≡◌, ◌∙◌, ◌<◌, ◌≤◌, ◌+◌, ℕ, List, [], ◌∷◌, ◌++◌, Option, Some, None, Bor}
use Rattle.std.proofs.Common.{length, map, slice_index_or, sym}
use Rattle.command_line.proofs.Listing.{ListedSoFar, listed_all, listed_more, listed_none}
use Rattle.command_line.specs.Allowed.{span_named}
use Rattle.mpu.specs.declared.spans.Span.{Span}

-- the texts ask for these spans, and then for what those from a place on ask for
abbrev pub AllowedSoFar : List (Bor (List ℕ)) → List Span → ℕ → Type 0
AllowedSoFar texts spans place = ListedSoFar span_named (λ span. span) texts spans place

-- the next text asks for one span more
pub allowed_more : (texts : List (Bor (List ℕ))) (spans more : List Span) (place : ℕ) (blank : Bor (List ℕ))
    (found : Option Span) (span : Span)
    → place < length texts → found ≡ span_named (slice_index_or texts place blank).now
    → found ≡ Some span → more ≡ spans ++ span ∷ [] → AllowedSoFar texts spans place
    → AllowedSoFar texts more (place + 1)
allowed_more texts spans more place blank found span within is some longer so_far =
    listed_more span_named (λ span. span) texts spans more place blank span within (sym some ∙ is) longer so_far

-- the next text asks for none, so the texts ask for no spans
pub allowed_none : (texts : List (Bor (List ℕ))) (spans : List Span) (place : ℕ) (blank : Bor (List ℕ))
    (found : Option Span)
    → place < length texts → found ≡ span_named (slice_index_or texts place blank).now → found ≡ None
    → AllowedSoFar texts spans place
    → (all : List Span) → ¬ (map span_named (map (λ t. t.now) texts) ≡ map (λ s. Some s) all)
allowed_none texts spans place blank found within is none so_far =
    listed_none span_named (λ span. span) texts spans place blank within (sym none ∙ is) so_far

-- no text is left
pub allowed_all : (texts : List (Bor (List ℕ))) (spans : List Span) (place : ℕ) → length texts ≤ place
    → AllowedSoFar texts spans place
    → map span_named (map (λ t. t.now) texts) ≡ map (λ s. Some s) spans
allowed_all texts spans place all so_far = listed_all span_named (λ span. span) texts spans place all so_far

pub ruleset allowing = (allowed_more, allowed_none, allowed_all)
