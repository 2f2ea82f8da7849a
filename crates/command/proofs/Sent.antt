-- A text that was put, and then sent or not.
use Rattle.std.proofs.Common.{◌≡◌, ◌∙◌, ◌+◌, [], ◌∷◌, ◌++◌, List, Option, ℕ, ap, append-nil, sym}
use Rattle.std.proofs.KnownBytes.{Appends-kept, Appends-nil, Appends-trans}
use Rattle.std.proofs.lemmas.List.{append_assoc}
use Rattle.std.specs.Io.KnownBytes.{Appends, Keeps}
use Rattle.command.specs.Sending.{IsCut, SendsAll}
use Rattle.output.specs.Output.{GrowsByPrefix, IsCutShort, Writing, WritesAll}

-- all of it was put, and what waited was sent
pub sent_whole : (text : List ℕ) (old mid new : Writing) → WritesAll old mid text
    → Keeps mid.written new.written × (new.errors ≡ mid.errors) × (new.waits ≡ []) → SendsAll text old new
sent_whole text old mid new put sent =
    (Appends-kept old.written mid.written new.written text put.0 sent.0, sent.2, sent.1 ∙ put.1)

-- all of it was put, and a call failed that was to send what waited
pub cut_after : (text : List ℕ) (old mid new : Writing) → WritesAll old mid text
    → Keeps mid.written new.written × (new.errors ≡ mid.errors + 1) → IsCut text old new
cut_after text old mid new put failed = (
  record {
    front = text;
    later = [];
    whole = sym (append-nil text);
    grew = Appends-kept old.written mid.written new.written text put.0 failed.0;
  },
  failed.1 ∙ ap (λ n. n + 1) put.1,
)

-- a call failed that was to put it
pub cut_before : (text : List ℕ) (old new : Writing)
    → IsCutShort old.written new.written text × (new.errors ≡ old.errors + 1) → IsCut text old new
cut_before text old new cut = (
  record { front = cut.0.front; later = cut.0.byte ∷ cut.0.later; whole = cut.0.whole; grew = cut.0.went },
  cut.1,
)

pub ruleset sent_lemmas = (sent_whole, cut_after, cut_before)

-- ---- two texts, one after the other

-- nothing was put
pub nothing_put : (known : Option (List ℕ)) → Appends known known []
nothing_put known = Appends-nil known

both : (first second : List ℕ) (old mid new : Writing) → WritesAll old mid first → WritesAll mid new second
    → WritesAll old new (first ++ second)
both first second old mid new a b =
    (Appends-trans old.written mid.written new.written first second a.0 b.0, b.1 ∙ a.1)

pub sent_both : (first second : List ℕ) (old mid more new : Writing) → WritesAll old mid first
    → WritesAll mid more second → Keeps more.written new.written × (new.errors ≡ more.errors) × (new.waits ≡ [])
    → SendsAll (first ++ second) old new
sent_both first second old mid more new a b sent =
    sent_whole (first ++ second) old more new (both first second old mid more a b) sent

pub cut_after_both : (first second : List ℕ) (old mid more new : Writing) → WritesAll old mid first
    → WritesAll mid more second → Keeps more.written new.written × (new.errors ≡ more.errors + 1)
    → IsCut (first ++ second) old new
cut_after_both first second old mid more new a b failed =
    cut_after (first ++ second) old more new (both first second old mid more a b) failed

-- the second one was cut
pub cut_in_second : (first second : List ℕ) (old mid new : Writing) → WritesAll old mid first
    → IsCutShort mid.written new.written second × (new.errors ≡ mid.errors + 1) → IsCut (first ++ second) old new
cut_in_second first second old mid new a cut = (
  record {
    front = first ++ cut.0.front;
    later = cut.0.byte ∷ cut.0.later;
    whole =
        ap (λ (l : List ℕ). first ++ l) cut.0.whole ∙ sym (append_assoc first cut.0.front (cut.0.byte ∷ cut.0.later));
    grew = Appends-trans old.written mid.written new.written first cut.0.front a.0 cut.0.went;
  },
  cut.1 ∙ ap (λ n. n + 1) a.1,
)

-- the first one was cut
pub cut_in_first : (first second : List ℕ) (a b : Option (List ℕ)) (m n : ℕ)
    → GrowsByPrefix a b first × (n ≡ m + 1) → GrowsByPrefix a b (first ++ second) × (n ≡ m + 1)
cut_in_first first second a b m n cut = (
  record {
    front = cut.0.front;
    later = cut.0.later ++ second;
    whole = ap (λ (l : List ℕ). l ++ second) cut.0.whole ∙ append_assoc cut.0.front cut.0.later second;
    grew = cut.0.grew;
  },
  cut.1,
)

pub ruleset output_lemmas = (sent_both, cut_after_both, cut_in_second)
