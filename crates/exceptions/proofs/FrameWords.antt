-- The words of a frame, accessed one after the other.
use Rattle.std.proofs.Common.{◌≡◌, ◌∙◌, ℕ, ◌+◌, ◌<◌, ◌≤◌, List, ◌∷◌, [], ◌++◌, length, drop, get_or, Bool}
use Rattle.std.proofs.Common.{Ok, Err, Some, None, refl, sym, ap, arith, add-one}
use Rattle.std.proofs.Math.ListN.{drop_of_length-le}
use Rattle.std.proofs.Math.Seq.{drop-cons}
use Rattle.exceptions.proofs.Performing.{added_to, all_performed, ended_early, lines_by, one_more, value_by}
use Rattle.instruction_set.specs.declared.size.Size.TheVariants.{Word}
use Rattle.instruction_set.specs.Words.{word_sum}
use Rattle.platform.specs.declared.access.Kind.{Kind}
use Rattle.platform.specs.declared.event.Event.{Event}
use Rattle.reference.specs.Accesses.{ListResult, perform, perform_all}
use Rattle.reference.specs.declared.failure.Failure.{Failure}
use Rattle.reference.specs.ExceptionEntry.{words_from}
use Rattle.reference.specs.LoadStore.{request}
use Rattle.reference.specs.State.{Bus}

-- the first of the words that are left, and those after it
this_word : (kind : Kind) (privileged : Bool) (at : ℕ) (words : List ℕ) (i d : ℕ) → i < length words
    → words_from kind privileged at (drop i words)
    ≡ request kind privileged Word at (get_or words i d)
    ∷ words_from kind privileged (word_sum at 4) (drop (i + 1) words)
this_word kind privileged at words i d below = rw (drop-cons words i d below, add-one) refl

-- one access more was done
pub word_done : (exception tick : ℕ) (b : Bus) (kind : Kind) (privileged : Bool) (at : ℕ) (words : List ℕ)
    (i d value : ℕ) (events : List Event) (values : List ℕ) → i < length words
    → (let q = request kind privileged Word at (get_or words i d) in
    value_by exception b q ≡ Ok value
    → added_to events values (perform_all exception tick b (words_from kind privileged at (drop i words)))
    ≡ added_to (events ++ lines_by exception tick b q) (values ++ value ∷ [])
    (perform_all exception tick (perform exception b q).after
    (words_from kind privileged (word_sum at 4) (drop (i + 1) words))))
word_done exception tick b kind privileged at words i d value events values below went =
    let q = request kind privileged Word at (get_or words i d) in
    ap (λ qs. added_to events values (perform_all exception tick b qs)) (this_word kind privileged at words i d below)
    ∙ one_more exception tick b (q ∷ words_from kind privileged (word_sum at 4) (drop (i + 1) words)) 0 value q events
    values (omega arith) went

-- an access failed: the frame ends with it
pub word_failed : (exception tick : ℕ) (b : Bus) (kind : Kind) (privileged : Bool) (at : ℕ) (words : List ℕ)
    (i d : ℕ) (why : Failure) (events : List Event) (values : List ℕ) (all : ListResult) → i < length words
    → (let q = request kind privileged Word at (get_or words i d) in
    value_by exception b q ≡ Err why
    → added_to events values (perform_all exception tick b (words_from kind privileged at (drop i words))) ≡ all
    → ((perform exception b q).after ≡ all.bus) × (events ++ lines_by exception tick b q ≡ all.events)
    × (all.failure ≡ Some why))
word_failed exception tick b kind privileged at words i d why events values all below failed rest =
    let q = request kind privileged Word at (get_or words i d) in
    ended_early exception tick b (q ∷ words_from kind privileged (word_sum at 4) (drop (i + 1) words)) 0 q why events
    values all (omega arith) failed
    (ap (λ qs. added_to events values (perform_all exception tick b qs))
    (sym (this_word kind privileged at words i d below))
    ∙ rest)

-- no word is left
pub words_done : (exception tick : ℕ) (b : Bus) (kind : Kind) (privileged : Bool) (at : ℕ) (words : List ℕ) (i : ℕ)
    (events : List Event) (values : List ℕ) (all : ListResult) → length words ≤ i
    → added_to events values (perform_all exception tick b (words_from kind privileged at (drop i words))) ≡ all
    → (b ≡ all.bus) × (events ≡ all.events) × (values ≡ all.values) × (all.failure ≡ None)
words_done exception tick b kind privileged at words i events values all past rest =
    all_performed exception tick b [] 0 events values all (omega arith)
    (rw (drop_of_length-le words past) at rest)
