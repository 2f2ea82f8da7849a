-- The test for segments that share an address, and what it says of all pairs and all addresses.
use Rattle.std.proofs.Common.{◌≡◌, ◌↔◌, suc, max, Bool, false, List, [], ◌∷◌, refl, arith}
use Rattle.std.proofs.lemmas.Bool.Decides.{nat_tests}
use Rattle.std.proofs.lemmas.List.Elements.{All-nil, All-cons}
use Rattle.std.proofs.lemmas.List.Folds.{list_any_none}
use Rattle.std.proofs.lemmas.List.Kept.{AllPairs-cons}
use Rattle.std.proofs.lemmas.Bool.{false_from_ne_true, or_parts}
use Rattle.std.specs.List.{All, AllPairs, list_any}
use Rattle.platform.specs.Images.{Segment, AreSegmentsApart, ShareNoTarget, have_overlap, share_an_address}

-- where the test finds no address of both, there is none
apart_from : (one other : Segment) → share_an_address one other ≡ false → ShareNoTarget one other
apart_from one other none address of_one of_other = grind (arith, nat_tests)

-- where there is none, the test finds none: the later of the two beginnings would be one
unshared : (one other : Segment) → ShareNoTarget one other → share_an_address one other ≡ false
unshared one other apart =
    false_from_ne_true (share_an_address one other)
    (λ shared. apart (max one.address other.address) (grind (arith, nat_tests)) (grind (arith, nat_tests)))

none_shared : (segment : Segment) (others : List Segment) →
    list_any (share_an_address segment) others ≡ false → All (ShareNoTarget segment) others
none_shared segment [] none = All-nil (ShareNoTarget segment)
none_shared segment (other ∷ others) none =
    let (here, more) = or_parts (share_an_address segment other) (list_any (share_an_address segment) others) none in
    All-cons (ShareNoTarget segment) other others (apart_from segment other here) (none_shared segment others more)

all_apart : (segments : List Segment) → have_overlap segments ≡ false → AllPairs ShareNoTarget segments
all_apart [] none = λ i j d before inside. absurd (omega arith)
all_apart (segment ∷ others) none =
    let (here, more) = or_parts (list_any (share_an_address segment) others) (have_overlap others) none in
    AllPairs-cons ShareNoTarget segment others (none_shared segment others here) (all_apart others more)

no_overlap : (segments : List Segment) → AllPairs ShareNoTarget segments → have_overlap segments ≡ false
no_overlap [] apart = refl
no_overlap (segment ∷ others) apart =
    let here : list_any (share_an_address segment) others ≡ false =
    list_any_none (share_an_address segment) others
    (λ k d inside. unshared segment _ (apart 0 (suc k) d (omega arith) (omega arith))) in
    let more : have_overlap others ≡ false =
    no_overlap others (λ i j d before inside. apart (suc i) (suc j) d (omega arith) (omega arith)) in
    rw (here, more)

-- the test finds no pair just where all pairs are apart
pub none_overlap : (segments : List Segment) (found : Bool) → found ≡ have_overlap segments →
    (found ≡ false) ↔ AreSegmentsApart segments
unfolding AreSegmentsApart
none_overlap segments found same =
    rw same (all_apart segments, no_overlap segments)

-- no segments are apart
pub none_apart : AreSegmentsApart []
unfolding AreSegmentsApart
none_apart = all_apart [] refl
