-- The bytes that worlds share, span by span, world by world and pair by pair.
use Rattle.std.proofs.Common.{◌≡◌, ◌∙◌, ℕ, ◌+◌, ◌<◌, ◌≤◌, List, [], ◌∷◌, ◌++◌, ap, drop, get_or}
use Rattle.std.proofs.Common.{length, refl, subst, sym}
use Rattle.std.proofs.Math.ListN.{drop_of_length-le}
use Rattle.access_map.specs.declared.counting.WorldSteps.{WorldSteps}
use Rattle.access_map.specs.declared.world.World.{World}
use Rattle.access_map.specs.Sharing.{AreShared}
use Rattle.mpu.specs.declared.spans.Span.{Span}
use Rattle.page_text.proofs.Joining.{SoFar, at_first, at_last, items_from, part_on}
use Rattle.page_text.proofs.Shown.{no_more, then_more}
use Rattle.page_text.specs.declared.shares.Share.{Share}
use Rattle.page_text.specs.declared.shares.ShownShares.{ShownShares}
use Rattle.page_text.specs.AccessTables.{ArePairShares, AreSharesAmong, AreSharesTo, AreSharesWith, IsFollowed, Shows}
use Rattle.page_text.specs.AccessTables.{ShowsShares, max_shares, shares_of}
use Rattle.page_text.specs.Growing.{AddsShares, AddsSome}
use Rattle.platform.specs.Boards.{Numbers}

-- the shares that a list shows the first of
abbrev Showing : ShownShares → List Share → Type 0
Showing shown all = Shows max_shares all shown.items.items shown.others

abbrev Adding : ShownShares → ShownShares → List Share → Type 0
Adding old new shares = AddsShares shares old new

-- shares after shares
added_then : (old mid new : ShownShares) (xs ys : List Share) → AddsShares xs old mid → AddsShares ys mid new
    → AddsShares (xs ++ ys) old new
added_then old mid new xs ys first second = then_more (Showing old) (Showing mid) (Showing new) xs ys first second

pub two_added : (One Other : List Share → Type 0) (old mid new : ShownShares) → AddsSome One old mid
    → AddsSome Other mid new → AddsSome (IsFollowed One Other) old new
two_added One Other old mid new first second = record {
  shares = first.shares ++ second.shares;
  are = record {
    first = first.shares;
    rest = second.shares;
    is_first = first.are;
    is_rest = second.are;
    is = refl;
  };
  adds = added_then old mid new first.shares second.shares first.adds second.adds;
}

-- none was added
pub none_added : (Are : List Share → Type 0) (shown : ShownShares) → SoFar Are Are (Adding shown shown)
none_added Are shown =
    at_first Are (Adding shown shown) (λ all shows. no_more (Showing shown) all shows)

-- all were added
all_added : (Are Rest : List Share → Type 0) (old new : ShownShares) → Rest [] → SoFar Are Rest (Adding old new)
    → AddsSome Are old new
all_added Are Rest old new none so_far =
    let whole = at_last Are Rest (Adding old new) none so_far in
    record { shares = whole.all; are = whole.are; adds = whole.adds }

-- ---- the spans that one world shares with another

abbrev share_at : ℕ → ℕ → Span → Share
share_at j k x = record { writer = j; reader = k; span = x }

pub spans_on : (j k : ℕ) (spans : List Span) (i : ℕ) (x d : Span) (old mid new : ShownShares) → i < length spans
    → AddsShares (share_at j k x ∷ []) mid new → x ≡ get_or spans i d
    → SoFar (λ (shares : List Share). shares ≡ shares_of j k spans)
    (λ (more : List Share). more ≡ shares_of j k (drop i spans)) (Adding old mid)
    → SoFar (λ (shares : List Share). shares ≡ shares_of j k spans)
    (λ (more : List Share). more ≡ shares_of j k (drop (i + 1) spans)) (Adding old new)
spans_on j k spans i x d old mid new below one is so_far =
    part_on (λ (shares : List Share). shares ≡ shares_of j k spans)
    (λ (more : List Share). more ≡ shares_of j k (drop i spans))
    (λ (part : List Share). part ≡ share_at j k x ∷ [])
    (λ (more : List Share). more ≡ shares_of j k (drop (i + 1) spans)) (Adding old mid) (Adding old new)
    (share_at j k x ∷ []) refl (λ xs adds. added_then old mid new xs (share_at j k x ∷ []) adds one)
    (λ t followed. followed.is ∙ ap (λ (part : List Share). part ++ followed.rest) followed.is_first
    ∙ ap (λ (more : List Share). share_at j k x ∷ more) followed.is_rest
    ∙ sym (ap (shares_of j k) (items_from spans i x d below is))) so_far

pub spans_end : (board : Numbers) (j : ℕ) (v : World) (k : ℕ) (w : World) (spans : List Span) (i : ℕ)
    (old new : ShownShares) → length spans ≤ i → AreShared board v w [] spans
    → SoFar (λ (shares : List Share). shares ≡ shares_of j k spans)
    (λ (more : List Share). more ≡ shares_of j k (drop i spans)) (Adding old new)
    → AddsSome (AreSharesTo board j v k w) old new
spans_end board j v k w spans i old new few are so_far =
    let all =
    all_added (λ (shares : List Share). shares ≡ shares_of j k spans)
    (λ (more : List Share). more ≡ shares_of j k (drop i spans)) old new
    (sym (ap (shares_of j k) (drop_of_length-le spans few))) so_far in
    record { shares = all.shares; are = record { spans = spans; are = are; is = all.are }; adds = all.adds }

-- ---- a world and those after it

pub others_on : (Are : List Share → Type 0) (board : Numbers) (j : ℕ) (v : World) (k : ℕ) (later : List WorldSteps)
    (i : ℕ) (row d : WorldSteps) (old mid new : ShownShares) → i < length later
    → AddsSome (ArePairShares board j v k row.world) mid new → row ≡ get_or later i d
    → SoFar Are (AreSharesWith board j v k (drop i later)) (Adding old mid)
    → SoFar Are (AreSharesWith board j v (k + 1) (drop (i + 1) later)) (Adding old new)
others_on Are board j v k later i row d old mid new below added is so_far =
    part_on Are (AreSharesWith board j v k (drop i later)) (ArePairShares board j v k row.world)
    (AreSharesWith board j v (k + 1) (drop (i + 1) later)) (Adding old mid) (Adding old new) added.shares added.are
    (λ xs adds. added_then old mid new xs added.shares adds added.adds)
    (λ t followed. subst (λ (ws : List WorldSteps). AreSharesWith board j v k ws t)
    (sym (items_from later i row d below is)) followed) so_far

pub others_end : (Are : List Share → Type 0) (board : Numbers) (j : ℕ) (v : World) (k : ℕ) (later : List WorldSteps)
    (i : ℕ) (old new : ShownShares) → length later ≤ i
    → SoFar Are (AreSharesWith board j v k (drop i later)) (Adding old new) → AddsSome Are old new
others_end Are board j v k later i old new few so_far =
    all_added Are (AreSharesWith board j v k (drop i later)) old new
    (subst (λ (ws : List WorldSteps). AreSharesWith board j v k ws []) (sym (drop_of_length-le later few)) refl) so_far

-- ---- every two worlds

pub worlds_on : (Are : List Share → Type 0) (board : Numbers) (rows later : List WorldSteps) (i : ℕ)
    (row d : WorldSteps) (old new : ShownShares) → i < length rows
    → AddsSome (AreSharesWith board i row.world (i + 1) later) old new → later ≡ drop (i + 1) rows
    → row ≡ get_or rows i d → SoFar Are (AreSharesAmong board i (drop i rows)) (Showing old)
    → SoFar Are (AreSharesAmong board (i + 1) (drop (i + 1) rows)) (Showing new)
worlds_on Are board rows later i row d old new below added after is so_far =
    part_on Are (AreSharesAmong board i (drop i rows)) (AreSharesWith board i row.world (i + 1) (drop (i + 1) rows))
    (AreSharesAmong board (i + 1) (drop (i + 1) rows)) (Showing old) (Showing new) added.shares
    (subst (λ (ws : List WorldSteps). AreSharesWith board i row.world (i + 1) ws added.shares) after added.are)
    added.adds
    (λ t followed. subst (λ (ws : List WorldSteps). AreSharesAmong board i ws t)
    (sym (items_from rows i row d below is)) followed) so_far

pub worlds_end : (board : Numbers) (rows : List WorldSteps) (i : ℕ) (shown : ShownShares) → length rows ≤ i
    → SoFar (AreSharesAmong board 0 rows) (AreSharesAmong board i (drop i rows)) (Showing shown)
    → ShowsShares rows board shown
worlds_end board rows i shown few so_far =
    let whole =
    at_last (AreSharesAmong board 0 rows) (AreSharesAmong board i (drop i rows)) (Showing shown)
    (subst (λ (ws : List WorldSteps). AreSharesAmong board i ws []) (sym (drop_of_length-le rows few)) refl) so_far in
    record { all = whole.all; right = whole.are; shows = whole.adds }
