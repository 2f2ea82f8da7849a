-- What a page begins and ends with.
use Rattle.std.proofs.Common.{◌≡◌, ◌∙◌, ◌≤◌, ◌++◌, Bool, true, false, if◌then◌else◌, List, ℕ}
use Rattle.std.proofs.Common.{ap, arith, codes, drop, length}
use Rattle.std.proofs.Common.{sym, take, take-append-drop}
use Rattle.std.proofs.lemmas.List.{length-take, take-append-le}
use Rattle.page_text.specs.Edges.{page_start}
use Rattle.page_text.specs.Pages.{IsPage, page_end}

-- the first line stays where more is written after it
pub still_begins : (before after more : List ℕ) (ok : Bool) → take 16 before ≡ page_start
    → after ≡ (if ok then before ++ more else before) → take 16 after ≡ page_start
still_begins before after more true begins is =
    let long : 16 ≤ length before = omega (arith, ap length begins, length-take 16 before) in
    ap (take 16) is ∙ take-append-le 16 before more long ∙ begins
still_begins before after more false begins is = ap (take 16) is ∙ begins

pub whole_page : (before page : List ℕ) → take 16 before ≡ page_start → page ≡ before ++ page_end → IsPage page
whole_page before page begins is = record {
  content = drop 16 before;
  whole = is ∙ ap (λ l. l ++ page_end) (sym (take-append-drop 16 before) ∙ ap (λ l. l ++ drop 16 before) begins);
}
