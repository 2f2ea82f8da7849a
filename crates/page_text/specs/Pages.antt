-- What each page begins and ends with.
use Rattle.std.specs.Prelude.{◌≡◌, ◌++◌, List, ℕ, codes}
use Rattle.page_text.specs.Edges.{page_start}

-- what a page ends with
abbrev pub page_end : List ℕ
page_end = codes "</html>\n"

-- the bytes of a page: an HTML document
pub record IsPage (page : List ℕ) : Type 0 where
  pub content : List ℕ
  pub whole : page ≡ (page_start ++ content) ++ page_end
