-- What each page begins with.
use Rattle.std.specs.Prelude.{List, ℕ, codes}

abbrev pub page_start : List ℕ
page_start = codes "<!DOCTYPE html>\n"
