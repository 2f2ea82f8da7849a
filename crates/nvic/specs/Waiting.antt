-- What `PlainExceptions` keeps beside its sets.
use Rattle.std.specs.Prelude.{ℕ, Bool, List}
use Rattle.std.specs.List.{count_by}

-- how many numbers are in a set
abbrev pub count_in : List Bool → ℕ
count_in set = count_by (λ (b : Bool). b) set
