-- What a contract sees of a list of bounded length.
use Rattle.std.specs.Prelude.{List, refl}
use Rattle.std.specs.Coded.{Coded, code_by, coded_list}

-- the elements, in order
pub record Bounded (T : Type 0) : Type 0 where
  pub items : List T

-- such a list is stored as the list of its elements
abbrev pub bounded_code : {T : Type 0} → Coded T → Coded (Bounded T)
bounded_code {T} code =
    code_by (List T) (coded_list code) (λ b. b.items) (λ xs. record { items = xs }) (λ _. refl)
